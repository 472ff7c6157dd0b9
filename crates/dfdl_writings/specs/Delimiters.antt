-- What an initiator, terminator or separator is written as. 'Framing' (initiator, terminator, outputNewLine) and 'Sequence Groups'
-- (separator).
use Rattle.std.specs.Prelude.{ℕ, ◌*◌, List, length, Option, None, Some, Result, Ok, Err}
use Rattle.dfdl_terms.specs.declared.delimiters.Delimiters.{Delimiters}
use Rattle.dfdl_writings.specs.declared.fault.Unwritten.{Unwritten}
use Rattle.dfdl_writings.specs.declared.fault.Unwritten.TheVariants.{NotInEncoding}
use Rattle.dfdl_writings.specs.declared.form.Written.{Written}
use Rattle.dfdl_writings.specs.Literals.{first_literal, literal_bytes}

-- these bytes, if they are there, and no fill
abbrev pub whole : Option (List ℕ) → Result Written Unwritten
whole None = Err NotInEncoding
whole (Some bytes) = Ok (record { bytes = bytes; bits = 8 * length bytes; fill = 0 })

-- What a delimiter is written as: the first literal of its list, with this line break for `%NL;`. A list without a literal is written
-- as nothing.
abbrev pub delimiter : List ℕ → Delimiters → Result Written Unwritten
delimiter new_line list = whole (literal_bytes list.encoding new_line (first_literal list.literals))
