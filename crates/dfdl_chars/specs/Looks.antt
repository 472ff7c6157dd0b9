-- How the code of a look and what follows from it go together.
use Rattle.std.specs.Prelude.{ℕ, Result, Ok, Err}
use Rattle.dfdl_forms.specs.declared.order.ByteOrder.{ByteOrder}
use Rattle.dfdl_forms.specs.declared.order.ByteOrder.TheVariants.{Big, Little}
use Rattle.dfdl_chars.specs.declared.decode.Chars.{Chars}
use Rattle.dfdl_chars.specs.declared.decode.Looked.{Looked}
use Rattle.dfdl_chars.specs.Decoding.{Walk, Decoded, found, big_unit, little_unit}
use Rattle.dfdl_chars.specs.declared.utf16.Unit.{Unit}

-- an answer after so many looks
abbrev pub answered : Chars × ℕ → ℕ → Decoded
answered answer looks = found answer.0 (record { far = answer.1; looks = looks })

-- what follows from a look whose outcome this is, after so many looks
abbrev pub after : Result Looked (Chars × ℕ) → ℕ → (ℕ → Walk → Decoded) → Decoded
after (Ok seen) looks go = go seen.byte (record { far = seen.far; looks = looks })
after (Err answer) looks go = answered answer looks

-- the same of a unit of UTF-16
abbrev pub after_unit : Result Unit (Chars × ℕ) → ℕ → (ℕ → Walk → Decoded) → Decoded
after_unit (Ok seen) looks go = go seen.unit (record { far = seen.far; looks = looks })
after_unit (Err answer) looks go = answered answer looks

-- the unit of two bytes in the order
abbrev pub joined_by : ByteOrder → ℕ → ℕ → ℕ
joined_by Big = big_unit
joined_by Little = little_unit
