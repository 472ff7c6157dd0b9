-- The bytes of fill ('Framing', on fillByte).
use Rattle.std.specs.Prelude.{Bool, true, false, not, ◌&&◌, codes}
use Rattle.std.specs.Str.{chars}
use Rattle.dfdl_literals.specs.Fills.{fill_reading}
use Rattle.dfdl_literals.specs.declared.fill.FillByte.{FillByte}
use Rattle.dfdl_literals.specs.declared.fill.FillByte.TheVariants.{Byte, Malformed, Other}
use Rattle.dfdl_scope.specs.Expressions.{is_expression, literal}
use Rattle.dfdl_scope.specs.Scoping.{Told, Value, Absent, Twice}
use Rattle.dfdl_checks.specs.Judged.{Judged}
use Rattle.dfdl_checks.specs.Subjects.{is_unframed, told_at}

-- the text is no string literal and no list of them
abbrev pub is_malformed_byte : FillByte → Bool
is_malformed_byte (Byte byte) = false
is_malformed_byte Malformed = true
is_malformed_byte Other = false

-- the text is made of literals that are no single byte
abbrev pub is_other_byte : FillByte → Bool
is_other_byte (Byte byte) = false
is_other_byte Malformed = false
is_other_byte Other = true

-- a byte is told by a text that is no expression, and that is no string literal and no list of them
abbrev pub is_malformed_told : Told → Bool
is_malformed_told (Value written) = not (is_expression written) && is_malformed_byte (fill_reading (chars (literal written)))
is_malformed_told Absent = false
is_malformed_told (Twice place) = false

-- a byte is told by a text that is no expression, and that is made of literals which are no single byte
abbrev pub is_other_byte_told : Told → Bool
is_other_byte_told (Value written) = not (is_expression written) && is_other_byte (fill_reading (chars (literal written)))
is_other_byte_told Absent = false
is_other_byte_told (Twice place) = false

-- a component with fill, whose byte is told by such a text
abbrev pub is_fill_malformed : Judged → Bool
is_fill_malformed subject = not (is_unframed subject.kind) && is_malformed_told (told_at subject (codes "fillByte"))

-- a component with fill, whose byte is told as no single one
abbrev pub is_fill_other : Judged → Bool
is_fill_other subject = not (is_unframed subject.kind) && is_other_byte_told (told_at subject (codes "fillByte"))
