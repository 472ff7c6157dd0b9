-- The pattern that tells the length of an element ('Lengths', on lengthKind pattern).
use Rattle.std.specs.Prelude.{ℕ, List, Bool, not, ◌&&◌, Option, Some, None, codes, if◌then◌else◌}
use Rattle.dfdl_forms.specs.declared.encoding.Encoding.{Encoding}
use Rattle.dfdl_length_patterns.specs.Patterns.{anchored}
use Rattle.dfdl_scope.specs.Expressions.{is_expression, literal}
use Rattle.dfdl_scope.specs.Scoping.{Told, Value, Absent, Twice}
use Rattle.dfdl_terms.specs.declared.prefix.LengthUnit.TheVariants as unit
use Rattle.dfdl_terms.specs.declared.row.Primitive.TheVariants.{Pattern}
use Rattle.dfdl_checks.specs.Encodings.{encoding_told}
use Rattle.dfdl_checks.specs.Judged.{Judged}
use Rattle.dfdl_checks.specs.Subjects.{is_binary_number, is_by_pattern, is_element, told_at}
use Rattle.dfdl_checks.specs.declared.prefixes.PrefixForm.{PrefixForm}
use Rattle.dfdl_checks.specs.declared.purpose.Purpose.{Purpose}
use Rattle.dfdl_checks.specs.declared.purpose.Purpose.TheVariants.{Parsing, Unparsing}

-- the text of a pattern that is told, where it is no expression
abbrev pub pattern_told : Told → Option (List ℕ)
pattern_told (Value written) = if is_expression written then None else Some (literal written)
pattern_told Absent = None
pattern_told (Twice place) = None

-- an element whose length a pattern can tell, and does: it is no binary number
abbrev pub is_measured : Judged → Bool
is_measured subject = is_element subject.kind && is_by_pattern subject && not (is_binary_number subject)

-- the pattern of such an element, which is built for parsing
abbrev pub pattern_for : Purpose → Judged → Option (List ℕ)
pattern_for Parsing subject = if is_measured subject then pattern_told (told_at subject (codes "lengthPattern")) else None
pattern_for Unparsing subject = None

-- the text of the pattern that tells the component's length, whether it can be built or not
abbrev pub length_pattern : Judged → Option (List ℕ)
length_pattern subject = pattern_for subject.purpose subject

-- the encoding in which the data are read for it
abbrev pub pattern_encoding : Judged → Option Encoding
pattern_encoding subject = encoding_told (told_at subject (codes "encoding"))

-- what stands before a content whose length is told by a pattern of this text, in this encoding: it takes no bits, and tells bytes
abbrev pub form_by : Option Encoding → Option (List ℕ) → Option PrefixForm
form_by (Some encoding) (Some text) =
    Some (record { primitive = Pattern (record { encoding = encoding; pattern = anchored text }); unit = unit.Bytes; own = 0 })
form_by _ _ = None

-- the same of a component, where its pattern can be built
abbrev pub pattern_prefix : Judged → Option PrefixForm
pattern_prefix subject = if subject.pattern_is_refused then None else form_by (pattern_encoding subject) (length_pattern subject)
