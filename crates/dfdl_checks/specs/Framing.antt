-- The fill around the content of a component without a breach, in bits ('Framing').
use Rattle.std.specs.Prelude.{ℕ, List, ◌*◌, None, codes, if◌then◌else◌}
use Rattle.std.specs.Option.{unwrap_or}
use Rattle.dfdl_forms.specs.declared.simple.Simple.{Simple}
use Rattle.dfdl_forms.specs.declared.simple.Simple.TheVariants.{Boolean, Short, Int as IntType, Long, UnsignedShort, UnsignedInt, UnsignedLong}
use Rattle.dfdl_scope.specs.Expressions.{literal}
use Rattle.dfdl_scope.specs.Scoping.{Told, Value, Absent, Twice}
use Rattle.dfdl_terms.specs.Framing.{no_fill}
use Rattle.dfdl_terms.specs.declared.framing.Framing.{Framing}
use Rattle.dfdl_checks.specs.Judged.{Judged}
use Rattle.dfdl_checks.specs.Subjects.{is_bare, is_binary, is_told, is_word, told_at}
use Rattle.dfdl_checks.specs.Values.{number_within}
use Rattle.dfdl_checks.specs.declared.purpose.Purpose.{Purpose}
use Rattle.dfdl_checks.specs.declared.purpose.Purpose.TheVariants.{Parsing, Unparsing}
use Rattle.dfdl_checks.specs.declared.subject.Kind.{Kind}
use Rattle.dfdl_checks.specs.declared.subject.Kind.TheVariants.{ComplexElement, SimpleElement, UncarriedElement, CalculatedElement, Sequence, HiddenSequence, Choice, PrefixNumber}

-- how many bits a unit of fill has, by what is told of the units: bytes, else bits
abbrev pub fill_unit : Told → ℕ
fill_unit units = if is_word (codes "bytes") units then 8 else 1

-- the units of fill that digits stand for, from the least number to 65536, else this number
abbrev pub amount_of : ℕ → ℕ → List ℕ → ℕ
amount_of least otherwise text = unwrap_or (number_within least 65536 text) otherwise

-- the same of what is told
abbrev pub amount_told : ℕ → ℕ → Told → ℕ
amount_told least otherwise (Value written) = amount_of least otherwise (literal written)
amount_told least otherwise Absent = otherwise
amount_told least otherwise (Twice place) = otherwise

-- how many bits a unit of the component's fill has
abbrev pub unit_at : Judged → ℕ
unit_at subject = fill_unit (told_at subject (codes "alignmentUnits"))

-- a skip of the component, by its name, in bits
abbrev pub skip_of : Judged → List ℕ → ℕ
skip_of subject name = amount_told 0 0 (told_at subject name) * unit_at subject

-- The implicit alignment of a binary number or boolean of the type, in bits. That of a decimal and of an integer without a size is 8.
abbrev pub type_alignment : Simple → ℕ
type_alignment Short = 16
type_alignment UnsignedShort = 16
type_alignment IntType = 32
type_alignment UnsignedInt = 32
type_alignment Long = 64
type_alignment UnsignedLong = 64
type_alignment Boolean = 32
type_alignment _ = 8

-- the implicit alignment of an element of the type, in bits: that of the type where it is binary, packed numbers among them, else 8
abbrev pub simple_alignment : Judged → Simple → ℕ
simple_alignment subject simple = if is_binary subject then type_alignment simple else 8

-- the implicit alignment of a component of the kind, in bits; those that are no simple elements have none
abbrev pub implicit_alignment : Judged → Kind → ℕ
implicit_alignment subject (SimpleElement simple) = simple_alignment subject simple
implicit_alignment subject UncarriedElement = 8
implicit_alignment subject ComplexElement = 1
implicit_alignment subject (CalculatedElement simple) = 1
implicit_alignment subject Sequence = 1
implicit_alignment subject HiddenSequence = 1
implicit_alignment subject Choice = 1
implicit_alignment subject (PrefixNumber simple) = 1

-- an alignment of the component that is a number, in bits
abbrev pub explicit_alignment : Judged → ℕ
explicit_alignment subject = amount_told 1 1 (told_at subject (codes "alignment")) * unit_at subject

-- the alignment of the component, in bits
abbrev pub alignment_of : Judged → ℕ
alignment_of subject =
    if is_told subject (codes "alignment") (codes "implicit") then implicit_alignment subject subject.kind
    else explicit_alignment subject

-- the fill that is told of the component
abbrev pub fill_of : Judged → Framing
fill_of subject = record {
  before = no_fill.before;
  openings = no_fill.openings;
  settings = no_fill.settings;
  leading_skip = skip_of subject (codes "leadingSkip");
  alignment = alignment_of subject;
  initiator = None;
  terminator = None;
  trailing_skip = skip_of subject (codes "trailingSkip");
  behind = no_fill.behind;
}

-- the component's fill, which is built for parsing; a sequence that stands for a hidden group has none, and an element whose value is
-- calculated neither
abbrev pub fill_for : Purpose → Judged → Framing
fill_for Parsing subject = if is_bare subject.kind then no_fill else fill_of subject
fill_for Unparsing subject = no_fill

-- the fill around the component's content
abbrev pub framing_of : Judged → Framing
framing_of subject = fill_for subject.purpose subject
