-- The default values of elements ('DFDL Data Syntax Grammar', on the empty representation).
use Rattle.std.specs.Prelude.{ℕ, List, [], Bool, true, false, not, Option, Some, None, is_some, option_and_then, Ok, Err}
use Rattle.std.specs.Option.{option_map_or, option_or}
use Rattle.dfdl_forms.specs.Types.{form_of}
use Rattle.dfdl_forms.specs.declared.simple.Form.{Form}
use Rattle.dfdl_forms.specs.declared.simple.Form.TheVariants.{Characters, Octets}
use Rattle.dfdl_forms.specs.declared.simple.Simple.{Simple}
use Rattle.dfdl_value.specs.ReadValues.{Reading, reading_of}
use Rattle.dfdl_value.specs.declared.value.Value.{Value}
use Rattle.dfdl_value.specs.declared.value.Value.TheVariants.{Text, Bytes}
use Rattle.dfdl_checks.specs.Judged.{Judged}
use Rattle.dfdl_checks.specs.declared.subject.Kind.{Kind}
use Rattle.dfdl_checks.specs.declared.subject.Kind.TheVariants.{ComplexElement, SimpleElement}

-- the value that is read, if one is
abbrev pub value_read : Reading → Option Value
value_read (Ok value) = Some value
value_read (Err fault) = None

-- the value of the type that a text says
abbrev pub value_of : Simple → List ℕ → Option Value
value_of simple text = value_read (reading_of simple text)

-- a text can't be the default of an element of the kind; of a simple type that is not carried any can
abbrev pub is_no_default : Kind → List ℕ → Bool
is_no_default ComplexElement text = true
is_no_default (SimpleElement simple) text = not (is_some (value_of simple text))
is_no_default _ text = false

-- 30: an element with a default that is complex, or whose type has no such value
abbrev pub is_default_not_allowed : Judged → Bool
is_default_not_allowed subject = option_map_or (is_no_default subject.kind) subject.facts.default false

-- what stands for no bits where no default does: no text and no bytes
abbrev pub nothing_of : Form → Option Value
nothing_of Characters = Some (Text [])
nothing_of Octets = Some (Bytes [])
nothing_of _ = None

-- what no bits stand for at an occurrence of the type that takes a default of this text, if one: the default, else no text or no bytes
abbrev pub empty_value : Option (List ℕ) → Simple → Option Value
empty_value default simple = option_or (option_and_then (value_of simple) default) (nothing_of (form_of simple))
