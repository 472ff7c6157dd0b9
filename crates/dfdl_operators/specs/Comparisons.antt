-- How values compare.
use Rattle.std.specs.Prelude.{ℕ, Bool, true, false, not, ◌||◌, List, Option, Some, Result, Ok, Err}
use Rattle.std.specs.declared.cmp.Ordering.{Ordering}
use Rattle.std.specs.declared.cmp.Ordering.TheVariants.{Less, Equal}
use Rattle.std.specs.Ordering.{bool_cmp, nat_cmp}
use Rattle.std.specs.Cmp.Lexicographic.{slice_cmp}
use Rattle.dfdl_decimal.specs.Arithmetic.{comparison_of}
use Rattle.dfdl_decimal.specs.Decimal.{DecimalNumber}
use Rattle.dfdl_value.specs.declared.value.Value.{Value}
use Rattle.dfdl_value.specs.declared.value.Value.TheVariants.{Int, Uns, Dec, Text, Truth, Bytes}
use Rattle.dfdl_operators.specs.declared.fault.OperatorFault.{OperatorFault}
use Rattle.dfdl_operators.specs.declared.fault.OperatorFault.TheVariants.{WrongType}
use Rattle.dfdl_operators.specs.declared.order.Relation.{Relation}
use Rattle.dfdl_operators.specs.declared.order.Relation.TheVariants.{Same, Other, Below, NotAbove, Above, NotBelow}
use Rattle.dfdl_operators.specs.Numbers.{number_of}

-- how a comparison comes out, or why there is none
abbrev pub Outcome : Type 0
Outcome = Result Ordering OperatorFault

-- numbers compare as such, a whole one and a decimal too
abbrev pub number_comparison : Option DecimalNumber → Option DecimalNumber → Outcome
number_comparison (Some a) (Some b) = Ok (comparison_of a b)
number_comparison _ _ = Err WrongType

-- texts compare byte by byte in UTF-8, which is by the codes of their characters
abbrev pub text_comparison : List ℕ → Value → Outcome
text_comparison s (Text t) = Ok (slice_cmp nat_cmp s t)
text_comparison s _ = Err WrongType

-- false is below true
abbrev pub truth_comparison : Bool → Value → Outcome
truth_comparison a (Truth b) = Ok (bool_cmp a b)
truth_comparison a _ = Err WrongType

-- bytes compare one by one
abbrev pub bytes_comparison : List ℕ → Value → Outcome
bytes_comparison s (Bytes t) = Ok (slice_cmp nat_cmp s t)
bytes_comparison s _ = Err WrongType

-- how two values compare: both numbers, both texts, both truths or both bytes
abbrev pub comparison : Value → Value → Outcome
comparison (Int z) b = number_comparison (number_of (Int z)) (number_of b)
comparison (Uns n) b = number_comparison (number_of (Uns n)) (number_of b)
comparison (Dec d) b = number_comparison (number_of (Dec d)) (number_of b)
comparison (Text s) b = text_comparison s b
comparison (Truth a) b = truth_comparison a b
comparison (Bytes s) b = bytes_comparison s b

-- one comes before the other
abbrev pub is_less : Ordering → Bool
is_less Less = true
is_less _ = false

-- neither does
abbrev pub is_same : Ordering → Bool
is_same Equal = true
is_same _ = false

-- a comparison operator holds of what compares so
abbrev pub holds : Relation → Ordering → Bool
holds Same order = is_same order
holds Other order = not (is_same order)
holds Below order = is_less order
holds NotAbove order = is_less order || is_same order
holds Above order = not (is_less order || is_same order)
holds NotBelow order = not (is_less order)
