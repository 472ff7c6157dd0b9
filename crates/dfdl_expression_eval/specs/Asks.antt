-- What an expression asks of what stands around it, and in which order. 'DFDL Expression Language'.
use Rattle.std.specs.Prelude.{◌≡◌, ℕ, List}
use Rattle.dfdl_value.specs.declared.value.Value.{Value}
use Rattle.dfdl_expressions.specs.declared.operator.Extent.{Extent}
use Rattle.dfdl_expressions.specs.declared.path.Path.{Path}
use Rattle.dfdl_expression_eval.specs.declared.env.Evaluated.{Evaluated}
use Rattle.dfdl_expression_eval.specs.declared.env.Evaluated.TheVariants.{Known, Wait, Fault}

-- one question: of a path with the places that its indexes name, the value of the item that it leads to, the number of such
-- items, or the length of the item in bits; the value of a variable; the number of the innermost occurrence
pub data Query : Type 0 where
  Item : (path : Path) → (places : List ℕ) → Query
  Count : (path : Path) → (places : List ℕ) → Query
  Length : (path : Path) → (places : List ℕ) → (extent : Extent) → Query
  Variable : (number : ℕ) → Query
  OccursIndex : Query

-- what an expression is: a value, a fault by its number, or a question and how it goes on with the value that answers it
pub data Asks : Type 0 where
  Is : (value : Value) → Asks
  Fails : (cause : ℕ) → Asks
  Ask : (query : Query) → (more : Value → Asks) → Asks

-- a wait or a fault ends it, and a value lets it go on
abbrev pub on_known : Evaluated → (Value → Evaluated) → Evaluated
on_known (Known value) go = go value
on_known (Wait unknown) go = Wait unknown
on_known (Fault cause) go = Fault cause

-- what an expression gives, where each question has this answer: a value, a wait for an unknown, or a fault
abbrev pub gives : Asks → (Query → Evaluated) → Evaluated
gives (Is value) answers = Known value
gives (Fails cause) answers = Fault cause
gives (Ask query more) answers = on_known (answers query) (λ value. gives (more value) answers)

-- a value or a fault, which no more knowledge changes
abbrev pub IsSettled : Evaluated → Type 0
IsSettled (Known value) = Unit {0}
IsSettled (Wait unknown) = ⊥
IsSettled (Fault cause) = Unit {0}

-- more is known: what is settled for one is the same for the other
abbrev pub IsLarger : (Query → Evaluated) → (Query → Evaluated) → Type 0
IsLarger less more = (query : Query) → IsSettled (less query) → more query ≡ less query
