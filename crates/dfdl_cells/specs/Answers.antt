-- What an answer to a question has to be: whatever the equation goes on with, it gives what it gives behind this answer.
use Rattle.std.specs.Prelude.{◌≡◌, List, Option, Result}
use Rattle.dfdl_suspend.specs.Asks.{Asks, gives}
use Rattle.dfdl_suspend.specs.declared.known.Held.{Held}
use Rattle.dfdl_cells.specs.Asking.{behind}
use Rattle.dfdl_cells.specs.declared.asking.Stop.{Stop}

-- this is the answer to what an equation asks, over what is known
pub record Answers {A : Type 0} (asked : (A → Asks Held) → Asks Held) (known : List (Option Held)) (answer : Result A Stop) : Type 0 where
  pub gives_so : (go : A → Asks Held) → gives (asked go) known ≡ behind answer (λ a. gives (go a) known)
