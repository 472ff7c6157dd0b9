-- What the schema says of its tests.
use Rattle.std.specs.Prelude.{ℕ, List, Option, Some, None, slice_get}
use Rattle.dfdl_terms.specs.declared.statement.Statement.{Statement}
use Rattle.dfdl_terms.specs.declared.statement.Statement.TheVariants.{Pattern, Expression, Setting, Calculation, Question, Opening}
use Rattle.dfdl_terms.specs.Rows.{Table}

-- the message of a statement, where it is a test and has one
abbrev pub message_in : Option Statement → Option (List ℕ)
message_in None = None
message_in (Some (Pattern test)) = test.message
message_in (Some (Expression test)) = test.message
message_in (Some (Setting setting)) = None
message_in (Some (Calculation calculation)) = None
message_in (Some (Question question)) = None
message_in (Some (Opening opening)) = None

-- the message of the test of this number
abbrev pub message_of : Table → ℕ → Option (List ℕ)
message_of table test = message_in (slice_get table.statements test)
