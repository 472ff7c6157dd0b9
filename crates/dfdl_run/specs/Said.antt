-- What is said of a processing error besides its cause.
use Rattle.std.specs.Prelude.{ℕ, List, Option, Some, None}
use Rattle.dfdl_report.specs.declared.cause.ParseCause.{ParseCause}
use Rattle.dfdl_report.specs.declared.cause.ParseCause.TheVariants.{AssertionFalse, DiscriminatorFalse, ExpressionFault}
use Rattle.dfdl_terms.specs.Messages.{message_of}
use Rattle.dfdl_terms.specs.Rows.{Table}

-- the number of the test that fails, if one does
abbrev pub test_in : ParseCause → Option ℕ
test_in (AssertionFalse test) = Some test
test_in (DiscriminatorFalse test) = Some test
test_in _ = None

-- the number of the reason for which an expression has no value, if one has none
abbrev pub fault_in : ParseCause → Option ℕ
fault_in (ExpressionFault fault) = Some fault
fault_in _ = None

-- the message of a test, if there is one
abbrev pub said_in : Table → Option ℕ → Option (List ℕ)
said_in t None = None
said_in t (Some test) = message_of t test

-- what is said of a cause
abbrev pub said_of : Table → ParseCause → Option (List ℕ)
said_of t cause = said_in t (test_in cause)
