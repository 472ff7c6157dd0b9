-- A test leaves all as it is, but for points that are resolved.
use Rattle.std.proofs.Common.{refl, ℕ, Bool, true, false, cond, List}
use Rattle.dfdl_bits.specs.declared.window.Seen.{Seen}
use Rattle.dfdl_report.specs.declared.cause.LimitCause.TheVariants.{Window}
use Rattle.dfdl_report.specs.declared.cause.ParseCause.{ParseCause}
use Rattle.dfdl_terms.specs.declared.statement.PatternTest.{PatternTest}
use Rattle.dfdl_texts.specs.Texts.{Text}
use Rattle.dfdl_looks.specs.Asks.{Reached, Told, TooFar, Missing, ask}
use Rattle.dfdl_looks.specs.Looks.{seen_in}
use Rattle.dfdl_looks.specs.Tallies.{nothing}
use Rattle.dfdl_grammar.specs.declared.end.End.{End}
use Rattle.dfdl_grammar.specs.declared.end.End.TheVariants.{Done, Failed, Stopped}
use Rattle.dfdl_grammar.specs.declared.end.Halt.{Halt}
use Rattle.dfdl_grammar.specs.declared.end.Halt.TheVariants.{Limit}
use Rattle.dfdl_grammar.specs.declared.mark.Mark.{Mark}
use Rattle.dfdl_grammar.specs.Framing.{aligned}
use Rattle.dfdl_grammar.specs.Leaves.{text_sought}
use Rattle.dfdl_grammar.specs.Marks.{AreSame, resolved, resolved_among}
use Rattle.dfdl_grammar.specs.States.{Input, State, anchor}
use Rattle.dfdl_grammar.specs.Tests.{characters_in, false_test, land_test, matches, test, tested}
use Rattle.dfdl_grammar.proofs.Resolved.{resolved_same}

-- What holds of the state where it is, where more of its points may be resolved, and of each failure and limit there.
module _ (P : End → State → Type 0) (s : State) (still : (marks : List Mark) → AreSame marks s.marks → P Done (record s { marks = marks }))
    (fails : (cause : ParseCause) → P (Failed cause s.at) s) (stops : (cause : Halt) (quantity : ℕ) → P (Stopped cause quantity) s)
    (input : Input) where
  behind-comes : (discriminates : Bool) → P Done (cond discriminates (resolved s) s)
  behind-comes true = still (resolved_among s.marks) (resolved_same s.marks)
  behind-comes false = still s.marks refl

  tested-comes : (pattern : PatternTest) (number : ℕ) (is : Bool)
      → P (tested pattern.discriminates number is s).end (tested pattern.discriminates number is s).state
  tested-comes pattern number true = behind-comes pattern.discriminates
  tested-comes pattern number false = fails (false_test pattern.discriminates number)

  land-comes : (pattern : PatternTest) (number : ℕ) (reached : Reached Text)
      → P (land_test input.limits pattern number reached s).end (land_test input.limits pattern number reached s).state
  land-comes pattern number (Told text) = tested-comes pattern number (matches pattern.form (characters_in text))
  land-comes pattern number TooFar = stops (Limit Window) input.limits.window
  land-comes pattern number Missing = still s.marks refl

  pub test-comes : (pattern : PatternTest) (number : ℕ) → P (test input number pattern s).end (test input number pattern s).state
  test-comes pattern number =
      let look : ℕ → Seen = seen_in input.bytes input.limits.window (anchor s) in
      land-comes pattern number (ask look (text_sought pattern.form (aligned 8 s.at) s.stop) nothing).reached
