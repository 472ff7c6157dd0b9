-- The step of a test.
use Rattle.std.specs.Prelude.{◌≡◌, ℕ, Bool, true, false, List}
use Rattle.dfdl_bits.specs.Window.{Held, from_byte, seen_at}
use Rattle.dfdl_report.specs.declared.cause.LimitCause.TheVariants.{Window}
use Rattle.dfdl_terms.specs.declared.statement.PatternTest.{PatternTest}
use Rattle.dfdl_terms.specs.declared.text.PatternForm.{PatternForm}
use Rattle.dfdl_texts.specs.Texts.{Text}
use Rattle.dfdl_looks.specs.Asks.{Reached, Told, TooFar, Missing, Reading, ask}
use Rattle.dfdl_looks.specs.Tallies.{Tally, needs_from, nothing, plus}
use Rattle.dfdl_grammar.specs.declared.end.End.TheVariants.{Stopped}
use Rattle.dfdl_grammar.specs.declared.end.Halt.TheVariants.{Limit}
use Rattle.dfdl_grammar.specs.declared.limits.Limits.{Limits}
use Rattle.dfdl_grammar.specs.States.{State, anchor}
use Rattle.dfdl_grammar.specs.Outcomes.{ended}
use Rattle.dfdl_grammar.specs.Framing.{aligned}
use Rattle.dfdl_grammar.specs.Leaves.{text_sought}
use Rattle.dfdl_grammar.specs.Tests.{characters_in, matches, tested}
use Rattle.dfdl_parse.specs.declared.frame.Frame.{Frame}
use Rattle.dfdl_parse.specs.declared.frame.Focus.{Focus}
use Rattle.dfdl_parse.specs.declared.testing.Told.{Told as AllTold}
use Rattle.dfdl_parse.specs.declared.testing.Verdict.{Verdict}
use Rattle.dfdl_parse.specs.declared.testing.Verdict.TheVariants.{Holds, Past, NotYet}
use Rattle.dfdl_parse.specs.Moves.{Machine, Move}
use Rattle.dfdl_parse.specs.Searches.{at_outcome}

-- whether the pattern matches in a text that is read
abbrev pub verdict_in : PatternForm → Reached Text → Reached Bool
verdict_in form (Told text) = Told (matches form (characters_in text))
verdict_in form TooFar = TooFar
verdict_in form Missing = Missing

-- the same, as the code has it
abbrev pub verdict_shown : Verdict → Reached Bool
verdict_shown (Holds holds) = Told holds
verdict_shown Past = TooFar
verdict_shown NotYet = Missing

-- whether it isn't known, since a byte hasn't come
abbrev pub is_unknown : Reached Bool → Bool
is_unknown (Told holds) = false
is_unknown TooFar = false
is_unknown Missing = true

-- the machine behind a test of this number, by whether it holds: as it was, where a byte hasn't come
abbrev pub landed_test : Limits → Focus → PatternTest → ℕ → Reached Bool → List Frame → State → Machine
landed_test limits focus test number (Told holds) k s = at_outcome (tested test.discriminates number holds s) k
landed_test limits focus test number TooFar k s = at_outcome (ended (Stopped (Limit Window) limits.window) s) k
landed_test limits focus test number Missing k s = record { focus = focus; stack = k; state = s }

-- the step of a test whose reading this is, behind a cost, with these bytes held behind it
abbrev pub test_move : Tally → Limits → Focus → PatternTest → ℕ → Held → Reading Text → List Frame → State → Move
test_move cost limits focus test number sight reading k s = record {
  tally = plus cost (needs_from sight.base reading.tally);
  machine = landed_test limits focus test number (verdict_in test.form reading.reached) k s;
  held = sight;
  waits = is_unknown (verdict_in test.form reading.reached);
}

-- the test of this number, which gives up the bytes that are no longer needed
abbrev pub read_test : Tally → Limits → Focus → Held → ℕ → PatternTest → List Frame → State → Move
read_test cost limits focus held number test k s =
    let sight : Held = from_byte held (anchor s) in
    test_move cost limits focus test number sight (ask (seen_at sight) (text_sought test.form (aligned 8 s.at) s.stop) nothing) k s

-- this reading of the text of a pattern, in so many looks, tells this
pub record Tells (form : PatternForm) (reading : Reading Text) (told : AllTold) (looks_made : ℕ) : Type 0 where
  pub verdict : verdict_in form reading.reached ≡ verdict_shown told.verdict
  pub looks : reading.tally.looks ≡ looks_made
  pub far : reading.tally.far ≡ told.far
