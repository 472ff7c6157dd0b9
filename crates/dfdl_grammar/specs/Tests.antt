-- Tests of patterns at the begin of a component: asserts, and discriminators, which resolve the innermost point of uncertainty. 'DFDL
-- Schema Component Model', 'Parsing Algorithm' (points of uncertainty).
use Rattle.std.specs.Prelude.{ℕ, Bool, true, false, List, [], is_some, if◌then◌else◌}
use Rattle.dfdl_report.specs.declared.cause.LimitCause.TheVariants.{Window}
use Rattle.dfdl_report.specs.declared.cause.ParseCause.{ParseCause}
use Rattle.dfdl_report.specs.declared.cause.ParseCause.TheVariants.{AssertionFalse, DiscriminatorFalse}
use Rattle.dfdl_terms.specs.declared.statement.PatternTest.{PatternTest}
use Rattle.dfdl_terms.specs.declared.text.PatternForm.{PatternForm}
use Rattle.dfdl_length_patterns.specs.Patterns.{match_in}
use Rattle.dfdl_region.specs.Bytes.{utf8_of}
use Rattle.dfdl_texts.specs.Texts.{Text as TextRead, Reads, HasBad, IsCut, IsBoxed}
use Rattle.dfdl_looks.specs.Asks.{Reached, Told, TooFar, Missing, Reading, ask}
use Rattle.dfdl_looks.specs.Looks.{seen_in}
use Rattle.dfdl_looks.specs.Tallies.{needs_from, nothing}
use Rattle.dfdl_grammar.specs.declared.end.End.TheVariants.{Done, Failed, Stopped}
use Rattle.dfdl_grammar.specs.declared.end.Halt.TheVariants.{Limit}
use Rattle.dfdl_grammar.specs.declared.limits.Limits.{Limits}
use Rattle.dfdl_grammar.specs.States.{Input, State, anchor}
use Rattle.dfdl_grammar.specs.Outcomes.{Outcome, ended, spend}
use Rattle.dfdl_grammar.specs.Framing.{aligned}
use Rattle.dfdl_grammar.specs.Leaves.{text_sought}
use Rattle.dfdl_grammar.specs.Marks.{resolved}

-- the characters that are read; a text that is sought up to its first bad unit always is
abbrev pub characters_in : TextRead → List ℕ
characters_in (Reads characters end) = characters
characters_in HasBad = []
characters_in IsCut = []
characters_in IsBoxed = []

-- the pattern matches in these characters
abbrev pub matches : PatternForm → List ℕ → Bool
matches form characters = is_some (match_in form.pattern (utf8_of characters))

-- why a discriminator or an assert of this number fails
abbrev pub false_test : Bool → ℕ → ParseCause
false_test discriminates number = if discriminates then DiscriminatorFalse number else AssertionFalse number

-- the state behind a test that holds: a discriminator resolves the innermost point
abbrev pub behind_test : Bool → State → State
behind_test discriminates s = if discriminates then resolved s else s

-- a test that holds, or doesn't
abbrev pub tested : Bool → ℕ → Bool → State → Outcome
tested discriminates number true s = ended Done (behind_test discriminates s)
tested discriminates number false s = ended (Failed (false_test discriminates number) s.at) s

-- what the reading of the text of a test makes of the state, which stays where it is
abbrev pub land_test : Limits → PatternTest → ℕ → Reached TextRead → State → Outcome
land_test limits test number (Told text) s = tested test.discriminates number (matches test.form (characters_in text)) s
land_test limits test number TooFar s = ended (Stopped (Limit Window) limits.window) s
land_test limits test number Missing s = ended Done s

-- the test of this number: its pattern is sought in the characters from the next whole byte on, up to the first bad unit
abbrev pub test : Input → ℕ → PatternTest → State → Outcome
test input number pattern s =
    let reading : Reading TextRead =
    ask (seen_in input.bytes input.limits.window (anchor s)) (text_sought pattern.form (aligned 8 s.at) s.stop) nothing in
    spend (needs_from (anchor s) reading.tally) (land_test input.limits pattern number reading.reached s)
