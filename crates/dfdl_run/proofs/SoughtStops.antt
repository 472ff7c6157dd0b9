-- Searches for texts and tests of patterns stop by a limit on data alone.
use Rattle.std.proofs.Common.{ℕ, ◌+◌, ◌-◌, nat_eq, nat_lt, ◌&&◌, true, false, Bool, if◌then◌else◌, List, [], ◌∷◌, ◌++◌, length, Option}
use Rattle.dfdl_report.specs.declared.cause.ParseCause.{ParseCause}
use Rattle.dfdl_report.specs.declared.cause.ParseCause.TheVariants.{InitiatorMissing, SeparatorMissing, TerminatorMissing}
use Rattle.dfdl_looks.specs.Asks.{Reached, Told, TooFar, Missing, ask}
use Rattle.dfdl_looks.specs.Looks.{seen_in}
use Rattle.dfdl_looks.specs.Tallies.{nothing}
use Rattle.dfdl_delims.specs.Lists.{Opened}
use Rattle.dfdl_delims.specs.Longest.{Longest, Text as FoundText, NoText}
use Rattle.dfdl_texts.specs.Texts.{Text as TextRead}
use Rattle.dfdl_terms.specs.declared.statement.PatternTest.{PatternTest}
use Rattle.dfdl_terms.specs.declared.delimiters.Delimiter.{Delimiter}
use Rattle.dfdl_terms.specs.declared.delimiters.Delimiters.{Delimiters}
use Rattle.dfdl_grammar.specs.declared.end.End.{End}
use Rattle.dfdl_grammar.specs.declared.end.End.TheVariants.{Done, Failed, Stopped}
use Rattle.dfdl_grammar.specs.declared.limits.Limits.{Limits}
use Rattle.dfdl_grammar.specs.States.{Input, State, anchor, anchor_at}
use Rattle.dfdl_grammar.specs.Outcomes.{Outcome, ended}
use Rattle.dfdl_grammar.specs.Leaves.{text_sought}
use Rattle.dfdl_grammar.specs.Framing.{aligned}
use Rattle.dfdl_grammar.specs.Delimiters.{found_initiator, initiator, lists_of, markup, numbers_of, passed_text, seek, separator, sought_among, stands_in, terminator}
use Rattle.dfdl_grammar.specs.Tests.{characters_in, land_test, matches, test, tested}
use Rattle.dfdl_run.proofs.Stopping.{StopsByData}

text-stops : (cause : ParseCause) (window bits : ℕ) (s : State) (is : Bool)
    → StopsByData (let whole : Outcome = (if is then ended Done (record s { at = aligned 8 s.at + bits }) else ended (Failed cause s.at) s) in whole.end)
text-stops cause window bits s true = tt
text-stops cause window bits s false = tt

search-stops : (cause : ParseCause) (place window : ℕ) (reached : Reached Longest) (s : State) → StopsByData (passed_text cause place window reached s).end
search-stops cause place window (Told (FoundText which bits)) s = text-stops cause window bits s (nat_eq which place && nat_lt 0 bits)
search-stops cause place window (Told NoText) s = tt
search-stops cause place window TooFar s = tt
search-stops cause place window Missing s = tt

seek-stops : (input : Input) (cause : ParseCause) (lists : List Opened) (place : ℕ) (s : State) → StopsByData (seek input cause lists place s).end
seek-stops input cause lists place s =
    search-stops cause place input.limits.window
    (ask (seen_in input.bytes input.limits.window (anchor_at s (aligned 8 s.at))) (sought_among lists s.at s.stop) nothing).reached s

standing-stops : (input : Input) (cause : ParseCause) (lists : List Opened) (place : ℕ) (s : State) (stands : Bool)
    → StopsByData (let whole : Outcome = (if stands then seek input cause lists place s else ended Done s) in whole.end)
standing-stops input cause lists place s true = seek-stops input cause lists place s
standing-stops input cause lists place s false = tt

-- an initiator that is found may resolve a point
found-stops : (resolves : Bool) (end : End) (o : Outcome) → StopsByData o.end → StopsByData (found_initiator resolves end o).end
found-stops resolves Done o own = own
found-stops resolves (Failed cause bit) o own = own
found-stops resolves (Stopped cause quantity) o own = own

beginning-stops : (resolves : Bool) (input : Input) (lists : List Opened) (s : State) (stands : Bool)
    → StopsByData (let whole : Outcome = (if stands then (let o : Outcome = seek input InitiatorMissing lists 0 s in found_initiator resolves o.end o)
    else ended Done s) in whole.end)
beginning-stops resolves input lists s true =
    let o : Outcome = seek input InitiatorMissing lists 0 s in found-stops resolves o.end o (seek-stops input InitiatorMissing lists 0 s)
beginning-stops resolves input lists s false = tt

pub initiator-stops : (input : Input) (delimiters : List Delimiters) (delimiter : Delimiter) (s : State)
    → StopsByData (initiator input delimiters delimiter s).end
initiator-stops input delimiters delimiter s =
    beginning-stops delimiter.resolves input (lists_of delimiters (delimiter.list ∷ [])) s (stands_in s.instead delimiter)

pub terminator-stops : (input : Input) (delimiters : List Delimiters) (delimiter : Delimiter) (separators : Option ℕ) (s : State)
    → StopsByData (terminator input delimiters delimiter separators s).end
terminator-stops input delimiters delimiter separators s =
    standing-stops input TerminatorMissing (lists_of delimiters (markup s ++ delimiter.list ∷ numbers_of separators)) (length (markup s)) s
    (stands_in s.instead delimiter)

pub separator-stops : (input : Input) (delimiters : List Delimiters) (s : State) → StopsByData (separator input delimiters s).end
separator-stops input delimiters s = seek-stops input SeparatorMissing (lists_of delimiters (markup s)) (length (markup s) - 1) s

pub tested-stops : (discriminates : Bool) (number : ℕ) (holds : Bool) (s : State) → StopsByData (tested discriminates number holds s).end
tested-stops discriminates number true s = tt
tested-stops discriminates number false s = tt

land-test-stops : (limits : Limits) (test : PatternTest) (number : ℕ) (reached : Reached TextRead) (s : State)
    → StopsByData (land_test limits test number reached s).end
land-test-stops limits test number (Told text) s = tested-stops test.discriminates number (matches test.form (characters_in text)) s
land-test-stops limits test number TooFar s = tt
land-test-stops limits test number Missing s = tt

pub test-stops : (input : Input) (number : ℕ) (pattern : PatternTest) (s : State) → StopsByData (test input number pattern s).end
test-stops input number pattern s =
    land-test-stops input.limits pattern number
    (ask (seen_in input.bytes input.limits.window (anchor s)) (text_sought pattern.form (aligned 8 s.at) s.stop) nothing).reached s
