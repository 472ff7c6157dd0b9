-- Boxes: a range of bits that a content has to stay in. What the content leaves of its box is passed over. 'Lengths'.
use Rattle.std.specs.Prelude.{ℕ, zero, suc, ◌+◌, ◌-◌, ◌*◌, ◌/◌, Bool, true, false, nat_le, length, if◌then◌else◌}
use Rattle.dfdl_report.specs.declared.cause.LimitCause.TheVariants.{Window}
use Rattle.dfdl_report.specs.declared.cause.ParseCause.TheVariants.{DataEnds, LengthOutOfRange}
use Rattle.dfdl_looks.specs.Asks.{Reached, Told, TooFar, Missing, Reading, ask}
use Rattle.dfdl_looks.specs.Looks.{seen_in}
use Rattle.dfdl_looks.specs.Tallies.{needs_from, nothing}
use Rattle.dfdl_grammar.specs.declared.end.End.{End}
use Rattle.dfdl_grammar.specs.declared.end.End.TheVariants.{Done, Failed, Stopped}
use Rattle.dfdl_grammar.specs.declared.end.Halt.TheVariants.{Limit}
use Rattle.dfdl_grammar.specs.States.{Input, State, anchor_at}
use Rattle.dfdl_grammar.specs.Outcomes.{Outcome, ended, spend, then_do}
use Rattle.dfdl_grammar.specs.Framing.{has_byte}
use Rattle.dfdl_grammar.specs.Spans.{with_span}

-- What follows a byte of the rest of a box, by whether it is there. Where it isn't, this fails at the first bit of the rest.
abbrev pub past_byte : ℕ → Reached Bool → (State → Outcome) → State → Outcome
past_byte window (Told true) next s = next s
past_byte window (Told false) next s = ended (Failed DataEnds s.at) s
past_byte window TooFar next s = ended (Stopped (Limit Window) window) s
past_byte window Missing next s = ended Done s

-- so many bytes of the rest of a box from byte k on, each of which is looked at by itself
abbrev pub pass_bytes : Input → ℕ → ℕ → State → Outcome
pass_bytes input zero k s = ended Done (record s { at = s.stop })
pass_bytes input (suc left) k s =
    let reading : Reading Bool = ask (seen_in input.bytes input.limits.window (anchor_at s (8 * k))) (has_byte k) nothing in
    spend (needs_from (anchor_at s (8 * k)) reading.tally) (past_byte input.limits.window reading.reached (pass_bytes input left (k + 1)) s)

-- how many bytes there are from byte k on up to a bit
abbrev pub bytes_up_to : ℕ → ℕ → ℕ
bytes_up_to stop k = (stop + 7) / 8 - k

-- what the content leaves of the innermost box
abbrev pub rest : Input → State → Outcome
rest input s = if nat_le s.stop s.at then ended Done s else pass_bytes input (bytes_up_to s.stop (s.at / 8)) (s.at / 8) s

-- the content of the innermost box is done, which began at this bit: the open element is as long as its box, and its value as what was
-- moved over
abbrev pub filled_from : ℕ → State → State
filled_from from s = with_span (s.stop - from) (s.at - from) s

-- what the content leaves of the box then
abbrev pub rest_from : Input → ℕ → State → Outcome
rest_from input from s = rest input (filled_from from s)

-- a box that ends at this bit begins: no list that is open around it ends a content in it
abbrev pub boxed_at : ℕ → State → State
boxed_at stop s = record s { stop = stop; hidden = length s.lists }

-- after this end of an outcome: the box around, which hides so many lists, ends at this bit again, where it is done; the lists are as
-- before in either case
abbrev pub unboxed : End → ℕ → ℕ → Outcome → Outcome
unboxed Done outer hidden o = record o { state = record o.state { stop = outer; hidden = hidden } }
unboxed (Failed cause bit) outer hidden o = record o { state = record o.state { hidden = hidden } }
unboxed (Stopped cause quantity) outer hidden o = o

-- a box of so many bits with what is in it; it can't pass the end of the box around it
abbrev pub boxed : Input → ℕ → (State → Outcome) → State → Outcome
boxed input bits body s =
    if nat_le (s.at + bits) s.stop
    then (let o : Outcome = then_do (body (boxed_at (s.at + bits) s)) (rest_from input s.at) in unboxed o.end s.stop s.hidden o)
    else ended (Failed LengthOutOfRange s.at) s
