-- Fill that is passed over: alignment and skips. 'Framing'.
use Rattle.std.specs.Prelude.{ℕ, zero, suc, ◌+◌, ◌-◌, ◌*◌, ◌/◌, Bool, true, false, nat_le, is_some, if◌then◌else◌}
use Rattle.dfdl_report.specs.declared.cause.LimitCause.TheVariants.{Window}
use Rattle.dfdl_report.specs.declared.cause.ParseCause.TheVariants.{DataEnds, LengthOutOfRange}
use Rattle.dfdl_looks.specs.Asks.{Ask, Answer, Look, Reached, Told, TooFar, Missing, Reading, ask}
use Rattle.dfdl_looks.specs.Looks.{seen_in}
use Rattle.dfdl_looks.specs.Tallies.{needs_from, nothing}
use Rattle.dfdl_grammar.specs.declared.end.End.TheVariants.{Done, Failed, Stopped}
use Rattle.dfdl_grammar.specs.declared.end.Halt.TheVariants.{Limit}
use Rattle.dfdl_grammar.specs.States.{Input, State, anchor_at}
use Rattle.dfdl_grammar.specs.Outcomes.{Outcome, ended, spend}

-- the first multiple of so many bits that is no bit before this one; of no bits it is this one
abbrev pub aligned : ℕ → ℕ → ℕ
aligned zero bit = bit
aligned (suc n) bit = (bit + n) / suc n * suc n

-- whether the data have a byte, by one look
abbrev pub has_byte : ℕ → Ask Bool
has_byte k = Look k (λ byte. Answer (is_some byte))

-- What passing over fill up to a bit makes of the state, by whether the last byte of the fill is there. Where it isn't, this fails at
-- the first bit of the fill.
abbrev pub passed : ℕ → ℕ → Reached Bool → State → Outcome
passed window to (Told true) s = ended Done (record s { at = to })
passed window to (Told false) s = ended (Failed DataEnds s.at) s
passed window to TooFar s = ended (Stopped (Limit Window) window) s
passed window to Missing s = ended Done s

-- fill up to a bit: the byte of its last bit is looked at, and no other one
abbrev pub fill_to : Input → ℕ → State → Outcome
fill_to input to s =
    let reading : Reading Bool = ask (seen_in input.bytes input.limits.window (anchor_at s (to - 1))) (has_byte ((to - 1) / 8)) nothing in
    spend (needs_from (anchor_at s (to - 1)) reading.tally) (passed input.limits.window to reading.reached s)

-- fill up to a bit, where there is any; where it would pass the end of the box, this fails
abbrev pub pass_to : Input → ℕ → State → Outcome
pass_to input to s =
    if nat_le to s.at then ended Done s
    else if nat_le to s.stop then fill_to input to s
    else ended (Failed LengthOutOfRange s.at) s

-- so many bits of fill
abbrev pub skip : Input → ℕ → State → Outcome
skip input bits s = pass_to input (s.at + bits) s

-- fill up to the next multiple of so many bits
abbrev pub align : Input → ℕ → State → Outcome
align input bits s = pass_to input (aligned bits s.at) s
