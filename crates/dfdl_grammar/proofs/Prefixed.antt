-- A prefix and what follows it come to what follows it, begun at another bit, or to a failure or a limit where nothing was done.
use Rattle.std.proofs.Common.{◌≡◌, ℕ, Bool, true, false, cond, List, Option, Some, None, refl}
use Rattle.dfdl_bits.specs.declared.window.Seen.{Seen}
use Rattle.dfdl_report.specs.declared.cause.LimitCause.TheVariants.{Window}
use Rattle.dfdl_report.specs.declared.cause.ParseCause.{ParseCause}
use Rattle.dfdl_report.specs.declared.cause.ParseCause.TheVariants.{LengthOutOfRange}
use Rattle.dfdl_delims.specs.Lists.{Opened}
use Rattle.dfdl_terms.specs.declared.delimiters.Delimiters.{Delimiters}
use Rattle.dfdl_terms.specs.declared.row.Primitive.{Primitive}
use Rattle.dfdl_looks.specs.Asks.{Ask, Reached, Told, TooFar, Missing, ask}
use Rattle.dfdl_looks.specs.Looks.{seen_in}
use Rattle.dfdl_looks.specs.Tallies.{needs_from, nothing}
use Rattle.dfdl_grammar.specs.declared.end.End.{End}
use Rattle.dfdl_grammar.specs.declared.end.End.TheVariants.{Failed, Stopped}
use Rattle.dfdl_grammar.specs.declared.end.Halt.{Halt}
use Rattle.dfdl_grammar.specs.declared.end.Halt.TheVariants.{Limit}
use Rattle.dfdl_grammar.specs.States.{Input, State, anchor}
use Rattle.dfdl_grammar.specs.Outcomes.{Outcome, ended, spend}
use Rattle.dfdl_grammar.specs.Leaves.{Find, Fails, Finds, FindsOctets, FindsText, content_begins, failing_bit, has_room, program}
use Rattle.dfdl_grammar.specs.Delimiters.{lists_of, markup}
use Rattle.dfdl_grammar.specs.Prefixes.{behind_prefix, land_prefix, prefixed, units_told}
use Rattle.dfdl_grammar.proofs.Found.{whole-told}

-- What holds of each failure and limit in the state before the prefix, and of what follows the prefix wherever that begins.
module _ (P : End → State → Type 0) (s : State)
    (fails : (cause : ParseCause) (bit : ℕ) → P (Failed cause bit) s) (stops : (cause : Halt) (quantity : ℕ) → P (Stopped cause quantity) s)
    (next : ℕ → State → Outcome)
    (goes_on : (units at : ℕ) → P (next units (record s { at = at })).end (next units (record s { at = at })).state) where
  behind-comes : (end : ℕ) (units : Option ℕ) → P (behind_prefix end next s units).end (behind_prefix end next s units).state
  behind-comes end None = fails LengthOutOfRange s.at
  behind-comes end (Some units) = goes_on units end

  module _ (input : Input) where
    land-comes : (own first : ℕ) (reached : Reached Find) → (reached ≡ Missing → ⊥)
        → P (land_prefix input.limits own first next reached s).end (land_prefix input.limits own first next reached s).state
    land-comes own first (Told (Fails cause)) here = fails cause (failing_bit cause s.at first)
    land-comes own first (Told (Finds content span)) here = behind-comes span.end (units_told own content)
    land-comes own first (Told (FindsOctets bytes span)) here = behind-comes span.end None
    land-comes own first (Told (FindsText bytes span)) here = behind-comes span.end None
    land-comes own first TooFar here = stops (Limit Window) input.limits.window
    land-comes own first Missing here = absurd (here refl)

    room-comes : (lists : List Opened) (own : ℕ) (primitive : Primitive) (room : Bool)
        → (let reading = ask (seen_in input.bytes input.limits.window (anchor s)) (program lists primitive s.at s.stop) nothing in
        let o : Outcome = cond room (spend (needs_from (anchor s) reading.tally) (land_prefix input.limits own (content_begins primitive s.at) next reading.reached s))
        (ended (Failed LengthOutOfRange s.at) s) in
        P o.end o.state)
    room-comes lists own primitive true =
        let a : Ask Find = program lists primitive s.at s.stop in
        let look : ℕ → Seen = seen_in input.bytes input.limits.window (anchor s) in
        land-comes own (content_begins primitive s.at) (ask look a nothing).reached
        (λ missing. whole-told input.bytes input.limits.window (anchor s) a nothing missing)
    room-comes lists own primitive false = fails LengthOutOfRange s.at

    pub prefixed-comes : (delimiters : List Delimiters) (by : Option Primitive) (own : ℕ)
        → P (prefixed input delimiters by own next s).end (prefixed input delimiters by own next s).state
    prefixed-comes delimiters None own = behind-comes s.at None
    prefixed-comes delimiters (Some primitive) own = room-comes (lists_of delimiters (markup s)) own primitive (has_room primitive s.at s.stop)
