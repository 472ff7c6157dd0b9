-- The questions of slots: where their looks lie, and what they come to while the data come in pieces.
use Rattle.std.proofs.Common.{◌≡◌, ℕ, zero, suc, ◌+◌, ◌-◌, ◌*◌, ◌/◌, ◌<◌, ◌≤◌, max, nat_le, refl, List, length, Bool, true, false, cond, ap, sym, subst, ◌∙◌, arith}
use Rattle.dfdl_bits.specs.Window.{Held, end_of, from_byte, room_of, seen_at}
use Rattle.dfdl_report.specs.declared.cause.LimitCause.TheVariants.{Window}
use Rattle.dfdl_delims.specs.Lists.{Opened}
use Rattle.dfdl_terms.specs.Rows.{Table}
use Rattle.dfdl_looks.specs.Looks.{Agrees, seen_in}
use Rattle.dfdl_looks.specs.Asks.{Ask, Answer, AsksFrom, and_then, Reached, Told, TooFar, Missing, Reading, ask, look_at}
use Rattle.dfdl_looks.specs.Tallies.{Tally, beside_first, first_of, needs_from, nothing}
use Rattle.dfdl_looks.proofs.Resumed.{asked}
use Rattle.dfdl_looks.proofs.Sequels.{and_then-from}
use Rattle.dfdl_looks.proofs.Stretched.{look_at-from}
use Rattle.dfdl_looks.proofs.Waiting.{kept, missed, waits_while, counted}
use Rattle.dfdl_grammar.specs.declared.end.End.TheVariants.{Stopped}
use Rattle.dfdl_grammar.specs.declared.end.Halt.TheVariants.{Limit}
use Rattle.dfdl_grammar.specs.States.{Input, State, anchor}
use Rattle.dfdl_grammar.specs.Outcomes.{Outcome, ended, spend}
use Rattle.dfdl_grammar.specs.Delimiters.{sought_among}
use Rattle.dfdl_grammar.specs.Slots.{is_empty_at, is_found, is_found_at, markup_follows, peek, separator_follows, told}
use Rattle.dfdl_parse.specs.declared.frame.Frame.{Frame}
use Rattle.dfdl_parse.specs.declared.frame.Focus.{Focus}
use Rattle.dfdl_parse.specs.Moves.{Move}
use Rattle.dfdl_parse.specs.Running.{Slid}
use Rattle.dfdl_parse.specs.Slots.{told_move}
use Rattle.dfdl_parse.specs.Ahead.{finish}
use Rattle.dfdl_parse.proofs.Windows.{agrees_from, end_from}
use Rattle.dfdl_parse.proofs.Finishes.{Anchored, Does, finish-spend}
use Rattle.dfdl_parse.proofs.Seeks.{sought-from}

-- each look is at the byte of the bit that comes next or behind it
follows-from : (lists : List Opened) (low bit stop : ℕ) → low ≤ bit / 8 → AsksFrom low (markup_follows lists bit stop)
follows-from lists low bit stop less =
    and_then-from low (sought_among lists bit stop) (λ found. Answer (is_found found)) (sought-from lists low bit stop (omega arith)) (λ found. tt)

pub separator-from : (lists : List Opened) (place low bit stop : ℕ) → low ≤ bit / 8 → AsksFrom low (separator_follows lists place bit stop)
separator-from lists place low bit stop less =
    and_then-from low (sought_among lists bit stop) (λ found. Answer (is_found_at place found)) (sought-from lists low bit stop (omega arith)) (λ found. tt)

pub empty-from : (lists : List Opened) (low bit stop : ℕ) → low ≤ bit / 8 → AsksFrom low (is_empty_at lists bit stop)
empty-from lists low bit stop less = by (nat_le stop bit)
  where
    each : (over : Bool) → AsksFrom low (cond over (Answer true) (markup_follows lists bit stop))
    each true = tt
    each false = follows-from lists low bit stop less

    by : (past : Bool) → AsksFrom low (cond past (Answer true) (and_then (look_at 1 (bit / 8) true (λ bytes. false)) (λ over. cond over (Answer true) (markup_follows lists bit stop))))
    by true = tt
    by false =
        and_then-from low (look_at 1 (bit / 8) true (λ bytes. false)) (λ over. cond over (Answer true) (markup_follows lists bit stop))
        (look_at-from 1 low (bit / 8) true (λ bytes. false) less) each

told-came : (moves : Bool → Move) (input : Input) (focus : Focus) (sight : Held) (cost : Tally) (k : List Frame) (s : State) (r : Reached Bool)
    → (told_move input.limits focus sight cost moves r k s).waits ≡ false → r ≡ Missing → ⊥
told-came moves input focus sight cost k s (Told answer) going is = absurd (cc)
told-came moves input focus sight cost k s TooFar going is = absurd (cc)
told-came moves input focus sight cost k s Missing going is = absurd (cc)

first_told : (n t : ℕ) → 0 < n → first_of n t ≡ n
first_told zero t some = absurd (omega arith)
first_told (suc n) t some = refl

beside_told : (n a b : ℕ) → 0 < n → beside_first n a b ≡ a
beside_told zero a b some = absurd (omega arith)
beside_told (suc n) a b some = refl

module _ (held : Held) (s : State) (question : Ask Bool) (stands : Anchored held s) (from : AsksFrom (anchor s) question) where
  abbrev low : ℕ
  low = anchor s

  abbrev sight : Held
  sight = from_byte held low

  abbrev here : Reading Bool
  here = ask (seen_at sight) question nothing

  abbrev cost : Tally
  cost = needs_from low here.tally

  ends : end_of sight ≡ end_of held
  ends = end_from held low stands.base stands.end

  module _ (input : Input) (table : Table) (agrees : Agrees held input.bytes) (size : held.size ≡ input.limits.window) where
    abbrev whole : Reading Bool
    whole = ask (seen_in input.bytes input.limits.window low) question nothing

    reads : (here.reached ≡ Missing → ⊥) → here ≡ whole
    reads found =
        asked sight input.bytes (agrees_from held input.bytes low stands.base stands.end agrees) question from nothing found
        ∙ ap (λ (n : ℕ). ask (seen_in input.bytes n low) question nothing) size

    module _ (next : Bool → State → Outcome) (k : List Frame) where
      told-ahead : (focus : Focus) (moves : Bool → Move)
          → ((answer : Bool) → Does input table (finish input table k (spend cost (next answer s))) (moves answer)) → (r : Reached Bool)
          → (told_move input.limits focus sight cost moves r k s).waits ≡ false
          → Does input table (finish input table k (spend cost (told input.limits next r s))) (told_move input.limits focus sight cost moves r k s)
      told-ahead focus moves each (Told answer) going = each answer
      told-ahead focus moves each TooFar going = finish-spend input table k cost (ended (Stopped (Limit Window) input.limits.window) s)
      told-ahead focus moves each Missing going = absurd (cc)

      pub peek-ahead : (focus : Focus) (moves : Bool → Move)
          → ((answer : Bool) → Does input table (finish input table k (spend cost (next answer s))) (moves answer))
          → (told_move input.limits focus sight cost moves here.reached k s).waits ≡ false
          → Does input table (finish input table k (peek input question next s)) (told_move input.limits focus sight cost moves here.reached k s)
      peek-ahead focus moves each going =
          ap (λ (r : Reading Bool). finish input table k (spend (needs_from low r.tally) (told input.limits next r.reached s)))
          (sym (reads (told-came moves input focus sight cost k s here.reached going)))
          ∙ told-ahead focus moves each here.reached going

      -- a question that is in vain is one for the end of the data that have come
      pub peek-lost : length input.bytes ≡ end_of held → held.ended ≡ false → here.reached ≡ Missing
          → ((finish input table k (peek input question next s)).tally.tail ≡ here.tally.looks)
          × ((end_of held < (finish input table k (peek input question next s)).tally.far)
          × (length sight.bytes ≡ end_of held - (finish input table k (peek input question next s)).tally.anchor))
      peek-lost all on missing =
          let lost = missed sight input.bytes (agrees_from held input.bytes low stands.base stands.end agrees) (all ∙ sym ends) on question from nothing refl missing in
          let same : ask (seen_in input.bytes held.size low) question nothing ≡ whole =
          ap (λ (n : ℕ). ask (seen_in input.bytes n low) question nothing) size in
          let tail : whole.tally.tail ≡ here.tally.looks = ap (λ (r : Reading Bool). r.tally.tail) (sym same) ∙ lost.0 in
          let far : length input.bytes < whole.tally.far = subst (λ (r : Reading Bool). length input.bytes < r.tally.far) same lost.1 in
          let some : 0 < here.tally.looks = counted (seen_at sight) question nothing missing in
          let o : Outcome = told input.limits next whole.reached s in
          let rest : Outcome = finish input table k o in
          let is : finish input table k (peek input question next s) ≡ spend (needs_from low whole.tally) rest =
          finish-spend input table k (needs_from low whole.tally) o in
          let is_tail : (finish input table k (peek input question next s)).tally.tail ≡ first_of whole.tally.tail rest.tally.tail =
          ap (λ (o : Outcome). o.tally.tail) is in
          let is_far : (finish input table k (peek input question next s)).tally.far ≡ max whole.tally.far rest.tally.far =
          ap (λ (o : Outcome). o.tally.far) is in
          let told_some : 0 < whole.tally.tail = omega arith in
          let is_anchor : (finish input table k (peek input question next s)).tally.anchor ≡ low =
          ap (λ (o : Outcome). o.tally.anchor) is ∙ beside_told whole.tally.tail low rest.tally.anchor told_some in
          let kept_is : low + length sight.bytes ≡ end_of held = ends in
          (is_tail ∙ first_told whole.tally.tail rest.tally.tail told_some ∙ tail, (omega arith, omega (arith, kept_is, is_anchor)))

  -- where a question waits, the end wasn't told, and there is room for a byte
  pub question-room : here.reached ≡ Missing → (held.ended ≡ false) × (0 < room_of sight)
  question-room missing =
      let waits = waits_while sight question nothing missing in
      let short : length sight.bytes < sight.size = waits.1 in
      (waits.0, omega arith)

  -- the window behind a question
  pub question-slid : Slid held sight
  question-slid = record { size = refl; ended = refl; end = ends; base = stands.base }

  pub question-agrees : (all : List ℕ) → Agrees held all → Agrees sight all
  question-agrees all agrees = agrees_from held all low stands.base stands.end agrees

  -- and its cost
  pub question-kept : held.ended ≡ false → (cost.tail ≡ 0) × (cost.far ≤ end_of held)
  question-kept on = let most = kept sight on question from nothing in let few = most.1 in (most.0, omega (arith, few, ends))
