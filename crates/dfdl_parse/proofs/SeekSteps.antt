-- The steps of delimiters and scopes do a part of what is ahead.
use Rattle.std.proofs.Common.{◌≡◌, ℕ, zero, suc, ◌+◌, ◌-◌, ◌<◌, max, ◌&&◌, nat_eq, nat_lt, refl, List, ◌∷◌, length, Bool, true, false, cond, ap, sym, subst, ◌∙◌, arith}
use Rattle.dfdl_bits.specs.Window.{Held, end_of, from_byte, room_of, seen_at}
use Rattle.dfdl_report.specs.declared.cause.ParseCause.{ParseCause}
use Rattle.dfdl_terms.specs.declared.delimiters.Delimiters.{Delimiters}
use Rattle.dfdl_terms.specs.Rows.{Table}
use Rattle.dfdl_looks.specs.Looks.{Agrees, seen_in}
use Rattle.dfdl_looks.specs.Asks.{Ask, AsksFrom, Reached, Told, TooFar, Missing, Reading, ask}
use Rattle.dfdl_looks.specs.Tallies.{Tally, beside_first, first_of, needs_from, nothing, one_row}
use Rattle.dfdl_looks.proofs.Resumed.{asked}
use Rattle.dfdl_looks.proofs.Waiting.{missed, waits_while, counted}
use Rattle.dfdl_delims.specs.Longest.{Longest, Text, NoText}
use Rattle.dfdl_grammar.specs.declared.end.End.TheVariants.{Done, Failed}
use Rattle.dfdl_grammar.specs.States.{Input, State, anchor_at}
use Rattle.dfdl_grammar.specs.Outcomes.{Outcome, ended, spend}
use Rattle.dfdl_grammar.specs.Delimiters.{opens, passed_text, scoped, sought_among, unscoped}
use Rattle.dfdl_grammar.specs.Framing.{aligned}
use Rattle.dfdl_grammar.specs.Rows.{below}
use Rattle.dfdl_grammar.proofs.Towers.{below-meaning}
use Rattle.dfdl_parse.specs.declared.frame.Frame.{Frame}
use Rattle.dfdl_parse.specs.declared.frame.Frame.TheVariants.{Scope as ScopeFrame}
use Rattle.dfdl_parse.specs.declared.frame.Focus.{Focus}
use Rattle.dfdl_parse.specs.declared.frame.Focus.TheVariants.{Enter, Seek, Leave}
use Rattle.dfdl_parse.specs.declared.frame.Sought.{Sought}
use Rattle.dfdl_parse.specs.declared.frame.Sought.TheVariants.{Separator}
use Rattle.dfdl_parse.specs.Moves.{pass}
use Rattle.dfdl_parse.specs.Searches.{among, at_outcome, cause_of, found_text, is_cut, place_of, search, sought_by, sought_text}
use Rattle.dfdl_parse.specs.Ahead.{ahead, finish}
use Rattle.dfdl_parse.proofs.Windows.{agrees_from, end_from}
use Rattle.dfdl_parse.proofs.Finishes.{Anchored, Does, finish-spend, from_here}
use Rattle.dfdl_parse.proofs.Seeks.{sought-from}
use Rattle.dfdl_parse.proofs.Resolved.{sought-nothing, sought-spend}

-- what a search makes of the state costs nothing more
one-nothing : (cause : ParseCause) (bits : ℕ) (s : State) (is : Bool)
    → (cond is (ended Done (record s { at = aligned 8 s.at + bits })) (ended (Failed cause s.at) s)).tally ≡ nothing
one-nothing cause bits s true = refl
one-nothing cause bits s false = refl

text-nothing : (cause : ParseCause) (place window : ℕ) (reached : Reached Longest) (s : State) → (passed_text cause place window reached s).tally ≡ nothing
text-nothing cause place window (Told (Text which bits)) s = one-nothing cause bits s (nat_eq which place && nat_lt 0 bits)
text-nothing cause place window (Told NoText) s = refl
text-nothing cause place window TooFar s = refl
text-nothing cause place window Missing s = refl

came : (reached : Reached Longest) → is_cut reached ≡ false → reached ≡ Missing → ⊥
came (Told found) is cut = absurd (cc)
came TooFar is cut = absurd (cc)
came Missing is cut = absurd (cc)

pub is_lost : (reached : Reached Longest) → is_cut reached ≡ true → reached ≡ Missing
is_lost (Told found) is = absurd (cc)
is_lost TooFar is = absurd (cc)
is_lost Missing is = refl

-- the first of two costs that missed a byte
first_told : (n t : ℕ) → 0 < n → first_of n t ≡ n
first_told zero t some = absurd (omega arith)
first_told (suc n) t some = refl

-- and what is told beside it
beside_told : (n a b : ℕ) → 0 < n → beside_first n a b ≡ a
beside_told zero a b some = absurd (omega arith)
beside_told (suc n) a b some = refl

module _ (input : Input) (table : Table) where
  pub delimiter-ahead : (held : Held) (what : Sought) (k : List Frame) (s : State) (stands : Bool)
      → Does input table (finish input table k (spend one_row (cond stands (sought_text input table.delimiters what s) (ended Done s))))
      (cond stands (pass one_row held (Seek what) k s) (pass one_row held (Leave Done) k s))
  delimiter-ahead held what k s true = finish-spend input table k one_row (sought_text input table.delimiters what s)
  delimiter-ahead held what k s false = finish-spend input table k one_row (ended Done s)

  pub separator-ahead : (held : Held) (k : List Frame) (s : State)
      → Does input table (finish input table k (spend one_row (sought_text input table.delimiters Separator s))) (pass one_row held (Seek Separator) k s)
  separator-ahead held k s = finish-spend input table k one_row (sought_text input table.delimiters Separator s)

  pub scope-ahead : (held : Held) (id list body : ℕ) (k : List Frame) (s : State) → body < id
      → Does input table (finish input table k (spend one_row (scoped list (below input table id body) s)))
      (pass one_row held (Enter body) (ScopeFrame (length s.lists) ∷ k) (opens list s))
  unfolding finish
  scope-ahead held id list body k s less =
      finish-spend input table k one_row (scoped list (below input table id body) s)
      ∙ ap (λ (o : Outcome). spend one_row (finish input table k (unscoped o.end (length s.lists) o))) (below-meaning input table id body (opens list s) less)

  -- what is sought, behind its search
  resolved-ahead : (what : Sought) (o : Outcome) (k : List Frame) → o.tally ≡ nothing
      → finish input table k (sought_by what o) ≡ ahead input table (at_outcome (sought_by what o) k)
  resolved-ahead what o k free =
      let p : Outcome = sought_by what o in
      ap (λ (t : Tally). finish input table k (record { end = p.end; state = p.state; tally = t }))
      (ap (λ (t : Tally). (sought_by what (record { end = o.end; state = o.state; tally = t })).tally) free ∙ sought-nothing what o.end o.state)

  text-ahead : (focus : Focus) (what : Sought) (place : ℕ) (reached : Reached Longest) (k : List Frame) (s : State) → is_cut reached ≡ false
      → finish input table k (sought_by what (passed_text (cause_of what) place input.limits.window reached s))
      ≡ ahead input table (found_text input.limits.window focus what place reached k s)
  text-ahead focus what place (Told found) k s is =
      resolved-ahead what (passed_text (cause_of what) place input.limits.window (Told found) s) k
      (text-nothing (cause_of what) place input.limits.window (Told found) s)
  text-ahead focus what place TooFar k s is =
      resolved-ahead what (passed_text (cause_of what) place input.limits.window TooFar s) k (text-nothing (cause_of what) place input.limits.window TooFar s)
  text-ahead focus what place Missing k s is = absurd (cc)

  -- a search over whole data
  abbrev pub whole_of : Sought → State → Reading Longest
  whole_of what s =
      ask (seen_in input.bytes input.limits.window (anchor_at s (aligned 8 s.at)))
      (sought_among (among table.delimiters what s) s.at s.stop) nothing

  module _ (held : Held) (what : Sought) (k : List Frame) (s : State) (agrees : Agrees held input.bytes) (size : held.size ≡ input.limits.window)
      (stands : Anchored held (record s { at = aligned 8 s.at })) where
    abbrev low : ℕ
    low = anchor_at s (aligned 8 s.at)

    abbrev asks : Ask Longest
    asks = sought_among (among table.delimiters what s) s.at s.stop

    abbrev here : Reading Longest
    here = ask (seen_at (from_byte held low)) asks nothing

    from : AsksFrom low asks
    from = sought-from (among table.delimiters what s) low s.at s.stop stands.low

    seek-reads : (here.reached ≡ Missing → ⊥) → here ≡ whole_of what s
    seek-reads found =
        asked (from_byte held low) input.bytes (agrees_from held input.bytes low stands.base stands.end agrees) asks from nothing found
        ∙ ap (λ (n : ℕ). ask (seen_in input.bytes n low) asks nothing) size

    pub seek-ahead : (search input.limits table.delimiters held what k s).waits ≡ false
        → Does input table (from_here input table (Seek what) k s) (search input.limits table.delimiters held what k s)
    seek-ahead going =
        let cause : ParseCause = cause_of what in
        let place : ℕ = place_of what s in
        ap (λ (r : Reading Longest). finish input table k (sought_by what (spend (needs_from low r.tally) (passed_text cause place input.limits.window r.reached s))))
        (sym (seek-reads (came here.reached going)))
        ∙ ap (finish input table k) (sought-spend what (needs_from low here.tally) (passed_text cause place input.limits.window here.reached s))
        ∙ finish-spend input table k (needs_from low here.tally) (sought_by what (passed_text cause place input.limits.window here.reached s))
        ∙ ap (spend (needs_from low here.tally)) (text-ahead (Seek what) what place here.reached k s going)

    -- a search that was in vain is one for the end of the data that have come
    pub seek-lost : length input.bytes ≡ end_of held → held.ended ≡ false → here.reached ≡ Missing
        → ((from_here input table (Seek what) k s).tally.tail ≡ here.tally.looks)
        × ((end_of held < (from_here input table (Seek what) k s).tally.far)
        × (length (from_byte held low).bytes ≡ end_of held - (from_here input table (Seek what) k s).tally.anchor))
    seek-lost all on missing =
        let sight : Held = from_byte held low in
        let whole : Reading Longest = whole_of what s in
        let ends : end_of sight ≡ end_of held = end_from held low stands.base stands.end in
        let told = missed sight input.bytes (agrees_from held input.bytes low stands.base stands.end agrees) (all ∙ sym ends) on asks from nothing refl missing in
        let same : ask (seen_in input.bytes held.size low) asks nothing ≡ whole =
        ap (λ (n : ℕ). ask (seen_in input.bytes n low) asks nothing) size in
        let tail : whole.tally.tail ≡ here.tally.looks = ap (λ (r : Reading Longest). r.tally.tail) (sym same) ∙ told.0 in
        let far : length input.bytes < whole.tally.far = subst (λ (r : Reading Longest). length input.bytes < r.tally.far) same told.1 in
        let some : 0 < here.tally.looks = counted (seen_at sight) asks nothing missing in
        let o : Outcome = passed_text (cause_of what) (place_of what s) input.limits.window whole.reached s in
        let rest : Outcome = finish input table k (sought_by what o) in
        let is : from_here input table (Seek what) k s ≡ spend (needs_from low whole.tally) rest =
        ap (finish input table k) (sought-spend what (needs_from low whole.tally) o)
        ∙ finish-spend input table k (needs_from low whole.tally) (sought_by what o) in
        let is_tail : (from_here input table (Seek what) k s).tally.tail ≡ first_of whole.tally.tail rest.tally.tail =
        ap (λ (o : Outcome). o.tally.tail) is in
        let is_far : (from_here input table (Seek what) k s).tally.far ≡ max whole.tally.far rest.tally.far =
        ap (λ (o : Outcome). o.tally.far) is in
        let told_some : 0 < whole.tally.tail = omega arith in
        let is_anchor : (from_here input table (Seek what) k s).tally.anchor ≡ low =
        ap (λ (o : Outcome). o.tally.anchor) is ∙ beside_told whole.tally.tail low rest.tally.anchor told_some in
        let kept : low + length sight.bytes ≡ end_of held = ends in
        (is_tail ∙ first_told whole.tally.tail rest.tally.tail told_some ∙ tail, (omega arith, omega (arith, kept, is_anchor)))

-- where a search waits, the end wasn't told, and there is room for a byte
pub seek-room : (delimiters : List Delimiters) (held : Held) (what : Sought) (s : State)
    → let sight : Held = from_byte held (anchor_at s (aligned 8 s.at)) in
    (ask (seen_at sight) (sought_among (among delimiters what s) s.at s.stop) nothing).reached ≡ Missing
    → (held.ended ≡ false) × (0 < room_of sight)
seek-room delimiters held what s missing =
    let sight : Held = from_byte held (anchor_at s (aligned 8 s.at)) in
    let stands = waits_while sight (sought_among (among delimiters what s) s.at s.stop) nothing missing in
    let short : length sight.bytes < sight.size = stands.1 in
    (stands.0, omega arith)
