-- A text goes on behind a run of characters of one byte, and behind a unit.
use Rattle.std.proofs.Common.{◌≡◌, ℕ, zero, suc, ◌+◌, ◌-◌, ◌/◌, ◌<◌, ◌≤◌, Bool, List, [], ◌∷◌, ◌++◌, length, get_or, max, refl, ap, sym, subst, ◌∙◌, arith, append_assoc, add-zero}
use Rattle.std.proofs.lemmas.List.{append-nil}
use Rattle.dfdl_forms.specs.declared.encoding.Encoding.{Encoding}
use Rattle.dfdl_bits.specs.Window.{Held, end_of, seen_at}
use Rattle.dfdl_bits.specs.declared.window.Seen.{Seen}
use Rattle.dfdl_bits.specs.declared.window.Seen.TheVariants.{Byte}
use Rattle.dfdl_looks.specs.Tallies.{Tally, nothing}
use Rattle.dfdl_looks.specs.Asks.{Ask, Reached, Reading, ask, go_on}
use Rattle.dfdl_looks.proofs.Seeing.{seen_within}
use Rattle.dfdl_looks.proofs.Sequels.{ask-then}
use Rattle.dfdl_looks.proofs.Shifted.{Shifts, shifted}
use Rattle.dfdl_chars.specs.declared.decode.Chars.{Chars}
use Rattle.dfdl_chars.specs.declared.decode.Chars.TheVariants.{Char, Bad, End, NotYet, Over}
use Rattle.dfdl_chars.specs.Decoding.{Decoded, decoded_at, no_look}
use Rattle.dfdl_chars.specs.Runs.{AreSingles, single_at}
use Rattle.dfdl_texts.specs.declared.extent.Extent.{Extent}
use Rattle.dfdl_texts.specs.declared.found.Found.{Found}
use Rattle.dfdl_texts.specs.declared.found.Found.TheVariants.{Reads as DoesRead, HasBad as FoundBad, IsCut as FoundCut, IsBoxed as FoundBoxed, TooFar as Past, NotYet as Waits}
use Rattle.dfdl_texts.specs.declared.found.Glance.{Glance}
use Rattle.dfdl_texts.specs.declared.spot.Spot.{Spot}
use Rattle.dfdl_texts.specs.declared.spot.Task.{Task}
use Rattle.dfdl_texts.specs.declared.spot.Turn.{Turn}
use Rattle.dfdl_texts.specs.declared.spot.Turn.TheVariants.{Ends}
use Rattle.dfdl_texts.specs.declared.spot.Verdict.{Verdict}
use Rattle.dfdl_texts.specs.declared.spot.Verdict.TheVariants.{Takes, Stops}
use Rattle.dfdl_texts.specs.Units.{Piece, unit_at, reached_of, far_of_run, far_seen, IsUnit}
use Rattle.dfdl_texts.specs.Texts.{Text, most_of, at_end, after_piece, at_bad, text_at}
use Rattle.dfdl_texts.specs.Readings.{Answers, EndsWithin, Fits, Sum, Turns, sum_of, spent, found_shown, verdict_shown}
use Rattle.dfdl_texts.proofs.Pieces.{decoded}
use Rattle.dfdl_texts.proofs.Lying.{Lies, unit-lies}
use Rattle.dfdl_texts.proofs.Whole.{going, going_on, text-lies}

-- a unit that was decoded
pub unit-told : (look : ℕ → Seen) (enc : Encoding) (stop k bit from to far seen : ℕ) (chars : Chars) → bit / 8 ≡ k
    → chars ≡ (decoded_at enc (record { look = look; stop = stop }) (bit / 8) (no_look from)).chars
    → far ≡ (decoded_at enc (record { look = look; stop = stop }) (bit / 8) (no_look from)).walk.far
    → to ≡ (decoded_at enc (record { look = look; stop = stop }) (bit / 8) (no_look from)).walk.looks
    → seen ≡ far_seen chars k far
    → (t : Tally) → IsUnit chars seen from to t (ask look (unit_at enc stop k) t)
unit-told look enc stop k bit from to far seen chars at chars_are far_is to_is seen_is t =
    let there = decoded look stop k from t enc in
    let same : decoded_at enc (record { look = look; stop = stop }) k (no_look from) ≡ decoded_at enc (record { look = look; stop = stop }) (bit / 8) (no_look from) =
    ap (λ (j : ℕ). decoded_at enc (record { look = look; stop = stop }) j (no_look from)) (sym at) in
    record {
      reached = there.reached ∙ ap (λ (d : Decoded). reached_of d.chars) same ∙ ap reached_of (sym chars_are);
      looks = there.looks ∙ ap (λ (d : Decoded). t.looks + d.walk.looks) same ∙ ap (λ (n : ℕ). t.looks + n) (sym to_is);
      far =
          there.far ∙ ap (λ (d : Decoded). max t.far (far_seen d.chars k d.walk.far)) same
          ∙ ap (λ (c : Chars). max t.far (far_seen c k (decoded_at enc (record { look = look; stop = stop }) (bit / 8) (no_look from)).walk.far)) (sym chars_are)
          ∙ ap (λ (f : ℕ). max t.far (far_seen chars k f)) (sym far_is) ∙ ap (max t.far) (sym seen_is);
    }

-- a window shows no byte that hasn't come
window-shows : (held : Held) (k : ℕ) → held.base ≤ k → (j b : ℕ) → k ≤ j → seen_at held j ≡ Byte b → j + 1 ≤ end_of held
window-shows held k base j b behind seen = seen_within held j b (omega arith) seen

-- what was decoded in a window lies in what has come
pub unit-fits : (held : Held) (enc : Encoding) (stop k from to seen : ℕ) (chars : Chars) → held.base ≤ k
    → ((t : Tally) → IsUnit chars seen from to t (ask (seen_at held) (unit_at enc stop k) t)) → Fits chars k (end_of held)
unit-fits held enc stop k from to seen chars base is =
    by_chars chars (subst (λ (r : Reached Piece). Lies (seen_at held) ⊥ (Unit {0}) stop (end_of held) k shown r) (is nothing).reached
    (unit-lies (seen_at held) ⊥ (Unit {0}) stop (end_of held) k shown enc nothing))
  where
    shown : (j b : ℕ) → k ≤ j → seen_at held j ≡ Byte b → (⊥ → b < 256) × (Unit {0} → j + 1 ≤ end_of held)
    shown j b behind seen_there = ((λ never. absurd never), (λ always. window-shows held k base j b behind seen_there))

    by_chars : (cs : Chars) → Lies (seen_at held) ⊥ (Unit {0}) stop (end_of held) k shown (reached_of cs) → Fits cs k (end_of held)
    by_chars (Char c bits) lies = lies.2 tt
    by_chars (Bad bits) lies = lies.1 tt
    by_chars End lies = tt
    by_chars NotYet lies = tt
    by_chars Over lies = tt

same_sum : (a b : Reading Text) → Shifts 0 a b → sum_of a ≡ sum_of b
same_sum a b same =
    let looks : a.tally.looks ≡ b.tally.looks = let is = same.looks in omega arith in
    ap (λ (r : Reached Text). record { reached = r; looks = a.tally.looks; far = a.tally.far }) same.reached
    ∙ ap (λ (n : ℕ). record { reached = b.reached; looks = n; far = a.tally.far }) looks
    ∙ ap (λ (n : ℕ). record { reached = b.reached; looks = b.tally.looks; far = n }) same.far

-- a run that begins with one more has seen as far
far-grows : (k n a : ℕ) → max (max a (k + 1)) (far_of_run (k + 1) n) ≡ max a (k + suc n)
far-grows k zero a = omega arith
far-grows k (suc n) a = omega arith

module _ (look : ℕ → Seen) (enc : Encoding) (replaces : Bool) (extent : Extent) (stop : ℕ) where
  -- what is left of a text from byte k on
  abbrev rest : ℕ → List ℕ → ℕ → Tally → Sum
  rest more chars k t = sum_of (ask look (going enc replaces extent stop more chars k) t)

  same_rest : (more more_too k j : ℕ) (chars others : List ℕ) (t u : Tally) → more ≡ more_too → chars ≡ others → k ≡ j
      → t.looks ≡ u.looks → t.far ≡ u.far → rest more chars k t ≡ rest more_too others j u
  same_rest more more_too k j chars others t u same_more same_chars same_k looks far =
      same_sum (ask look (going enc replaces extent stop more chars k) t) (ask look (going enc replaces extent stop more chars k) u)
      (shifted look 0 (going enc replaces extent stop more chars k) t u (omega arith) far)
      ∙ ap (λ (n : ℕ). rest n chars k u) same_more ∙ ap (λ (cs : List ℕ). rest more_too cs k u) same_chars
      ∙ ap (λ (i : ℕ). rest more_too others i u) same_k

  -- the reading goes on by what its first unit comes to
  pub unit-first : (more k from to seen : ℕ) (text : List ℕ) (chars : Chars) (t : Tally)
      → IsUnit chars seen from to t (ask look (unit_at enc stop k) t)
      → ask look (going enc replaces extent stop (suc more) text k) t
      ≡ go_on look (going_on enc replaces extent stop more text k) (reached_of chars) (ask look (unit_at enc stop k) t).tally
  unit-first more k from to seen text chars t is =
      ask-then look (going_on enc replaces extent stop more text k) (unit_at enc stop k) t
      ∙ ap (λ (r : Reached Piece). go_on look (going_on enc replaces extent stop more text k) r (ask look (unit_at enc stop k) t).tally) is.reached

  -- behind a run of characters of one byte
  run-on : (codes : List ℕ) (more k from : ℕ) (text : List ℕ) (t u : Tally)
      → AreSingles enc (record { look = look; stop = stop }) k from codes
      → u.looks ≡ t.looks + length codes → u.far ≡ max t.far (far_of_run k (length codes))
      → rest (length codes + more) text k t ≡ rest more (text ++ codes) (k + length codes) u
  run-on [] more k from text t u are looks far =
      same_rest (0 + more) more k (k + 0) text (text ++ []) t u (omega arith) (sym (append-nil text)) (omega arith) (omega arith) (omega arith)
  run-on (c ∷ cs) more k from text t u are looks far =
      let first : decoded_at enc (record { look = look; stop = stop }) k (no_look from) ≡ single_at c k from =
      subst (λ (n : ℕ). decoded_at enc (record { look = look; stop = stop }) k (no_look n) ≡ single_at c k n) (add-zero from)
      (subst (λ (j : ℕ). decoded_at enc (record { look = look; stop = stop }) j (no_look (from + 0)) ≡ single_at c j (from + 0)) (add-zero k) (are 0 (omega arith))) in
      let unit : IsUnit (Char c 8) (k + 1) from (from + 1) t (ask look (unit_at enc stop k) t) =
      subst (λ (d : Decoded). IsUnit d.chars (far_seen d.chars k d.walk.far) from d.walk.looks t (ask look (unit_at enc stop k) t)) first (decoded look stop k from t enc) in
      let behind : Tally = (ask look (unit_at enc stop k) t).tally in
      let unit_looks : behind.looks ≡ t.looks + 1 = omega (arith, unit.looks) in
      let unit_far : behind.far ≡ max t.far (k + 1) = unit.far in
      let grows = far-grows k (length cs) t.far in
      ap (λ (n : ℕ). rest n text k t) (longer (length cs) more)
      ∙ ap sum_of (unit-first (length cs + more) k from (from + 1) (k + 1) text (Char c 8) t unit)
      ∙ run-on cs more (k + 1) (from + 1) (text ++ c ∷ []) behind u
      (λ i within. (
      let place : k + suc i ≡ k + 1 + i = omega arith in
      let count : from + suc i ≡ from + 1 + i = omega arith in
      subst (λ (n : ℕ). decoded_at enc (record { look = look; stop = stop }) (k + 1 + i) (no_look n) ≡ single_at (get_or cs i 0) (k + 1 + i) n) count
      (subst (λ (j : ℕ). decoded_at enc (record { look = look; stop = stop }) j (no_look (from + suc i)) ≡ single_at (get_or cs i 0) j (from + suc i)) place
      (are (suc i) (omega arith)))))
      (omega arith) (far ∙ sym grows ∙ ap (λ (n : ℕ). max n (far_of_run (k + 1) (length cs))) (sym unit_far))
      ∙ same_rest more more (k + 1 + length cs) (k + suc (length cs)) ((text ++ c ∷ []) ++ cs) (text ++ c ∷ cs) u u refl (append_assoc text (c ∷ []) cs) (omega arith) refl refl
    where
      longer : (n m : ℕ) → suc n + m ≡ suc (n + m)
      longer n m = omega arith

  pub run-step : (codes : List ℕ) (left more k bit next from to far seen : ℕ) (text new : List ℕ)
      → AreSingles enc (record { look = look; stop = stop }) (bit / 8) from codes → bit / 8 ≡ k → left ≡ length codes + more
      → new ≡ text ++ codes → next ≡ k + length codes → to ≡ from + length codes → seen ≡ max far (far_of_run k (length codes))
      → rest left text k (spent from far) ≡ rest more new next (spent to seen)
  run-step codes left more k bit next from to far seen text new are at all new_is next_is to_is seen_is =
      same_rest left (length codes + more) k k text text (spent from far) (spent from far) all refl refl refl refl
      ∙ run-on codes more k from text (spent from far) (spent to seen)
      (subst (λ (j : ℕ). AreSingles enc (record { look = look; stop = stop }) j from codes) at are) to_is seen_is
      ∙ same_rest more more (k + length codes) next (text ++ codes) new (spent to seen) (spent to seen) refl (sym new_is) (sym next_is) refl refl

  -- behind a unit, as it was judged
  module _ (left more k from to far seen new_far : ℕ) (text : List ℕ) (chars : Chars) (some : left ≡ suc more)
      (unit : (t : Tally) → IsUnit chars seen from to t (ask look (unit_at enc stop k) t)) (far_is : new_far ≡ max far seen) where
    abbrev behind : Tally
    behind = (ask look (unit_at enc stop k) (spent from far)).tally

    behind-looks : behind.looks ≡ to
    behind-looks = let is = (unit (spent from far)).looks in omega arith

    behind-far : behind.far ≡ new_far
    behind-far = (unit (spent from far)).far ∙ sym far_is

    abbrev go : ℕ → ℕ → Ask Text
    go c bytes = going enc replaces extent stop more (text ++ c ∷ []) (k + bytes)

    judged : (verdict : Verdict)
        → ((g : ℕ → ℕ → Ask Text) (t : Tally) → go_on look (after_piece replaces (at_bad extent text k) (at_end extent stop text k) g) (reached_of chars) t ≡ verdict_shown look text g t verdict)
        → rest left text k (spent from far) ≡ sum_of (verdict_shown look text go behind verdict)
    judged verdict is =
        ap (λ (n : ℕ). rest n text k (spent from far)) some
        ∙ ap sum_of (unit-first more k from to seen text chars (spent from far) (unit (spent from far)))
        ∙ ap sum_of (is go behind)

    pub takes-step : (c bytes next : ℕ) (less : ℕ) (new : List ℕ)
        → ((g : ℕ → ℕ → Ask Text) (t : Tally) → go_on look (after_piece replaces (at_bad extent text k) (at_end extent stop text k) g) (reached_of chars) t ≡ verdict_shown look text g t (Takes c bytes))
        → new ≡ text ++ c ∷ [] → next ≡ k + bytes → less ≡ more
        → rest left text k (spent from far) ≡ rest less new next (spent to new_far)
    takes-step c bytes next less new is new_is next_is less_is =
        judged (Takes c bytes) is
        ∙ same_rest more less (k + bytes) next (text ++ c ∷ []) new behind (spent to new_far) (sym less_is) (sym new_is) (sym next_is) behind-looks behind-far

    pub stops-step : (found : Found)
        → ((g : ℕ → ℕ → Ask Text) (t : Tally) → go_on look (after_piece replaces (at_bad extent text k) (at_end extent stop text k) g) (reached_of chars) t ≡ verdict_shown look text g t (Stops found))
        → rest left text k (spent from far) ≡ record { reached = found_shown text found; looks = to; far = new_far }
    stops-step found is =
        judged (Stops found) is
        ∙ ap (λ (n : ℕ). record { reached = found_shown text found; looks = n; far = behind.far }) behind-looks
        ∙ ap (λ (n : ℕ). record { reached = found_shown text found; looks = to; far = n }) behind-far

  -- the whole reading, counted from none
  pub ended : (k from to : ℕ) (chars : List ℕ) (glance : Glance)
      → rest (most_of extent stop k) [] k (spent from 0) ≡ record { reached = found_shown chars glance.found; looks = to; far = glance.far }
      → Answers (ask look (text_at enc replaces extent stop k) nothing) chars glance (to - from)
  ended k from to chars glance is =
      let same : Shifts from (ask look (text_at enc replaces extent stop k) nothing) (ask look (text_at enc replaces extent stop k) (spent from 0)) =
      shifted look from (text_at enc replaces extent stop k) nothing (spent from 0) (omega arith) refl in
      let looks : (ask look (text_at enc replaces extent stop k) (spent from 0)).tally.looks ≡ to = ap (λ (s : Sum). s.looks) is in
      let added = same.looks in
      record {
        reached = same.reached ∙ ap (λ (s : Sum). s.reached) is;
        looks = omega arith;
        far = same.far ∙ ap (λ (s : Sum). s.far) is;
      }

-- a text that is read in a window has come
pub read-within : (held : Held) (enc : Encoding) (replaces : Bool) (extent : Extent) (stop k looks : ℕ) (chars : List ℕ) (glance : Glance) → held.base ≤ k
    → Answers (ask (seen_at held) (text_at enc replaces extent stop k) nothing) chars glance looks → EndsWithin glance.found k (end_of held)
read-within held enc replaces extent stop k looks chars glance base is = by_found glance.found is.reached
  where
    by_found : (found : Found) → (ask (seen_at held) (text_at enc replaces extent stop k) nothing).reached ≡ found_shown chars found
        → EndsWithin found k (end_of held)
    by_found (DoesRead end) reads =
        let read = text-lies enc replaces extent stop (seen_at held) (end_of held) k nothing chars end
        (λ j b behind seen. window-shows held k base j b behind seen) reads in
        (read.behind, read.come)
    by_found FoundBad reads = tt
    by_found FoundCut reads = tt
    by_found FoundBoxed reads = tt
    by_found Past reads = tt
    by_found Waits reads = tt

-- a run of characters of one byte in a window has come
pub run-fits : (held : Held) (enc : Encoding) (stop k bit from : ℕ) (codes : List ℕ) → held.base ≤ k → bit / 8 ≡ k
    → AreSingles enc (record { look = seen_at held; stop = stop }) (bit / 8) from codes → k + length codes ≤ max k (end_of held)
run-fits held enc stop k bit from [] base at are = omega arith
run-fits held enc stop k bit from (c ∷ cs) base at are =
    let last : ℕ = k + length cs in
    let there : bit / 8 + length cs ≡ last = omega arith in
    let single : decoded_at enc (record { look = seen_at held; stop = stop }) last (no_look (from + length cs)) ≡ single_at (get_or (c ∷ cs) (length cs) 0) last (from + length cs) =
    subst (λ (j : ℕ). decoded_at enc (record { look = seen_at held; stop = stop }) j (no_look (from + length cs)) ≡ single_at (get_or (c ∷ cs) (length cs) 0) j (from + length cs))
    there (are (length cs) (omega arith)) in
    let unit : (t : Tally) → IsUnit (Char (get_or (c ∷ cs) (length cs) 0) 8) (last + 1) (from + length cs) (from + length cs + 1) t (ask (seen_at held) (unit_at enc stop last) t) =
    (λ t. subst (λ (d : Decoded). IsUnit d.chars (far_seen d.chars last d.walk.far) (from + length cs) d.walk.looks t (ask (seen_at held) (unit_at enc stop last) t)) single
    (decoded (seen_at held) stop last (from + length cs) t enc)) in
    let fits : last + 1 ≤ end_of held = unit-fits held enc stop last (from + length cs) (from + length cs + 1) (last + 1) (Char (get_or (c ∷ cs) (length cs) 0) 8) (omega arith) unit in
    omega arith

-- what is left where a unit ends the reading
pub ends-left : (held : Held) (task : Task) (sum : Sum) (spot : Spot) (chars : List ℕ) (looks : ℕ) (turn : Turn) (glance : Glance) → turn ≡ Ends glance
    → Turns held task sum spot chars looks turn → sum ≡ record { reached = found_shown chars glance.found; looks = looks; far = glance.far }
ends-left held task sum spot chars looks turn glance is turns = subst (λ (t : Turn). Turns held task sum spot chars looks t) is turns
