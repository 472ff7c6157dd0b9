-- Where the looks of a step lie, and where a step goes on.
use Rattle.std.proofs.Common.{◌≡◌, ℕ, zero, suc, ◌+◌, ◌-◌, ◌*◌, ◌/◌, ◌<◌, ◌≤◌, Bool, true, false, ◌&&◌, ◌||◌, cond, List, [], ◌∷◌, ◌++◌, Option, Some, None, refl, sym, subst, arith}
use Rattle.dfdl_bits.specs.declared.window.Seen.{Seen}
use Rattle.dfdl_looks.specs.Tallies.{Tally}
use Rattle.dfdl_looks.specs.Asks.{Ask, Answer, Look, Reached, Told, TooFar, Missing, Reading, ask, and_then, go_on, AsksFrom}
use Rattle.dfdl_looks.proofs.Sequels.{ask-then, and_then-from}
use Rattle.dfdl_texts.specs.Units.{Piece, Holds, Broken, NoMore, unit_at}
use Rattle.dfdl_texts.proofs.Lying.{Lies, unit-from, unit-lies}
use Rattle.dfdl_delims.specs.Lists.{Opened}
use Rattle.dfdl_delims.specs.Longest.{longest_at}
use Rattle.dfdl_escapes.specs.declared.character.Character.{Character}
use Rattle.dfdl_escapes.specs.declared.form.Form.{Form}
use Rattle.dfdl_escapes.specs.declared.form.Mode.{Mode}
use Rattle.dfdl_escapes.specs.declared.form.Mode.TheVariants.{Plain, Escaping, Before, Inside}
use Rattle.dfdl_escapes.specs.declared.form.Stand.{Stand}
use Rattle.dfdl_escapes.specs.Steps.{Step, Takes, Passes, Closes, RunsOut, Fails, stand, is_mark, is_there, replaced, piece_at, ended_by, markup_at, unless_closed, unless_markup, as_content, escaped, pair_case, escaping_case, before_case, in_block, in_block_escaped, inside_case, case_in, by_piece, is_plain, step_at}
use Rattle.dfdl_escapes.specs.Contents.{Content, MovesOn, after_step, content_at, content_from}

-- each look of a program is at byte low or one behind it, and each of its answers passes
abbrev From : {F : Type 0} → ℕ → (F → Type 0) → Ask F → Type 0
From low P (Answer found) = P found
From low P (Look k go) = (low ≤ k) × ((o : Option ℕ) → From low P (go o))

widened : {F : Type 0} (low : ℕ) (a : Ask F) → AsksFrom low a → From low (λ (f : F). Unit {0}) a
widened low (Answer f) is = tt
widened low (Look k go) is = (is.0, λ o. widened low (go o) (is.1 o))

narrowed : {F : Type 0} (low : ℕ) (P : F → Type 0) (a : Ask F) → From low P a → AsksFrom low a
narrowed low P (Answer f) is = tt
narrowed low P (Look k go) is = (is.0, λ o. narrowed low P (go o) (is.1 o))

joined : {F G : Type 0} (low : ℕ) (P : F → Type 0) (Q : G → Type 0) (a : Ask F) (go : F → Ask G) → From low P a → ((f : F) → P f → From low Q (go f))
    → From low Q (and_then a go)
joined low P Q (Answer f) go first then = then f first
joined low P Q (Look k next) go first then = (first.0, λ o. joined low P Q (next o) go (first.1 o) then)

-- a step goes on at byte low or behind it
abbrev GoesFrom : ℕ → Step → Type 0
GoesFrom low (Takes c escaped next) = low ≤ next.byte
GoesFrom low (Passes next) = low ≤ next.byte
GoesFrom low (Closes which) = Unit {0}
GoesFrom low RunsOut = Unit {0}
GoesFrom low (Fails cause) = Unit {0}

module _ (test : List ℕ → Bool) (lists : List Opened) (form : Form)
    (markup-from : (stop k : ℕ) → AsksFrom k (longest_at test lists stop k)) where
  abbrev Is_from : ℕ → Ask Step → Type 0
  Is_from low a = From low (GoesFrom low) a

  from_either : (low : ℕ) (b : Bool) (p q : Ask Step) → Is_from low p → Is_from low q → Is_from low (cond b p q)
  from_either low true p q first second = first
  from_either low false p q first second = second

  from_one : (low : ℕ) (b : Bool) (p q : Step) → GoesFrom low p → GoesFrom low q → GoesFrom low (cond b p q)
  from_one low true p q first second = first
  from_one low false p q first second = second

  from_piece : (low k : ℕ) → low ≤ k → (go : Piece → Ask Step) → ((piece : Piece) → Is_from low (go piece))
      → Is_from low (and_then (piece_at form k) go)
  from_piece low k behind go then =
      joined low (λ (p : Piece). Unit {0}) (GoesFrom low) (piece_at form k) go
      (widened low (piece_at form k)
      (and_then-from low (unit_at form.enc form.stop k) (λ piece. Answer (replaced form.replaces piece)) (unit-from low form.stop form.enc k behind) (λ piece. tt)))
      (λ piece is. then piece)

  from_unless : (low k : ℕ) → low ≡ k → (go : Ask Step) → Is_from low go → Is_from low (unless_markup test lists form k go)
  from_unless low k at go then =
      joined low (λ (o : Option ℕ). Unit {0}) (GoesFrom low) (markup_at test lists form.stop k) (λ found. unless_closed go found)
      (widened low (markup_at test lists form.stop k)
      (subst (λ (n : ℕ). AsksFrom n (markup_at test lists form.stop k)) (sym at)
      (and_then-from k (longest_at test lists form.stop k) (λ found. Answer (ended_by found)) (markup-from form.stop k) (λ found. tt)))) by_found
    where
      by_found : (o : Option ℕ) → Unit {0} → Is_from low (unless_closed go o)
      by_found None is = then
      by_found (Some which) is = tt

  from_escaped : (low c next : ℕ) (piece : Piece) → low ≤ next → GoesFrom low (escaped c next piece)
  from_escaped low c next (Holds d bytes) behind = omega arith
  from_escaped low c next (Broken bytes) behind = tt
  from_escaped low c next NoMore behind = behind

  from_pair : (k c next : ℕ) (piece : Piece) → k ≤ next → Is_from k (pair_case test lists form k c next piece)
  from_pair k c next piece behind =
      from_either k (is_mark form.escape_escape c && is_there form.escape piece) _ _ (from_escaped k c next piece behind)
      (from_either k (is_mark form.escape c) _ _ (from_escaped k c next piece behind)
      (from_unless k k refl (Answer (Takes c false (stand Escaping next))) behind))

  from_escaping : (k : ℕ) (piece : Piece) → Is_from k (escaping_case test lists form k piece)
  from_escaping k (Holds c bytes) =
      from_either k (is_mark form.escape_escape c || is_mark form.escape c) _ _
      (from_piece k (k + bytes) (omega arith) (λ next. pair_case test lists form k c (k + bytes) next) (λ next. from_pair k c (k + bytes) next (omega arith)))
      (from_unless k k refl (Answer (Takes c false (stand Escaping (k + bytes)))) (omega arith))
  from_escaping k (Broken bytes) = from_unless k k refl _ tt
  from_escaping k NoMore = tt

  from_before : (k : ℕ) (piece : Piece) → Is_from k (before_case test lists form k piece)
  from_before k (Holds c bytes) =
      from_either k (is_mark form.lead c) _ _ (from_unless k k refl (Answer (Takes c false (stand Before (k + bytes)))) (omega arith))
      (from_either k (is_mark form.start c) _ _ (omega arith)
      (from_unless k k refl (Answer (Takes c false (stand Plain (k + bytes)))) (omega arith)))
  from_before k (Broken bytes) = from_unless k k refl _ tt
  from_before k NoMore = tt

  from_block : (low c next : ℕ) → low ≤ next → GoesFrom low (in_block form c next)
  from_block low c next behind = from_one low (is_mark form.end c) _ _ behind behind

  from_block_pair : (low c next : ℕ) (piece : Piece) → low ≤ next → GoesFrom low (in_block_escaped form c next piece)
  from_block_pair low c next (Holds d bytes) behind = from_one low (is_mark form.end d) _ _ (omega arith) (from_block low c next behind)
  from_block_pair low c next (Broken bytes) behind = from_block low c next behind
  from_block_pair low c next NoMore behind = from_block low c next behind

  from_inside : (k : ℕ) (piece : Piece) → Is_from k (inside_case form k piece)
  from_inside k (Holds c bytes) =
      from_either k (is_mark form.escape_escape c) _ _
      (from_piece k (k + bytes) (omega arith) (λ next. Answer (in_block_escaped form c (k + bytes) next))
      (λ next. from_block_pair k c (k + bytes) next (omega arith)))
      (from_block k c (k + bytes) (omega arith))
  from_inside k (Broken bytes) = tt
  from_inside k NoMore = tt

  from_content : (k : ℕ) (piece : Piece) → GoesFrom k (as_content Plain k piece)
  from_content k (Holds c bytes) = omega arith
  from_content k (Broken bytes) = tt
  from_content k NoMore = tt

  from_case : (mode : Mode) (k : ℕ) (piece : Piece) → Is_from k (case_in test lists form mode k piece)
  from_case Plain k piece = from_content k piece
  from_case Escaping k piece = from_escaping k piece
  from_case Before k piece = from_before k piece
  from_case Inside k piece = from_inside k piece

  from_by_piece : (at : Stand) → Is_from at.byte (by_piece test lists form at)
  from_by_piece at = from_piece at.byte at.byte (omega arith) (λ piece. case_in test lists form at.mode at.byte piece) (λ piece. from_case at.mode at.byte piece)

  step_from : (at : Stand) → Is_from at.byte (step_at test lists form at)
  step_from at =
      from_either at.byte (is_plain at.mode) _ _ (from_unless at.byte at.byte refl (by_piece test lists form at) (from_by_piece at)) (from_by_piece at)

  pub step-from : (at : Stand) → AsksFrom at.byte (step_at test lists form at)
  step-from at = narrowed at.byte (GoesFrom at.byte) (step_at test lists form at) (step_from at)

  -- what lies behind a later byte lies behind an earlier one
  lower : {F : Type 0} (low high : ℕ) → low ≤ high → (P Q : F → Type 0) → ((f : F) → P f → Q f) → (a : Ask F) → From high P a → From low Q a
  lower low high under P Q weaker (Answer f) is = weaker f is
  lower low high under P Q weaker (Look k go) is = (omega (arith, is.0), λ o. lower low high under P Q weaker (go o) (is.1 o))

  lower_step : (low high : ℕ) → low ≤ high → (step : Step) → GoesFrom high step → GoesFrom low step
  lower_step low high under (Takes c escaped next) is = omega (arith, is)
  lower_step low high under (Passes next) is = omega (arith, is)
  lower_step low high under (Closes which) is = tt
  lower_step low high under RunsOut is = tt
  lower_step low high under (Fails cause) is = tt

  pub content-from : (more low : ℕ) (read : List Character) (at : Stand) → low ≤ at.byte
      → From low (λ (c : Content). Unit {0}) (content_from test lists form more read at)
  content-from zero low read at behind = tt
  content-from (suc more) low read at behind =
      joined low (GoesFrom low) (λ (c : Content). Unit {0}) (step_at test lists form at)
      (λ step. after_step (λ next_read next. content_from test lists form more next_read next) read at step)
      (lower low at.byte behind (GoesFrom at.byte) (GoesFrom low) (lower_step low at.byte behind) (step_at test lists form at) (step_from at))
      (λ step goes. by step goes (λ next_read next later. content-from more low next_read next later))
    where
      by : (step : Step) → GoesFrom low step
          → ((next_read : List Character) (next : Stand) → low ≤ next.byte → From low (λ (c : Content). Unit {0}) (content_from test lists form more next_read next))
          → From low (λ (c : Content). Unit {0}) (after_step (λ next_read next. content_from test lists form more next_read next) read at step)
      by (Takes c is_escaped next) goes then = then (read ++ record { c = c; is_escaped = is_escaped } ∷ []) next goes
      by (Passes next) goes then = then read next goes
      by (Closes which) goes then = tt
      by RunsOut goes then = tt
      by (Fails cause) goes then = tt

  pub whole-from : (at : Stand) → AsksFrom at.byte (content_at test lists form at)
  whole-from at =
      narrowed at.byte (λ (c : Content). Unit {0}) (content_at test lists form at)
      (content-from (suc (form.stop / 8 - at.byte)) at.byte [] at (omega arith))

-- what holds of an answer that is told
abbrev OnTold : {F : Type 0} → (F → Type 0) → Reached F → Type 0
OnTold P (Told f) = P f
OnTold P TooFar = Unit {0}
OnTold P Missing = Unit {0}

-- where a piece at byte k lies
abbrev LiesAt : ℕ → ℕ → Piece → Type 0
LiesAt stop k (Holds c bytes) = (1 ≤ bytes) × (8 * (k + bytes) ≤ stop)
LiesAt stop k (Broken bytes) = Unit {0}
LiesAt stop k NoMore = Unit {0}

module _ (look : ℕ → Seen) where
  -- it holds of each answer of the program
  abbrev Holds_of : {F : Type 0} → (F → Type 0) → Ask F → Type 0
  Holds_of P a = (u : Tally) → OnTold P (ask look a u).reached

  going : {F G : Type 0} (P : F → Type 0) (Q : G → Type 0) (go : F → Ask G) → ((f : F) → P f → Holds_of Q (go f))
      → (r : Reached F) (u : Tally) → OnTold P r → OnTold Q (go_on look go r u).reached
  going P Q go then (Told f) u is = then f is u
  going P Q go then TooFar u is = tt
  going P Q go then Missing u is = tt

  chained : {F G : Type 0} (P : F → Type 0) (Q : G → Type 0) (p : Ask F) (go : F → Ask G) → Holds_of P p → ((f : F) → P f → Holds_of Q (go f))
      → Holds_of Q (and_then p go)
  chained {F} {G} P Q p go first then u =
      subst (λ (r : Reading G). OnTold Q r.reached) (sym (ask-then look go p u)) (going P Q go then (ask look p u).reached (ask look p u).tally (first u))

  any : {F : Type 0} (r : Reached F) → OnTold (λ (f : F). Unit {0}) r
  any (Told f) = tt
  any TooFar = tt
  any Missing = tt

module _ (look : ℕ → Seen) (test : List ℕ → Bool) (lists : List Opened) (form : Form) where
  abbrev Moves : Stand → Ask Step → Type 0
  Moves at p = Holds_of look (MovesOn form at) p

  either : (at : Stand) (b : Bool) (p q : Ask Step) → Moves at p → Moves at q → Moves at (cond b p q)
  either at true p q first second = first
  either at false p q first second = second

  one_of : (at : Stand) (b : Bool) (p q : Step) → MovesOn form at p → MovesOn form at q → MovesOn form at (cond b p q)
  one_of at true p q first second = first
  one_of at false p q first second = second

  unit-there : (k : ℕ) → Holds_of look (λ piece. LiesAt form.stop k (replaced form.replaces piece)) (unit_at form.enc form.stop k)
  unit-there k u =
      by_reached (ask look (unit_at form.enc form.stop k) u).reached
      (unit-lies look ⊥ ⊥ form.stop 0 k (λ j b behind seen. ((λ never. absurd never), (λ never. absurd never))) form.enc u)
    where
      by_replaced : (b : Bool) (bytes : ℕ) → 1 ≤ bytes → 8 * (k + bytes) ≤ form.stop → LiesAt form.stop k (cond b (Holds 0xFFFD bytes) (Broken bytes))
      by_replaced true bytes some inside = (some, inside)
      by_replaced false bytes some inside = tt

      by_reached : (r : Reached Piece) → Lies look ⊥ ⊥ form.stop 0 k (λ j b behind seen. ((λ never. absurd never), (λ never. absurd never))) r
          → OnTold (λ piece. LiesAt form.stop k (replaced form.replaces piece)) r
      by_reached (Told (Holds c bytes)) lies = (lies.1, lies.3)
      by_reached (Told (Broken bytes)) lies = by_replaced form.replaces bytes lies.0 lies.2
      by_reached (Told NoMore) lies = tt
      by_reached TooFar lies = tt
      by_reached Missing lies = tt

  by_there : (at : Stand) (k : ℕ) (go : Piece → Ask Step) → ((piece : Piece) → LiesAt form.stop k piece → Moves at (go piece))
      → Moves at (and_then (piece_at form k) go)
  by_there at k go then =
      chained look (LiesAt form.stop k) (MovesOn form at) (piece_at form k) go
      (chained look (λ piece. LiesAt form.stop k (replaced form.replaces piece)) (LiesAt form.stop k) (unit_at form.enc form.stop k)
      (λ piece. Answer (replaced form.replaces piece)) (unit-there k) (λ piece lies u. lies))
      then

  by_unless : (at : Stand) (k : ℕ) (go : Ask Step) → Moves at go → Moves at (unless_markup test lists form k go)
  by_unless at k go then =
      chained look (λ (o : Option ℕ). Unit {0}) (MovesOn form at) (markup_at test lists form.stop k) (λ found. unless_closed go found)
      (λ u. any look (ask look (markup_at test lists form.stop k) u).reached) by_found
    where
      by_found : (o : Option ℕ) → Unit {0} → Moves at (unless_closed go o)
      by_found None is = then
      by_found (Some which) is = λ u. tt

  moved : (at : Stand) (c bytes : ℕ) (is_escaped : Bool) (mode : Mode) (k : ℕ) → at.byte ≤ k → (1 ≤ bytes) × (8 * (k + bytes) ≤ form.stop)
      → MovesOn form at (Takes c is_escaped (stand mode (k + bytes)))
  moved at c bytes is_escaped mode k behind lies = (omega (arith, lies.0, behind), lies.1)

  move_escaped : (at : Stand) (c next : ℕ) (piece : Piece) → at.byte < next → 8 * next ≤ form.stop → LiesAt form.stop next piece
      → MovesOn form at (escaped c next piece)
  move_escaped at c next (Holds d bytes) behind inside lies = moved at d bytes true Escaping next (omega arith) lies
  move_escaped at c next (Broken bytes) behind inside lies = tt
  move_escaped at c next NoMore behind inside lies = (behind, inside)

  move_pair : (at : Stand) (k c next : ℕ) (piece : Piece) → at.byte < next → 8 * next ≤ form.stop → LiesAt form.stop next piece
      → Moves at (pair_case test lists form k c next piece)
  move_pair at k c next piece behind inside lies =
      either at (is_mark form.escape_escape c && is_there form.escape piece) _ _ (λ u. move_escaped at c next piece behind inside lies)
      (either at (is_mark form.escape c) _ _ (λ u. move_escaped at c next piece behind inside lies)
      (by_unless at k (Answer (Takes c false (stand Escaping next))) (λ u. (behind, inside))))

  move_escaping : (at : Stand) (piece : Piece) → LiesAt form.stop at.byte piece → Moves at (escaping_case test lists form at.byte piece)
  move_escaping at (Holds c bytes) lies =
      either at (is_mark form.escape_escape c || is_mark form.escape c) _ _
      (by_there at (at.byte + bytes) (λ next. pair_case test lists form at.byte c (at.byte + bytes) next)
      (λ next there. move_pair at at.byte c (at.byte + bytes) next (omega (arith, lies.0)) lies.1 there))
      (by_unless at at.byte (Answer (Takes c false (stand Escaping (at.byte + bytes)))) (λ u. (omega (arith, lies.0), lies.1)))
  move_escaping at (Broken bytes) lies = by_unless at at.byte _ (λ u. tt)
  move_escaping at NoMore lies = λ u. tt

  move_before : (at : Stand) (piece : Piece) → LiesAt form.stop at.byte piece → Moves at (before_case test lists form at.byte piece)
  move_before at (Holds c bytes) lies =
      either at (is_mark form.lead c) _ _
      (by_unless at at.byte (Answer (Takes c false (stand Before (at.byte + bytes)))) (λ u. (omega (arith, lies.0), lies.1)))
      (either at (is_mark form.start c) _ _ (λ u. (omega (arith, lies.0), lies.1))
      (by_unless at at.byte (Answer (Takes c false (stand Plain (at.byte + bytes)))) (λ u. (omega (arith, lies.0), lies.1))))
  move_before at (Broken bytes) lies = by_unless at at.byte _ (λ u. tt)
  move_before at NoMore lies = λ u. tt

  move_block : (at : Stand) (c next : ℕ) → at.byte < next → 8 * next ≤ form.stop → MovesOn form at (in_block form c next)
  move_block at c next behind inside = one_of at (is_mark form.end c) _ _ (behind, inside) (behind, inside)

  move_block_pair : (at : Stand) (c next : ℕ) (piece : Piece) → at.byte < next → 8 * next ≤ form.stop → LiesAt form.stop next piece
      → MovesOn form at (in_block_escaped form c next piece)
  move_block_pair at c next (Holds d bytes) behind inside lies =
      one_of at (is_mark form.end d) _ _ (moved at d bytes true Inside next (omega arith) lies) (move_block at c next behind inside)
  move_block_pair at c next (Broken bytes) behind inside lies = move_block at c next behind inside
  move_block_pair at c next NoMore behind inside lies = move_block at c next behind inside

  move_inside : (at : Stand) (piece : Piece) → LiesAt form.stop at.byte piece → Moves at (inside_case form at.byte piece)
  move_inside at (Holds c bytes) lies =
      either at (is_mark form.escape_escape c) _ _
      (by_there at (at.byte + bytes) (λ next. Answer (in_block_escaped form c (at.byte + bytes) next))
      (λ next there u. move_block_pair at c (at.byte + bytes) next (omega (arith, lies.0)) lies.1 there))
      (λ u. move_block at c (at.byte + bytes) (omega (arith, lies.0)) lies.1)
  move_inside at (Broken bytes) lies = λ u. tt
  move_inside at NoMore lies = λ u. tt

  move_content : (at : Stand) (piece : Piece) → LiesAt form.stop at.byte piece → MovesOn form at (as_content Plain at.byte piece)
  move_content at (Holds c bytes) lies = (omega (arith, lies.0), lies.1)
  move_content at (Broken bytes) lies = tt
  move_content at NoMore lies = tt

  move_case : (at : Stand) (mode : Mode) (piece : Piece) → LiesAt form.stop at.byte piece → Moves at (case_in test lists form mode at.byte piece)
  move_case at Plain piece lies = λ u. move_content at piece lies
  move_case at Escaping piece lies = move_escaping at piece lies
  move_case at Before piece lies = move_before at piece lies
  move_case at Inside piece lies = move_inside at piece lies

  move_by_piece : (at : Stand) → Moves at (by_piece test lists form at)
  move_by_piece at = by_there at at.byte (λ piece. case_in test lists form at.mode at.byte piece) (λ piece lies. move_case at at.mode piece lies)

  pub step-moves : (at : Stand) → Moves at (step_at test lists form at)
  step-moves at =
      either at (is_plain at.mode) _ _ (by_unless at at.byte (by_piece test lists form at) (move_by_piece at)) (move_by_piece at)

  pub told-moves : (at : Stand) (step : Step) (u : Tally) → (ask look (step_at test lists form at) u).reached ≡ Told step → MovesOn form at step
  told-moves at step u is = subst (λ (r : Reached Step). OnTold (MovesOn form at) r) is (step-moves at u)
