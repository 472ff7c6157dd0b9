-- Where the looks of a content that markup ends lie, and where it ends.
use Rattle.std.proofs.Common.{◌≡◌, ℕ, zero, suc, ◌+◌, ◌-◌, ◌/◌, ◌<◌, ◌≤◌, Bool, true, false, ◌&&◌, ◌||◌, cond, List, [], ◌∷◌, ◌++◌, max, Option, Some, None, sym, subst, arith}
use Rattle.dfdl_bits.specs.declared.window.Seen.{Seen}
use Rattle.dfdl_bits.specs.declared.window.Seen.TheVariants.{Byte}
use Rattle.dfdl_looks.specs.Tallies.{Tally}
use Rattle.dfdl_looks.specs.Asks.{Ask, Answer, AsksFrom, Reached, Told, TooFar, Missing, Reading, ask, and_then, go_on}
use Rattle.dfdl_looks.proofs.Sequels.{ask-then}
use Rattle.dfdl_texts.specs.Units.{Piece, Holds, Broken, NoMore, unit_at}
use Rattle.dfdl_texts.proofs.Lying.{Lies, unit-lies}
use Rattle.dfdl_terms.specs.declared.text.ScanForm.{ScanForm}
use Rattle.dfdl_delims.specs.Deciding.{goes_on}
use Rattle.dfdl_delims.specs.Lists.{Opened}
use Rattle.dfdl_delims.proofs.Deciders.{begins_here}
use Rattle.dfdl_escapes.specs.declared.character.Character.{Character}
use Rattle.dfdl_escapes.specs.declared.form.Form.{Form}
use Rattle.dfdl_escapes.specs.declared.form.Mode.{Mode}
use Rattle.dfdl_escapes.specs.declared.form.Mode.TheVariants.{Plain, Escaping, Before, Inside}
use Rattle.dfdl_escapes.specs.declared.form.Stand.{Stand}
use Rattle.dfdl_escapes.specs.Steps.{Step, Takes, Passes, Closes, RunsOut, Fails, stand, is_mark, is_there, replaced, piece_at, markup_at, unless_closed, unless_markup, as_content, escaped, pair_case, escaping_case, before_case, in_block, in_block_escaped, inside_case, case_in, by_piece, is_plain, step_at}
use Rattle.dfdl_escapes.specs.Contents.{Content, after_step, content_from}
use Rattle.dfdl_escapes.proofs.Moving.{step-from, whole-from}
use Rattle.dfdl_grammar.specs.Delimited.{first_step, scanned, scanned_as, scanned_from}
use Rattle.dfdl_grammar.specs.Framing.{aligned}
use Rattle.dfdl_leaves.proofs.Made.{OnTold}

module _ (look : ℕ → Seen) where
  -- it holds of each answer of the program
  abbrev HoldsOf : {F : Type 0} → (F → Type 0) → Ask F → Type 0
  HoldsOf P a = (u : Tally) → OnTold P (ask look a u).reached

  going : {F G : Type 0} (P : F → Type 0) (Q : G → Type 0) (go : F → Ask G) → ((f : F) → P f → HoldsOf Q (go f))
      → (r : Reached F) (u : Tally) → OnTold P r → OnTold Q (go_on look go r u).reached
  going P Q go then (Told f) u is = then f is u
  going P Q go then TooFar u is = tt
  going P Q go then Missing u is = tt

  chained : {F G : Type 0} (P : F → Type 0) (Q : G → Type 0) (p : Ask F) (go : F → Ask G) → HoldsOf P p → ((f : F) → P f → HoldsOf Q (go f))
      → HoldsOf Q (and_then p go)
  chained {F} {G} P Q p go first then u =
      subst (λ (r : Reading G). OnTold Q r.reached) (sym (ask-then look go p u)) (going P Q go then (ask look p u).reached (ask look p u).tally (first u))

  pub any : {F : Type 0} (r : Reached F) → OnTold (λ (f : F). Unit {0}) r
  any (Told f) = tt
  any TooFar = tt
  any Missing = tt

-- by looks that see bytes before this one alone, if that is so
module _ (look : ℕ → Seen) (near : Type 0) (last : ℕ) (test : List ℕ → Bool) (lists : List Opened) (form : Form) where
  -- each byte that is seen from a byte on is before the last one
  abbrev pub Shown : ℕ → Type 0
  Shown k = (j b : ℕ) → k ≤ j → look j ≡ Byte b → near → j + 1 ≤ last

  -- a place that a step leads to, from a byte on
  abbrev Leads : ℕ → ℕ → Type 0
  Leads from to = (from ≤ to) × (near → to ≤ last)

  -- where a piece at a byte lies
  abbrev Ends : ℕ → Piece → Type 0
  Ends k (Holds c bytes) = Leads k (k + bytes)
  Ends k (Broken bytes) = Unit {0}
  Ends k NoMore = Unit {0}

  -- where a step leads from a byte on
  abbrev Goes : ℕ → Step → Type 0
  Goes k (Takes c is_escaped next) = Leads k next.byte
  Goes k (Passes next) = Leads k next.byte
  Goes k (Closes which) = Unit {0}
  Goes k RunsOut = Unit {0}
  Goes k (Fails cause) = Unit {0}

  abbrev Go : ℕ → Ask Step → Type 0
  Go k p = HoldsOf look (Goes k) p

  either : (k : ℕ) (b : Bool) (p q : Ask Step) → Go k p → Go k q → Go k (cond b p q)
  either k true p q first second = first
  either k false p q first second = second

  one_of : (k : ℕ) (b : Bool) (p q : Step) → Goes k p → Goes k q → Goes k (cond b p q)
  one_of k true p q first second = first
  one_of k false p q first second = second

  farther : (k mid to : ℕ) → Leads k mid → Leads mid to → Leads k to
  farther k mid to first second = (omega (arith, first.0, second.0), second.1)

  piece-ends : (k : ℕ) → Shown k → HoldsOf look (λ piece. Ends k (replaced form.replaces piece)) (unit_at form.enc form.stop k)
  piece-ends k shown u =
      by_reached (ask look (unit_at form.enc form.stop k) u).reached (unit-lies look ⊥ near form.stop last k both form.enc u)
    where
      both : (j b : ℕ) → k ≤ j → look j ≡ Byte b → (⊥ → b < 256) × (near → j + 1 ≤ last)
      both j b behind seen = ((λ never. absurd never), shown j b behind seen)

      by_replaced : (b : Bool) (bytes : ℕ) → (near → k + bytes ≤ last) → Ends k (cond b (Holds 0xFFFD bytes) (Broken bytes))
      by_replaced true bytes come = (omega arith, come)
      by_replaced false bytes come = tt

      by_reached : (r : Reached Piece) → Lies look ⊥ near form.stop last k both r → OnTold (λ piece. Ends k (replaced form.replaces piece)) r
      by_reached (Told (Holds c bytes)) lies = (omega arith, lies.2)
      by_reached (Told (Broken bytes)) lies = by_replaced form.replaces bytes lies.1
      by_reached (Told NoMore) lies = tt
      by_reached TooFar lies = tt
      by_reached Missing lies = tt

  by_there : (from k : ℕ) → Shown k → (go : Piece → Ask Step) → ((piece : Piece) → Ends k piece → Go from (go piece)) → Go from (and_then (piece_at form k) go)
  by_there from k shown go then =
      chained look (Ends k) (Goes from) (piece_at form k) go
      (chained look (λ piece. Ends k (replaced form.replaces piece)) (Ends k) (unit_at form.enc form.stop k)
      (λ piece. Answer (replaced form.replaces piece)) (piece-ends k shown) (λ piece ends u. ends))
      then

  by_unless : (from k : ℕ) (go : Ask Step) → Go from go → Go from (unless_markup test lists form k go)
  by_unless from k go then =
      chained look (λ (o : Option ℕ). Unit {0}) (Goes from) (markup_at test lists form.stop k) (λ found. unless_closed go found)
      (λ u. any look (ask look (markup_at test lists form.stop k) u).reached) by_found
    where
      by_found : (o : Option ℕ) → Unit {0} → Go from (unless_closed go o)
      by_found None is = then
      by_found (Some which) is = λ u. tt

  go_escaped : (k c next : ℕ) (piece : Piece) → Leads k next → Ends next piece → Goes k (escaped c next piece)
  go_escaped k c next (Holds d bytes) here ends = farther k next (next + bytes) here ends
  go_escaped k c next (Broken bytes) here ends = tt
  go_escaped k c next NoMore here ends = here

  go_pair : (k c next : ℕ) (piece : Piece) → Leads k next → Ends next piece → Go k (pair_case test lists form k c next piece)
  go_pair k c next piece here ends =
      either k (is_mark form.escape_escape c && is_there form.escape piece) _ _ (λ u. go_escaped k c next piece here ends)
      (either k (is_mark form.escape c) _ _ (λ u. go_escaped k c next piece here ends)
      (by_unless k k (Answer (Takes c false (stand Escaping next))) (λ u. here)))

  later : (k next : ℕ) → Shown k → k ≤ next → Shown next
  later k next shown behind j b from seen = shown j b (omega arith) seen

  go_escaping : (k : ℕ) (piece : Piece) → Shown k → Ends k piece → Go k (escaping_case test lists form k piece)
  go_escaping k (Holds c bytes) shown ends =
      either k (is_mark form.escape_escape c || is_mark form.escape c) _ _
      (by_there k (k + bytes) (later k (k + bytes) shown ends.0) (λ next. pair_case test lists form k c (k + bytes) next)
      (λ next there. go_pair k c (k + bytes) next ends there))
      (by_unless k k (Answer (Takes c false (stand Escaping (k + bytes)))) (λ u. ends))
  go_escaping k (Broken bytes) shown ends = by_unless k k _ (λ u. tt)
  go_escaping k NoMore shown ends = λ u. tt

  go_before : (k : ℕ) (piece : Piece) → Ends k piece → Go k (before_case test lists form k piece)
  go_before k (Holds c bytes) ends =
      either k (is_mark form.lead c) _ _ (by_unless k k (Answer (Takes c false (stand Before (k + bytes)))) (λ u. ends))
      (either k (is_mark form.start c) _ _ (λ u. ends) (by_unless k k (Answer (Takes c false (stand Plain (k + bytes)))) (λ u. ends)))
  go_before k (Broken bytes) ends = by_unless k k _ (λ u. tt)
  go_before k NoMore ends = λ u. tt

  go_block : (k c next : ℕ) → Leads k next → Goes k (in_block form c next)
  go_block k c next here = one_of k (is_mark form.end c) _ _ here here

  go_block_pair : (k c next : ℕ) (piece : Piece) → Leads k next → Ends next piece → Goes k (in_block_escaped form c next piece)
  go_block_pair k c next (Holds d bytes) here ends =
      one_of k (is_mark form.end d) _ _ (farther k next (next + bytes) here ends) (go_block k c next here)
  go_block_pair k c next (Broken bytes) here ends = go_block k c next here
  go_block_pair k c next NoMore here ends = go_block k c next here

  go_inside : (k : ℕ) (piece : Piece) → Shown k → Ends k piece → Go k (inside_case form k piece)
  go_inside k (Holds c bytes) shown ends =
      either k (is_mark form.escape_escape c) _ _
      (by_there k (k + bytes) (later k (k + bytes) shown ends.0) (λ next. Answer (in_block_escaped form c (k + bytes) next))
      (λ next there u. go_block_pair k c (k + bytes) next ends there))
      (λ u. go_block k c (k + bytes) ends)
  go_inside k (Broken bytes) shown ends = λ u. tt
  go_inside k NoMore shown ends = λ u. tt

  go_content : (k : ℕ) (piece : Piece) → Ends k piece → Goes k (as_content Plain k piece)
  go_content k (Holds c bytes) ends = ends
  go_content k (Broken bytes) ends = tt
  go_content k NoMore ends = tt

  go_case : (mode : Mode) (k : ℕ) (piece : Piece) → Shown k → Ends k piece → Go k (case_in test lists form mode k piece)
  go_case Plain k piece shown ends = λ u. go_content k piece ends
  go_case Escaping k piece shown ends = go_escaping k piece shown ends
  go_case Before k piece shown ends = go_before k piece ends
  go_case Inside k piece shown ends = go_inside k piece shown ends

  go_by_piece : (at : Stand) → Shown at.byte → Go at.byte (by_piece test lists form at)
  go_by_piece at shown =
      by_there at.byte at.byte shown (λ piece. case_in test lists form at.mode at.byte piece) (λ piece ends. go_case at.mode at.byte piece shown ends)

  step-goes : (at : Stand) → Shown at.byte → Go at.byte (step_at test lists form at)
  step-goes at shown =
      either at.byte (is_plain at.mode) _ _ (by_unless at.byte at.byte (by_piece test lists form at) (go_by_piece at shown)) (go_by_piece at shown)

  -- a content ends behind a byte, before the last byte or where it begins
  abbrev pub ContentEnds : ℕ → Content → Type 0
  ContentEnds k content = (k ≤ content.last.byte) × (near → content.last.byte ≤ max k last)

  nearer : (k next : ℕ) → Leads k next → (content : Content) → ContentEnds next content → ContentEnds k content
  nearer k next here content ends = (omega (arith, here.0, ends.0), λ is. (let come = here.1 is in let there = ends.1 is in omega arith))

  on_nearer : (k next : ℕ) → Leads k next → (r : Reached Content) → OnTold (ContentEnds next) r → OnTold (ContentEnds k) r
  on_nearer k next here (Told content) ends = nearer k next here content ends
  on_nearer k next here TooFar ends = tt
  on_nearer k next here Missing ends = tt

  content-ends : (more : ℕ) (read : List Character) (at : Stand) → Shown at.byte → HoldsOf look (ContentEnds at.byte) (content_from test lists form more read at)
  content-ends zero read at shown = λ u. (omega arith, λ is. omega arith)
  content-ends (suc more) read at shown =
      chained look (Goes at.byte) (ContentEnds at.byte) (step_at test lists form at)
      (λ step. after_step (λ next_read next. content_from test lists form more next_read next) read at step)
      (step-goes at shown) (λ step goes. by step goes (λ next_read next here v. content-ends more next_read next (later at.byte next.byte shown here) v))
    where
      by : (step : Step) → Goes at.byte step
          → ((next_read : List Character) (next : Stand) → at.byte ≤ next.byte → HoldsOf look (ContentEnds next.byte) (content_from test lists form more next_read next))
          → HoldsOf look (ContentEnds at.byte) (after_step (λ next_read next. content_from test lists form more next_read next) read at step)
      by (Takes c is_escaped next) goes then u =
          let next_read : List Character = read ++ record { c = c; is_escaped = is_escaped } ∷ [] in
          on_nearer at.byte next.byte goes (ask look (content_from test lists form more next_read next) u).reached (then next_read next goes.0 u)
      by (Passes next) goes then u =
          on_nearer at.byte next.byte goes (ask look (content_from test lists form more read next) u).reached (then read next goes.0 u)
      by (Closes which) goes then u = (omega arith, λ is. omega arith)
      by RunsOut goes then u = (omega arith, λ is. omega arith)
      by (Fails cause) goes then u = (omega arith, λ is. omega arith)

module _ (lists : List Opened) (scan : ScanForm) (bit stop : ℕ) where
  -- the content ends at the next whole byte or behind it, among the bytes that were looked at
  pub scanned-ends : (look : ℕ → Seen) (near : Type 0) (last : ℕ) → Shown look near last (goes_on lists) lists (scanned_as scan stop) (aligned 8 bit / 8)
      → (t : Tally) → OnTold (ContentEnds look near last (goes_on lists) lists (scanned_as scan stop) (aligned 8 bit / 8)) (ask look (scanned lists scan bit stop) t).reached
  scanned-ends look near last shown t =
      content-ends look near last (goes_on lists) lists (scanned_as scan stop) (suc (stop / 8 - aligned 8 bit / 8)) [] (scanned_from scan bit) shown t

  -- each look is at the next whole byte or behind it
  pub scanned-from : AsksFrom (aligned 8 bit / 8) (scanned lists scan bit stop)
  scanned-from = whole-from (goes_on lists) lists (scanned_as scan stop) (λ end k. begins_here (goes_on lists) lists end k) (scanned_from scan bit)

  pub first-from : AsksFrom (aligned 8 bit / 8) (first_step lists scan bit stop)
  first-from = step-from (goes_on lists) lists (scanned_as scan stop) (λ end k. begins_here (goes_on lists) lists end k) (scanned_from scan bit)
