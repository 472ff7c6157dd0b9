-- Where the looks of a search lie, and what it finds.
use Rattle.std.proofs.Common.{◌≡◌, ℕ, zero, suc, ◌+◌, ◌-◌, ◌*◌, ◌/◌, ◌<◌, ◌≤◌, List, [], ◌∷◌, ◌++◌, drop, length, map, min, get_or, Bool, true, false, cond, Option, Some, None, All, refl, ap, subst, ◌∙◌, arith, length-append}
use Rattle.std.specs.Prelude.{slice_get}
use Rattle.std.proofs.Math.Seq.{drop-append_seam}
use Rattle.std.proofs.lemmas.List.{append-nil, drop-append-le}
use Rattle.std.proofs.lemmas.List.Elements.{All-append, All-drop}
use Rattle.std.proofs.lemmas.Option.{slice_get-get_or}
use Rattle.dfdl_bits.specs.Window.{Held, end_of, seen_at}
use Rattle.dfdl_bits.specs.declared.window.Seen.{Seen}
use Rattle.dfdl_bits.specs.declared.window.Seen.TheVariants.{Byte, End, NotYet, Over}
use Rattle.dfdl_looks.specs.Asks.{Ask, Answer, Look, AsksFrom, Reached, Told, ask}
use Rattle.dfdl_looks.specs.Tallies.{Tally, nothing, saw_byte, saw_end}
use Rattle.dfdl_looks.proofs.Resumed.{on_seen}
use Rattle.dfdl_looks.proofs.Seeing.{seen_within}
use Rattle.dfdl_delims.specs.declared.found.Found.{Found}
use Rattle.dfdl_delims.specs.declared.found.Found.TheVariants.{Match, None as NoMatch, NotYet as NotFound, Over as Past}
use Rattle.dfdl_delims.specs.Deciding.{goes_on}
use Rattle.dfdl_delims.specs.Lists.{Opened, innermost}
use Rattle.dfdl_delims.specs.Longest.{Longest, Text, NoText, better, found_shown, longest_from}
use Rattle.dfdl_delims.proofs.Deciders.{begins_here}
use Rattle.dfdl_terms.specs.declared.delimiters.Delimiters.{Delimiters}
use Rattle.dfdl_grammar.specs.Delimiters.{lists_of, markup, no_literals, numbers_of, opened, sought_among}
use Rattle.dfdl_grammar.specs.Framing.{aligned}
use Rattle.dfdl_grammar.specs.States.{State}
use Rattle.dfdl_parse.specs.declared.frame.Sought.{Sought}
use Rattle.dfdl_parse.specs.declared.frame.Sought.TheVariants.{Initiator, Terminator, Separator}
use Rattle.dfdl_parse.specs.Searches.{EndsWithin, among, first_open, numbers_among, put_behind}
use Rattle.dfdl_leaves.proofs.Programs.{lower}

-- each look of a search is at its first byte or behind it
pub sought-from : (lists : List Opened) (low bit stop : ℕ) → low ≤ aligned 8 bit / 8 → AsksFrom low (sought_among lists bit stop)
sought-from lists low bit stop before =
    lower low (aligned 8 bit / 8) before (sought_among lists bit stop) (begins_here (goes_on lists) lists stop (aligned 8 bit / 8))

-- a text of so many bits from a bit on, if one is found, ends before this byte
abbrev pub IsBefore : Longest → ℕ → ℕ → Type 0
IsBefore (Text which bits) bit end = bit + bits ≤ 8 * end
IsBefore NoText bit end = Unit {0}

pub better-before : (place : Option ℕ) (count : ℕ) (found : Longest) (bit end : ℕ) → bit + 8 * count ≤ 8 * end → IsBefore found bit end
    → IsBefore (better place count found) bit end
better-before None count found bit end within before = before
better-before (Some place) count found bit end within before = within

pub told_one : (a b : Longest) → ◌≡◌ {A = Reached Longest} (Told a) (Told b) → a ≡ b
told_one a b same = cc

module _ (held : Held) (test : List ℕ → Bool) (lists : List Opened) (bit : ℕ) where
  -- what is found behind some bytes that have come
  abbrev best : List ℕ → Longest → Longest
  best seen found = better (innermost lists seen) (length seen) found

  seen-before : (go : Option ℕ → Ask Longest) (k : ℕ) (t : Tally) (f : Longest) (v : Seen)
      → ((b : ℕ) (u : Tally) → v ≡ Byte b → (ask (seen_at held) (go (Some b)) u).reached ≡ Told f → IsBefore f bit (end_of held))
      → ((u : Tally) → (ask (seen_at held) (go None) u).reached ≡ Told f → IsBefore f bit (end_of held))
      → (on_seen (seen_at held) go k t v).reached ≡ Told f → IsBefore f bit (end_of held)
  seen-before go k t f (Byte b) more none is = more b (saw_byte k t) refl is
  seen-before go k t f End more none is = none (saw_end k t) is
  seen-before go k t f NotYet more none is = absurd (cc)
  seen-before go k t f Over more none is = absurd (cc)

  from-before : (more : ℕ) (seen : List ℕ) (found f : Longest) (k : ℕ) (t : Tally) → held.base ≤ k → bit + 8 * length seen ≡ 8 * k
      → k ≤ end_of held → IsBefore found bit (end_of held)
      → (ask (seen_at held) (longest_from test lists more seen found k) t).reached ≡ Told f → IsBefore f bit (end_of held)
  from-before zero seen found f k t base at few before is =
      subst (λ (l : Longest). IsBefore l bit (end_of held)) (told_one (best seen found) f is)
      (better-before (innermost lists seen) (length seen) found bit (end_of held) (omega arith) before)
  from-before (suc more) seen found f k t base at few before is =
      by (test seen) (λ b u within told.
      let size = length-append seen (b ∷ []) in
      from-before more (seen ++ b ∷ []) (best seen found) f (k + 1) u (omega arith) (omega (arith, size, at)) within next told) is
    where
      next : IsBefore (best seen found) bit (end_of held)
      next = better-before (innermost lists seen) (length seen) found bit (end_of held) (omega arith) before

      by : (goes : Bool)
          → ((b : ℕ) (u : Tally) → k + 1 ≤ end_of held
          → (ask (seen_at held) (longest_from test lists more (seen ++ b ∷ []) (best seen found) (k + 1)) u).reached ≡ Told f → IsBefore f bit (end_of held))
          → (ask (seen_at held) (cond goes (Look k (λ o. elim o as (λ _. Ask Longest) [
            | None ↦ Answer (best seen found)
            | Some byte ↦ longest_from test lists more (seen ++ byte ∷ []) (best seen found) (k + 1)
          ])) (Answer (best seen found))) t).reached ≡ Told f
          → IsBefore f bit (end_of held)
      by false deeper is = subst (λ (l : Longest). IsBefore l bit (end_of held)) (told_one (best seen found) f is) next
      by true deeper is =
          seen-before (λ o. elim o as (λ _. Ask Longest) [
            | None ↦ Answer (best seen found)
            | Some byte ↦ longest_from test lists more (seen ++ byte ∷ []) (best seen found) (k + 1)
          ]) k t f (seen_at held k) (λ b u there told. deeper b u (seen_within held k b base there) told)
          (λ u told. subst (λ (l : Longest). IsBefore l bit (end_of held)) (told_one (best seen found) f told) next) is

-- what a search finds at a whole byte ends among the bytes that have come
found-before : (found : Found) (bit end : ℕ) → ((f : Longest) → found_shown found ≡ Told f → IsBefore f bit end) → EndsWithin found bit end
found-before (Match which bits) bit end before = before (Text which bits) refl
found-before NoMatch bit end before = tt
found-before NotFound bit end before = tt
found-before Past bit end before = tt

pub ends-within : (held : Held) (lists : List Opened) (at bit stop : ℕ) (found : Found) → bit ≡ aligned 8 at → held.base ≤ bit / 8 → at ≤ 8 * end_of held
    → (ask (seen_at held) (sought_among lists at stop) nothing).reached ≡ found_shown found → EndsWithin found bit (end_of held)
ends-within held lists at bit stop found is base few reached =
    found-before found bit (end_of held) (λ f told.
    let whole : bit ≡ 8 * (aligned 8 at / 8) = omega (arith, is) in
    from-before held (goes_on lists) lists bit (stop / 8 - aligned 8 at / 8) [] NoText f (aligned 8 at / 8) nothing
    (omega (arith, is, base)) (omega (arith, whole)) (omega (arith, few)) tt (reached ∙ told))

-- the lists that numbers name in the register
pub lists-named : (delimiters : List Delimiters) (numbers : List ℕ) → All (λ n. n < length delimiters) numbers
    → map (slice_get (map opened delimiters)) numbers ≡ map Some (lists_of delimiters numbers)
lists-named delimiters [] all = refl
lists-named delimiters (n ∷ numbers) all =
    let less : n < length (map opened delimiters) = omega (arith, sizes delimiters, all 0 n (omega arith)) in
    let one : slice_get (map opened delimiters) n ≡ Some (get_or (map opened delimiters) n no_literals) =
    slice_get-get_or (map opened delimiters) n no_literals less in
    ap (λ (o : Option Opened). o ∷ map (slice_get (map opened delimiters)) numbers) one
    ∙ ap (λ (os : List (Option Opened)). Some (get_or (map opened delimiters) n no_literals) ∷ os)
    (lists-named delimiters numbers (λ i d few. all (suc i) d (omega arith)))
  where
    sizes : (ds : List Delimiters) → length (map opened ds) ≡ length ds
    sizes [] = refl
    sizes (d ∷ ds) = ap suc (sizes ds)

-- they stand behind those that are left out, where the list is put behind all
drop-few : (hidden : ℕ) (lists : List ℕ) → drop (min hidden (length lists)) lists ≡ drop hidden lists
drop-few zero lists = let none : min 0 (length lists) ≡ 0 = omega arith in ap (λ (n : ℕ). drop n lists) none
drop-few (suc hidden) [] = let none : min (suc hidden) 0 ≡ 0 = omega arith in ap (λ (n : ℕ). drop {A = ℕ} n []) none
drop-few (suc hidden) (m ∷ lists) =
    let more : min (suc hidden) (suc (length lists)) ≡ suc (min hidden (length lists)) = omega arith in
    ap (λ (n : ℕ). drop n (m ∷ lists)) more ∙ drop-few hidden lists

pub numbers-are : (what : Sought) (s : State) → drop (first_open what s) (s.lists ++ put_behind what) ≡ numbers_among what s
numbers-are (Initiator list resolves) s = drop-append_seam s.lists (list ∷ [])
numbers-are (Terminator list separators) s =
    drop-append-le (min s.hidden (length s.lists)) s.lists (list ∷ numbers_of separators) (omega arith)
    ∙ ap (λ (ns : List ℕ). ns ++ list ∷ numbers_of separators) (drop-few s.hidden s.lists)
numbers-are Separator s =
    drop-append-le (min s.hidden (length s.lists)) s.lists [] (omega arith)
    ∙ append-nil (drop (min s.hidden (length s.lists)) s.lists) ∙ drop-few s.hidden s.lists

numbers-within : (count : ℕ) (what : Sought) (s : State) → All (λ n. n < count) (put_behind what) → All (λ n. n < count) s.lists
    → All (λ n. n < count) (numbers_among what s)
numbers-within count (Initiator list resolves) s less all = less
numbers-within count (Terminator list separators) s less all =
    All-append (λ n. n < count) (markup s) (list ∷ numbers_of separators) (All-drop (λ n. n < count) s.hidden s.lists all) less
numbers-within count Separator s less all = All-drop (λ n. n < count) s.hidden s.lists all

pub names-open : (delimiters : List Delimiters) (what : Sought) (s : State) (from : ℕ) (lists numbers : List ℕ)
    → All (λ n. n < length delimiters) (put_behind what) → All (λ n. n < length delimiters) s.lists → from ≡ first_open what s
    → lists ≡ s.lists ++ put_behind what → numbers ≡ drop from lists
    → map (slice_get (map opened delimiters)) numbers ≡ map Some (among delimiters what s)
names-open delimiters what s from lists numbers less all first put are =
    let same : numbers ≡ numbers_among what s =
    are ∙ ap (λ (ls : List ℕ). drop from ls) put ∙ ap (λ (n : ℕ). drop n (s.lists ++ put_behind what)) first ∙ numbers-are what s in
    ap (λ (ns : List ℕ). map (slice_get (map opened delimiters)) ns) same
    ∙ lists-named delimiters (numbers_among what s) (numbers-within (length delimiters) what s less all)
