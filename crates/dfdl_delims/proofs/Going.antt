-- The search for the longest text, byte by byte.
use Rattle.std.proofs.Common.{◌≡◌, ℕ, zero, suc, ◌+◌, ◌-◌, ◌<◌, ◌≤◌, List, [], ◌∷◌, ◌++◌, length, take, get_or, Option, Some, None, Bool, true, false, ◌&&◌, ◌||◌, ◌==◌, if◌then◌else◌, ◌⊎◌, inl, inr, max, refl, sym, ap, subst, ◌∙◌, arith, append_assoc, length-append}
use Rattle.std.proofs.lemmas.Bool.{cases_lt}
use Rattle.std.proofs.lemmas.Bool.Decides.{nat_tests}
use Rattle.std.proofs.lemmas.List.{append-nil, take_all}
use Rattle.std.proofs.lemmas.List.Folds.{list_any_more}
use Rattle.std.specs.List.{list_any}
use Rattle.dfdl_bits.specs.declared.window.Seen.{Seen}
use Rattle.dfdl_bits.specs.declared.window.Seen.TheVariants.{Byte, End, NotYet as Waits, Over as Past}
use Rattle.dfdl_looks.specs.Asks.{Ask, Answer, Look, Told, TooFar, Missing, Reading, ask}
use Rattle.dfdl_looks.specs.Tallies.{Tally, nothing, saw_byte, saw_end, saw_none}
use Rattle.dfdl_forms.specs.declared.literals.Piece.{Piece}
use Rattle.dfdl_delims.specs.declared.candidate.Candidate.{Candidate}
use Rattle.dfdl_delims.specs.Lists.{Decides, Opened, innermost, is_text_at, last_below}
use Rattle.dfdl_delims.specs.declared.found.Found.{Found}
use Rattle.dfdl_delims.specs.declared.found.Found.TheVariants.{NotYet as FoundWaits, Over as FoundPast}
use Rattle.dfdl_delims.specs.declared.found.Glance.{Glance}
use Rattle.dfdl_delims.specs.Longest.{Answers, Longest, NoText, better, found_shown, longest_from}
use Rattle.dfdl_delims.specs.Standing.{StandFor}
use Rattle.dfdl_delims.specs.Candidates.{complete, completes, completes_at, has_more, is_dead, some_dead}
use Rattle.dfdl_delims.specs.Hits.{IsLast, counted}
use Rattle.dfdl_delims.specs.Searching.{Given, Going, spent}
use Rattle.dfdl_delims.proofs.Ahead.{goes_on, no_more}
use Rattle.dfdl_delims.proofs.Living.{first_none}

-- the greatest place that passes

or_same : (a t : Bool) → t ≡ false → (a || (t && true)) ≡ a
or_same true t is = refl
or_same false t is = ap (λ b. b && true) is

or_kept : (a t : Bool) → (a || (t && false)) ≡ a
or_kept true t = refl
or_kept false true = refl
or_kept false false = refl

or_there : (a t : Bool) → t ≡ true → (a || (t && true)) ≡ true
or_there true t is = refl
or_there false t is = ap (λ b. b && true) is

or_left : (a b : Bool) → a ≡ true → (a || b) ≡ true
or_left true b is = refl
or_left false b is = let no_it : ⊥ = cc in absurd no_it

equal : (n : ℕ) → (n == n) ≡ true
equal n = grind (arith, nat_tests)

apart : (m n : ℕ) → m < n → (m == n) ≡ false
apart m n less = grind (arith, nat_tests)

pub last_more : (f g : ℕ → Bool) (best : Option ℕ) (place : ℕ) (counts : Bool) → ((n : ℕ) → g n ≡ (f n || ((place == n) && counts)))
    → IsLast f best → IsLast g (counted best place counts)
last_more f g None place false step is = λ n. step n ∙ or_kept (f n) (place == n) ∙ is n
last_more f g (Some last) place false step is = (
  step last ∙ or_kept (f last) (place == last) ∙ is.0,
  (λ n less. step n ∙ or_kept (f n) (place == n) ∙ is.1 n less),
)
last_more f g None place true step is = (
  step place ∙ or_there (f place) (place == place) (equal place),
  (λ n less. step n ∙ or_same (f n) (place == n) (apart place n less) ∙ is n),
)
last_more f g (Some last) place true step is = (
  by (cases_lt last place),
  (λ n less. step n ∙ or_same (f n) (place == n) (apart place n (omega (arith, less))) ∙ is.1 n (omega (arith, less))),
)
  where
    by : (last < place) ⊎ (place ≤ last) → g (max last place) ≡ true
    by (inl less) = ap g (greater last place less) ∙ step place ∙ or_there (f place) (place == place) (equal place)
      where
        greater : (m n : ℕ) → m < n → max m n ≡ n
        greater m n less = omega (arith, less)
    by (inr past) = ap g (lesser last place past) ∙ step last ∙ or_left (f last) _ is.0
      where
        lesser : (m n : ℕ) → n ≤ m → max m n ≡ m
        lesser m n less = omega (arith, less)

pub no_both : (b : Bool) → b ≡ true → b ≡ false → ⊥
no_both true is isnt = cc
no_both false is isnt = cc

pub last_is : (f : ℕ → Bool) (best : Option ℕ) (n : ℕ) → IsLast f best → ((i : ℕ) → n ≤ i → f i ≡ false) → last_below f n ≡ best
last_is f None zero is past = refl
last_is f (Some last) zero is past = absurd (no_both (f last) is.0 (past last (omega arith)))
last_is f best (suc n) is past = by (f n) refl best is (λ o is_so none. last_is f o n is_so none)
  where
    behind : (t : Bool) → f n ≡ t → t ≡ false → (i : ℕ) → n ≤ i → f i ≡ false
    behind t is none i least = at (cases_lt n i)
      where
        at : (n < i) ⊎ (i ≤ n) → f i ≡ false
        at (inl less) = past i (omega (arith, less))
        at (inr most) = ap f (same i n most least) ∙ is ∙ none
          where
            same : (i n : ℕ) → i ≤ n → n ≤ i → i ≡ n
            same i n most least = omega (arith, most, least)

    by : (t : Bool) → f n ≡ t → (o : Option ℕ) → IsLast f o
        → ((o : Option ℕ) → IsLast f o → ((i : ℕ) → n ≤ i → f i ≡ false) → last_below f n ≡ o) → (if t then Some n else last_below f n) ≡ o
    by true there None is again = absurd (no_both (f n) there (is n))
    by true there (Some last) is again = ap Some (same (cases_lt n last) (cases_lt last n))
      where
        same : (n < last) ⊎ (last ≤ n) → (last < n) ⊎ (n ≤ last) → n ≡ last
        same (inl more) other = absurd (no_both (f last) is.0 (past last (omega (arith, more))))
        same (inr most) (inl less) = absurd (no_both (f n) there (is.1 n less))
        same (inr most) (inr least) = omega (arith, most, least)
    by false none o is again = again o is (behind false none refl)

pub none_past : (lists : List Opened) (place : ℕ) (bytes : List ℕ) → length lists ≤ place → is_text_at lists place bytes ≡ false
unfolding is_text_at
none_past [] place bytes past = refl
none_past (list ∷ lists) zero bytes past = absurd (omega (arith, past))
none_past (list ∷ lists) (suc place) bytes past = none_past lists place bytes (omega (arith, past))

-- candidates one after the other, for the greatest place

pub last_kept : (pieces : List Piece) (live : List Candidate) (i : ℕ) (d : Candidate) (best : Option ℕ) (place : ℕ) (whole : Bool) → i < length live
    → place ≡ (get_or live i d).list → whole ≡ completes pieces (get_or live i d) []
    → IsLast (λ n. complete pieces n (take i live) []) best → IsLast (λ n. complete pieces n (take (i + 1) live) []) (counted best place whole)
unfolding complete
last_kept pieces live i d best place whole within place_is whole_is is =
    last_more (λ n. list_any (completes_at pieces n []) (take i live)) (λ n. list_any (completes_at pieces n []) (take (i + 1) live)) best place whole
    (λ n. list_any_more (completes_at pieces n []) live i d within
    ∙ ap (λ p. list_any (completes_at pieces n []) (take i live) || ((p == n) && completes pieces (get_or live i d) [])) (sym place_is)
    ∙ ap (λ w. list_any (completes_at pieces n []) (take i live) || ((place == n) && w)) (sym whole_is)) is

-- a text goes on exactly where a candidate does

pub record More (pieces : List Piece) (live : List Candidate) : Type 0 where
  pub place : ℕ
  pub next : ℕ
  pub more : List ℕ
  pub is : complete pieces place live (next ∷ more) ≡ true

or_right : (a b : Bool) → b ≡ true → (a || b) ≡ true
or_right true b is = refl
or_right false b is = is

and_true : (a b : Bool) → a ≡ true → b ≡ true → (a && b) ≡ true
and_true true b first second = second
and_true false b first second = first

pub some_goes : (pieces : List Piece) (live : List Candidate) → some_dead pieces live ≡ false → list_any (has_more pieces) live ≡ true → More pieces live
unfolding some_dead complete
some_goes pieces [] lives more = let no_it : ⊥ = cc in absurd no_it
some_goes pieces (c ∷ live) lives more =
    let parts = first_none (is_dead pieces c) (list_any (is_dead pieces) live) lives in
    by (has_more pieces c) refl parts.0 more (λ others. some_goes pieces live parts.1 others)
  where
    by : (t : Bool) → has_more pieces c ≡ t → is_dead pieces c ≡ false → (t || list_any (has_more pieces) live) ≡ true
        → (list_any (has_more pieces) live ≡ true → More pieces live) → More pieces (c ∷ live)
    by true is alive some again =
        let goes = goes_on pieces c alive is in
        record {
          place = c.list;
          next = goes.next;
          more = goes.more;
          is = or_left (completes_at pieces c.list (goes.next ∷ goes.more) c) _ (and_true (c.list == c.list) _ (equal c.list) goes.passes_it);
        }
    by false is alive some again =
        let other = again some in
        record {
          place = other.place;
          next = other.next;
          more = other.more;
          is = or_right (completes_at pieces other.place (other.next ∷ other.more) c) _ other.is;
        }

and_none : (a b : Bool) → b ≡ false → (a && b) ≡ false
and_none true b is = is
and_none false b is = refl

or_none : (a b : Bool) → a ≡ false → b ≡ false → (a || b) ≡ false
or_none true b first second = first
or_none false b first second = second

pub none_goes : (pieces : List Piece) (live : List Candidate) → list_any (has_more pieces) live ≡ false → (place next : ℕ) (more : List ℕ)
    → complete pieces place live (next ∷ more) ≡ false
unfolding complete
none_goes pieces [] none place next more = refl
none_goes pieces (c ∷ live) none place next more =
    let parts = first_none (has_more pieces c) (list_any (has_more pieces) live) none in
    or_none (completes_at pieces place (next ∷ more) c) _ (and_none (c.list == place) _ (no_more pieces c next more parts.0))
    (none_goes pieces live parts.1 place next more)

-- how far the search has come

module _ (look : ℕ → Seen) (pieces : List Piece) (starts live : List Candidate) (first last place far looks : ℕ) (found : Longest)
    (going : Going look pieces starts live first last place far looks found) where
  text_is : (lists : List Opened) (test : List ℕ → Bool) → Given pieces starts lists test → (list : ℕ) (rest : List ℕ)
      → complete pieces list live rest ≡ is_text_at lists list (going.seen ++ rest)
  text_is lists test given list rest = going.left list rest ∙ given.stands.is list (going.seen ++ rest)

  innermost_is : (lists : List Opened) (test : List ℕ → Bool) → Given pieces starts lists test
      → (best : Option ℕ) → IsLast (λ n. complete pieces n live []) best → innermost lists going.seen ≡ best
  innermost_is lists test given best is =
      last_is (λ n. is_text_at lists n going.seen) best (length lists) (by best is) (λ i past. none_past lists i going.seen past)
    where
      here : (n : ℕ) → is_text_at lists n going.seen ≡ complete pieces n live []
      here n = sym (text_is lists test given n [] ∙ ap (λ l. is_text_at lists n l) (append-nil going.seen))

      by : (o : Option ℕ) → IsLast (λ n. complete pieces n live []) o → IsLast (λ n. is_text_at lists n going.seen) o
      by None none = λ n. here n ∙ none n
      by (Some n) some = (here n ∙ some.0, (λ m less. here m ∙ some.1 m less))

  better_is : (lists : List Opened) (test : List ℕ → Bool) → Given pieces starts lists test
      → (best : Option ℕ) → IsLast (λ n. complete pieces n live []) best → (now : Longest) → now ≡ better best (place - first) found
      → better (innermost lists going.seen) (length going.seen) found ≡ now
  better_is lists test given best is now now_is =
      ap (λ o. better o (length going.seen) found) (innermost_is lists test given best is)
      ∙ ap (λ n. better best n found) (counts going.count) ∙ sym now_is
    where
      counts : place ≡ first + length going.seen → length going.seen ≡ place - first
      counts is = omega (arith, is)

  -- the test's answer
  told : (lists : List Opened) (test : List ℕ → Bool) → Given pieces starts lists test → (t : Bool)
      → t ≡ list_any (has_more pieces) live → test going.seen ≡ t
  told lists test given true is =
      let more = some_goes pieces live (going.lives given.stands.live) (sym is) in
      (given.decides going.seen).1 (record {
        place = more.place;
        next = more.next;
        more = more.more;
        is = sym (text_is lists test given more.place (more.next ∷ more.more)) ∙ more.is;
      })
  told lists test given false is = by (test going.seen) refl
    where
      by : (t : Bool) → test going.seen ≡ t → t ≡ false
      by false there = refl
      by true there =
          let goes = (given.decides going.seen).0 there in
          absurd (no_both (is_text_at lists goes.place (going.seen ++ goes.next ∷ goes.more)) goes.is
          (sym (text_is lists test given goes.place (goes.next ∷ goes.more)) ∙ none_goes pieces live (sym is) goes.place goes.next goes.more))

  -- what is to be read from here on, where the byte is looked at
  abbrev goes_by : (List ℕ → Bool) → List Opened → ℕ → Longest → Option ℕ → Ask Longest
  goes_by test lists more now o = elim o [
    | None ↦ Answer now
    | Some byte ↦ longest_from test lists more (going.seen ++ byte ∷ []) now (place + 1)
  ]

  -- the whole reading
  abbrev pub whole : List Opened → (List ℕ → Bool) → Reading Longest
  whole lists test = ask look (longest_from test lists (last - first) [] NoText first) nothing

  abbrev told_now : Longest → Tally → Reading Longest
  told_now now t = record { reached = Told now; tally = t }

  pub at_box : (lists : List Opened) (test : List ℕ → Bool) → Given pieces starts lists test
      → (best : Option ℕ) → IsLast (λ n. complete pieces n live []) best → (now : Longest) → now ≡ better best (place - first) found
      → last ≤ place → whole lists test ≡ told_now now (spent looks far)
  at_box lists test given best is now now_is past =
      going.same lists test given
      ∙ ap (λ n. ask look (longest_from test lists n going.seen found place) (spent looks far)) (none past)
      ∙ ap (λ x. told_now x (spent looks far)) (better_is lists test given best is now now_is)
    where
      none : last ≤ place → last - place ≡ 0
      none past = omega (arith, past)

  abbrev either_way : (List ℕ → Bool) → List Opened → ℕ → Longest → Bool → Reading Longest
  either_way test lists more now t = ask look (if t then Look place (goes_by test lists more now) else Answer now) (spent looks far)

  inside : (lists : List Opened) (test : List ℕ → Bool) → Given pieces starts lists test
      → (best : Option ℕ) → IsLast (λ n. complete pieces n live []) best → (now : Longest) → now ≡ better best (place - first) found
      → place < last → (t : Bool) → t ≡ list_any (has_more pieces) live → whole lists test ≡ either_way test lists (last - (place + 1)) now t
  inside lists test given best is now now_is before t t_is =
      going.same lists test given
      ∙ ap (λ n. ask look (longest_from test lists n going.seen found place) (spent looks far)) (counts before)
      ∙ ap (λ x. either_way test lists (last - (place + 1)) x (test going.seen)) (better_is lists test given best is now now_is)
      ∙ ap (either_way test lists (last - (place + 1)) now) (told lists test given t t_is)
    where
      counts : place < last → last - place ≡ suc (last - (place + 1))
      counts before = omega (arith, before)

  pub at_texts_end : (lists : List Opened) (test : List ℕ → Bool) → Given pieces starts lists test
      → (best : Option ℕ) → IsLast (λ n. complete pieces n live []) best → (now : Longest) → now ≡ better best (place - first) found
      → place < last → false ≡ list_any (has_more pieces) live → whole lists test ≡ told_now now (spent looks far)
  at_texts_end lists test given best is now now_is before none = inside lists test given best is now now_is before false none

  abbrev on_seen : (Option ℕ → Ask Longest) → Seen → Reading Longest
  on_seen go (Byte b) = ask look (go (Some b)) (saw_byte place (spent looks far))
  on_seen go End = ask look (go None) (saw_end place (spent looks far))
  on_seen go Waits = record { reached = Missing; tally = saw_none (spent looks far) }
  on_seen go Past = record { reached = TooFar; tally = saw_none (spent looks far) }

  pub at_look : (lists : List Opened) (test : List ℕ → Bool) → Given pieces starts lists test
      → (best : Option ℕ) → IsLast (λ n. complete pieces n live []) best → (now : Longest) → now ≡ better best (place - first) found
      → place < last → true ≡ list_any (has_more pieces) live → (s : Seen) → look place ≡ s
      → whole lists test ≡ on_seen (goes_by test lists (last - (place + 1)) now) s
  at_look lists test given best is now now_is before more s seen_is =
      inside lists test given best is now now_is before true more ∙ ap (on_seen (goes_by test lists (last - (place + 1)) now)) seen_is

  -- a byte more
  pub goes_further : (best : Option ℕ) → IsLast (λ n. complete pieces n live []) best → (now : Longest) → now ≡ better best (place - first) found
      → place < last → true ≡ list_any (has_more pieces) live → (byte : ℕ) → look place ≡ Byte byte → (new : List Candidate)
      → (some_dead pieces live ≡ false → some_dead pieces new ≡ false)
      → ((list : ℕ) (rest : List ℕ) → complete pieces list new rest ≡ complete pieces list live (byte ∷ rest))
      → (looks_now : ℕ) → looks_now ≡ looks + 1
      → Going look pieces starts new first last (place + 1) (place + 1) looks_now now
  goes_further best is now now_is before more byte seen_is new dead completes_new looks_now looks_is = record {
    seen = going.seen ++ byte ∷ [];
    count = (let old = going.count in let sum = length-append going.seen (byte ∷ []) in omega (arith, old, sum));
    bound = omega (arith, before);
    reach = omega arith;
    lives = λ begins. dead (going.lives begins);
    left = λ list rest. completes_new list rest ∙ going.left list (byte ∷ rest)
        ∙ ap (complete pieces list starts) (sym (append_assoc going.seen (byte ∷ []) rest));
    same = λ lists test given.
        (at_look lists test given best is now now_is before more (Byte byte) seen_is
        ∙ ap (λ n. ask look (longest_from test lists (last - (place + 1)) (going.seen ++ byte ∷ []) now (place + 1)) (spent (looks + 1) n)) (further going.reach)
        ∙ ap (λ n. ask look (longest_from test lists (last - (place + 1)) (going.seen ++ byte ∷ []) now (place + 1)) (spent n (place + 1))) (sym looks_is));
  }
    where
      further : far ≤ place → max far (place + 1) ≡ place + 1
      further reach = omega (arith, reach)

-- the search begins
pub begins : (look : ℕ → Seen) (pieces : List Piece) (starts : List Candidate) (first last looks : ℕ) → looks ≡ 0
    → Going look pieces starts starts first last first 0 looks NoText
begins look pieces starts first last looks none = record {
  seen = [];
  count = omega arith;
  bound = omega arith;
  reach = omega arith;
  lives = λ begins. begins;
  left = λ list rest. refl;
  same = λ lists test given. ap (λ n. ask look (longest_from test lists (last - first) [] NoText first) (spent n 0)) (sym none);
}

-- the answer from the reading
pub answers : (reading plain : Reading Longest) (glance : Glance) (looks : ℕ) → reading ≡ plain → plain.reached ≡ found_shown glance.found
    → plain.tally.looks ≡ looks → plain.tally.far ≡ glance.far → Answers reading glance looks
answers reading plain glance looks is reached_is looks_is far_is = record {
  reached = ap (λ (r : Reading Longest). r.reached) is ∙ reached_is;
  looks = ap (λ (r : Reading Longest). r.tally.looks) is ∙ looks_is;
  far = ap (λ (r : Reading Longest). r.tally.far) is ∙ far_is;
}

-- The search at a byte, with the slices that the code reads, and the answers that it gives there.
module _ (look : ℕ → Seen) (pieces : List Piece) (starts live slice again : List Candidate) (first last place far looks : ℕ) (found now : Longest)
    (going : Going look pieces starts live first last place far looks found) (slice_is : slice ≡ live) (again_is : again ≡ live)
    (best : Option ℕ) (is : IsLast (λ n. complete pieces n slice []) best) (now_is : now ≡ better best (place - first) found) where
  here : IsLast (λ n. complete pieces n live []) best
  here = subst (λ l. IsLast (λ n. complete pieces n l []) best) slice_is is

  more_is : (t : Bool) → t ≡ list_any (has_more pieces) again → t ≡ list_any (has_more pieces) live
  more_is t told = told ∙ ap (list_any (has_more pieces)) again_is

  pub box_answers : last ≤ place → (shown : Found) → found_shown shown ≡ Told now
      → (lists : List Opened) (test : List ℕ → Bool) → StandFor pieces starts lists → Decides lists test
      → Answers (ask look (longest_from test lists (last - first) [] NoText first) nothing) (record { found = shown; far = far }) looks
  box_answers past shown shown_is lists test stands decides =
      answers _ (record { reached = Told now; tally = spent looks far }) (record { found = shown; far = far }) looks
      (at_box look pieces starts live first last place far looks found going lists test (record { stands = stands; decides = decides }) best here now now_is past)
      (sym shown_is) refl refl

  pub text_answers : place < last → false ≡ list_any (has_more pieces) again → (shown : Found) → found_shown shown ≡ Told now
      → (lists : List Opened) (test : List ℕ → Bool) → StandFor pieces starts lists → Decides lists test
      → Answers (ask look (longest_from test lists (last - first) [] NoText first) nothing) (record { found = shown; far = far }) looks
  text_answers before none shown shown_is lists test stands decides =
      answers _ (record { reached = Told now; tally = spent looks far }) (record { found = shown; far = far }) looks
      (at_texts_end look pieces starts live first last place far looks found going lists test (record { stands = stands; decides = decides }) best here now now_is
      before (more_is false none))
      (sym shown_is) refl refl

  pub end_answers : place < last → true ≡ list_any (has_more pieces) again → look place ≡ End → (shown : Found) → found_shown shown ≡ Told now
      → (looks_now : ℕ) → looks + 1 ≡ looks_now
      → (lists : List Opened) (test : List ℕ → Bool) → StandFor pieces starts lists → Decides lists test
      → Answers (ask look (longest_from test lists (last - first) [] NoText first) nothing) (record { found = shown; far = place + 1 }) looks_now
  end_answers before more seen_is shown shown_is looks_now looks_is lists test stands decides =
      answers _ (record { reached = Told now; tally = saw_end place (spent looks far) }) (record { found = shown; far = place + 1 }) looks_now
      (at_look look pieces starts live first last place far looks found going lists test (record { stands = stands; decides = decides }) best here now now_is
      before (more_is true more) End seen_is)
      (sym shown_is) looks_is (greater going.reach)
    where
      greater : far ≤ place → max far (place + 1) ≡ place + 1
      greater reach = omega (arith, reach)

  pub waits_answers : place < last → true ≡ list_any (has_more pieces) again → look place ≡ Waits
      → (looks_now : ℕ) → looks + 1 ≡ looks_now
      → (lists : List Opened) (test : List ℕ → Bool) → StandFor pieces starts lists → Decides lists test
      → Answers (ask look (longest_from test lists (last - first) [] NoText first) nothing) (record { found = FoundWaits; far = far }) looks_now
  waits_answers before more seen_is looks_now looks_is lists test stands decides =
      answers _ (record { reached = Missing; tally = saw_none (spent looks far) }) (record { found = FoundWaits; far = far }) looks_now
      (at_look look pieces starts live first last place far looks found going lists test (record { stands = stands; decides = decides }) best here now now_is
      before (more_is true more) Waits seen_is)
      refl looks_is refl

  pub past_answers : place < last → true ≡ list_any (has_more pieces) again → look place ≡ Past
      → (looks_now : ℕ) → looks + 1 ≡ looks_now
      → (lists : List Opened) (test : List ℕ → Bool) → StandFor pieces starts lists → Decides lists test
      → Answers (ask look (longest_from test lists (last - first) [] NoText first) nothing) (record { found = FoundPast; far = far }) looks_now
  past_answers before more seen_is looks_now looks_is lists test stands decides =
      answers _ (record { reached = TooFar; tally = saw_none (spent looks far) }) (record { found = FoundPast; far = far }) looks_now
      (at_look look pieces starts live first last place far looks found going lists test (record { stands = stands; decides = decides }) best here now now_is
      before (more_is true more) Past seen_is)
      refl looks_is refl

  pub byte_goes : place < last → true ≡ list_any (has_more pieces) again → (byte : ℕ) → look place ≡ Byte byte → (from added new : List Candidate)
      → from ≡ live → new ≡ added → (some_dead pieces from ≡ false → some_dead pieces added ≡ false)
      → ((list : ℕ) (rest : List ℕ) → complete pieces list added rest ≡ complete pieces list from (byte ∷ rest))
      → (looks_now : ℕ) → looks + 1 ≡ looks_now
      → Going look pieces starts new first last (place + 1) (place + 1) looks_now now
  byte_goes before more byte seen_is from added new from_is new_is dead completes_added looks_now looks_is =
      subst (λ l. Going look pieces starts l first last (place + 1) (place + 1) looks_now now) (sym new_is)
      (goes_further look pieces starts live first last place far looks found going best here now now_is before (more_is true more) byte seen_is added
      (λ lives. dead (ap (some_dead pieces) from_is ∙ lives))
      (λ list rest. completes_added list rest ∙ ap (λ l. complete pieces list l (byte ∷ rest)) from_is) looks_now (sym looks_is))

pub none_yet : (pieces : List Piece) (live : List Candidate) → IsLast (λ n. complete pieces n (take 0 live) []) None
unfolding complete
none_yet pieces live = λ n. refl

pub last_end : (pieces : List Piece) (live : List Candidate) (i : ℕ) (best : Option ℕ) → length live ≤ i
    → IsLast (λ n. complete pieces n (take i live) []) best → IsLast (λ n. complete pieces n live []) best
last_end pieces live i best past is = subst (λ l. IsLast (λ n. complete pieces n l []) best) (take_all i live past) is
