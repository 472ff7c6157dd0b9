-- The search for the longest text where the first byte tells it alone.
use Rattle.std.proofs.Common.{◌≡◌, ℕ, zero, suc, ◌+◌, ◌-◌, ◌/◌, ◌<◌, List, [], ◌∷◌, ◌++◌, length, Option, Some, None, Bool, true, false, if◌then◌else◌, max, refl, sym, ap, subst, ◌∙◌, arith}
use Rattle.std.specs.List.{list_any}
use Rattle.dfdl_bits.specs.declared.window.Seen.{Seen}
use Rattle.dfdl_bits.specs.declared.window.Seen.TheVariants.{Byte, End, NotYet as Waits, Over as Past}
use Rattle.dfdl_looks.specs.Asks.{Ask, Answer, Look, Told as IsTold, TooFar, Missing, Reading, ask}
use Rattle.dfdl_looks.specs.Tallies.{Tally, nothing, saw_byte, saw_end, saw_none}
use Rattle.dfdl_forms.specs.declared.literals.Piece.{Piece}
use Rattle.dfdl_delims.specs.declared.candidate.Candidate.{Candidate}
use Rattle.dfdl_delims.specs.declared.found.Found.{Found}
use Rattle.dfdl_delims.specs.declared.found.Glance.{Glance}
use Rattle.dfdl_delims.specs.declared.verdict.Verdict.TheVariants.{Alone}
use Rattle.dfdl_delims.specs.Candidates.{complete, has_more, some_dead}
use Rattle.dfdl_delims.specs.Firsts.{BeginsNone}
use Rattle.dfdl_delims.specs.Lists.{Decides, Opened, innermost, is_text_at}
use Rattle.dfdl_delims.specs.Longest.{Answers, Longest, NoText, better, found_shown, longest_at, longest_from}
use Rattle.dfdl_delims.specs.Searching.{Going}
use Rattle.dfdl_delims.specs.Standing.{StandFor}
use Rattle.dfdl_delims.specs.Verdicts.{ArePlain, Told}
use Rattle.dfdl_delims.proofs.Going.{begins, goes_further, last_is, no_both, none_goes, none_past}

-- the test where no text is longer
not_longer : (lists : List Opened) (test : List ℕ → Bool) → Decides lists test → (bytes : List ℕ)
    → ((place next : ℕ) (rest : List ℕ) → is_text_at lists place (bytes ++ next ∷ rest) ≡ false) → test bytes ≡ false
not_longer lists test decides bytes none = by (test bytes) refl
  where
    by : (t : Bool) → test bytes ≡ t → t ≡ false
    by false is = refl
    by true is =
        let goes = (decides bytes).0 is in
        absurd (no_both (is_text_at lists goes.place (bytes ++ goes.next ∷ goes.more)) goes.is (none goes.place goes.next goes.more))

-- what is found behind a byte that alone tells it
behind_one : (look : ℕ → Seen) (lists : List Opened) (test : List ℕ → Bool) (more k byte : ℕ) (best : Option ℕ) (found : Longest) (t : Tally)
    → test (byte ∷ []) ≡ false → innermost lists (byte ∷ []) ≡ best
    → ask look (longest_from test lists more (byte ∷ []) found k) t ≡ record { reached = IsTold (better best 1 found); tally = t }
behind_one look lists test zero k byte best found t none is = ap (λ o. ask look (Answer (better o 1 found)) t) is
behind_one look lists test (suc more) k byte best found t none is =
    ap (λ (b : Bool). ask look (if b then Look k (λ o. elim o [
      | None ↦ Answer (better (innermost lists (byte ∷ [])) 1 found)
      | Some next ↦ longest_from test lists more (byte ∷ next ∷ []) (better (innermost lists (byte ∷ [])) 1 found) (k + 1)
    ])
    else Answer (better (innermost lists (byte ∷ [])) 1 found)) t) none
    ∙ ap (λ o. ask look (Answer (better o 1 found)) t) is

one_more : (first last : ℕ) → first < last → last - first ≡ suc (last - (first + 1))
one_more first last before = omega (arith, before)

greater : (n : ℕ) → max 0 n ≡ n
greater n = omega arith

-- what a first look tells
module _ (look : ℕ → Seen) (lists : List Opened) (test : List ℕ → Bool) (first last : ℕ) (t : Tally) (longer : test [] ≡ true) (before : first < last)
    (found : Longest) (found_is : better (innermost lists []) 0 NoText ≡ found) where
  abbrev goes_by : Longest → Option ℕ → Ask Longest
  goes_by now o = elim o [
    | None ↦ Answer now
    | Some byte ↦ longest_from test lists (last - (first + 1)) (byte ∷ []) now (first + 1)
  ]

  abbrev on_seen : Seen → Reading Longest
  on_seen (Byte b) = ask look (goes_by found (Some b)) (saw_byte first t)
  on_seen End = ask look (goes_by found None) (saw_end first t)
  on_seen Waits = record { reached = Missing; tally = saw_none t }
  on_seen Past = record { reached = TooFar; tally = saw_none t }

  pub first_look : (s : Seen) → look first ≡ s → ask look (longest_from test lists (last - first) [] NoText first) t ≡ on_seen s
  first_look s seen_is =
      ap (λ n. ask look (longest_from test lists n [] NoText first) t) (one_more first last before)
      ∙ ap (λ (b : Bool). ask look (if b then Look first (goes_by (better (innermost lists []) 0 NoText)) else Answer (better (innermost lists []) 0 NoText)) t) longer
      ∙ ap (λ now. ask look (Look first (goes_by now)) t) found_is
      ∙ ap on_seen seen_is

plain_goes : (lists : List Opened) (test : List ℕ → Bool) → ArePlain lists → Decides lists test → test [] ≡ true
plain_goes lists test plain decides = (decides []).1 (record { place = plain.place; next = plain.next; more = plain.more; is = plain.is })

plain_none : (lists : List Opened) → ArePlain lists → better (innermost lists []) 0 NoText ≡ NoText
plain_none lists plain = ap (λ o. better o 0 NoText) (last_is (λ n. is_text_at lists n []) None (length lists) plain.none (λ i past. plain.none i))

answer_is : (reading plain : Reading Longest) (glance : Glance) (looks : ℕ) → reading ≡ plain → plain.reached ≡ found_shown glance.found
    → plain.tally.looks ≡ looks → plain.tally.far ≡ glance.far → Answers reading glance looks
answer_is reading plain glance looks is reached_is looks_is far_is = record {
  reached = ap (λ (r : Reading Longest). r.reached) is ∙ reached_is;
  looks = ap (λ (r : Reading Longest). r.tally.looks) is ∙ looks_is;
  far = ap (λ (r : Reading Longest). r.tally.far) is ∙ far_is;
}

module _ (look : ℕ → Seen) (first last : ℕ) (before : first < last) (lists : List Opened) (test : List ℕ → Bool) (plain : ArePlain lists)
    (decides : Decides lists test) (looks_made : ℕ) (one : looks_made ≡ 1) where
  abbrev whole : Reading Longest
  whole = ask look (longest_from test lists (last - first) [] NoText first) nothing

  looked : (s : Seen) → look first ≡ s
      → whole ≡ on_seen look lists test first last nothing (plain_goes lists test plain decides) before NoText (plain_none lists plain) s
  looked s seen_is = first_look look lists test first last nothing (plain_goes lists test plain decides) before NoText (plain_none lists plain) s seen_is

  pub alone_answers : (byte : ℕ) → look first ≡ Byte byte → (best : Option ℕ) → Told lists byte (Alone best) → (shown : Found)
      → found_shown shown ≡ IsTold (better best 1 NoText) → Answers whole (record { found = shown; far = first + 1 }) looks_made
  alone_answers byte seen_is best told shown shown_is =
      answer_is whole (record { reached = IsTold (better best 1 NoText); tally = saw_byte first nothing }) (record { found = shown; far = first + 1 }) looks_made
      (looked (Byte byte) seen_is
      ∙ behind_one look lists test (last - (first + 1)) (first + 1) byte best NoText (saw_byte first nothing)
      (not_longer lists test decides (byte ∷ []) told.1)
      (last_is (λ n. is_text_at lists n (byte ∷ [])) best (length lists) told.0 (λ i past. none_past lists i (byte ∷ []) past)))
      (sym shown_is) (sym one) (greater (first + 1))

  pub end_answers : look first ≡ End → (shown : Found) → found_shown shown ≡ IsTold NoText
      → Answers whole (record { found = shown; far = first + 1 }) looks_made
  end_answers seen_is shown shown_is =
      answer_is whole (record { reached = IsTold NoText; tally = saw_end first nothing }) (record { found = shown; far = first + 1 }) looks_made
      (looked End seen_is) (sym shown_is) (sym one) (greater (first + 1))

  pub waits_answers : look first ≡ Waits → (shown : Found) → found_shown shown ≡ Missing → Answers whole (record { found = shown; far = 0 }) looks_made
  waits_answers seen_is shown shown_is =
      answer_is whole (record { reached = Missing; tally = saw_none nothing }) (record { found = shown; far = 0 }) looks_made
      (looked Waits seen_is) (sym shown_is) (sym one) refl

  pub past_answers : look first ≡ Past → (shown : Found) → found_shown shown ≡ TooFar → Answers whole (record { found = shown; far = 0 }) looks_made
  past_answers seen_is shown shown_is =
      answer_is whole (record { reached = TooFar; tally = saw_none nothing }) (record { found = shown; far = 0 }) looks_made
      (looked Past seen_is) (sym shown_is) (sym one) refl

pub same_looks : (reading : Reading Longest) (glance : Glance) (a b : ℕ) → a ≡ b → Answers reading glance a → Answers reading glance b
same_looks reading glance a b same is = subst (Answers reading glance) same is

-- the search behind the first byte
pub goes_behind : (look : ℕ → Seen) (pieces : List Piece) (starts slice new : List Candidate) (first last byte : ℕ) (lists : List Opened)
    → first < last → look first ≡ Byte byte → ArePlain lists → StandFor pieces starts lists → slice ≡ starts
    → (some_dead pieces slice ≡ false → some_dead pieces new ≡ false)
    → ((list : ℕ) (rest : List ℕ) → complete pieces list new rest ≡ complete pieces list slice (byte ∷ rest))
    → Going look pieces starts new first last (first + 1) (first + 1) 1 NoText
goes_behind look pieces starts slice new first last byte lists before seen_is plain stands slice_is dead completes_new =
    goes_further look pieces starts starts first last first 0 0 NoText (begins look pieces starts first last 0 refl) None
    (λ n. stands.is n [] ∙ plain.none n) NoText refl before (more (list_any (has_more pieces) starts) refl) byte seen_is new
    (λ live. dead (ap (some_dead pieces) slice_is ∙ live))
    (λ list rest. completes_new list rest ∙ ap (λ l. complete pieces list l (byte ∷ rest)) slice_is) 1 refl
  where
    more : (t : Bool) → list_any (has_more pieces) starts ≡ t → true ≡ t
    more true is = refl
    more false is =
        absurd (no_both (is_text_at lists plain.place (plain.next ∷ plain.more)) plain.is
        (sym (stands.is plain.place (plain.next ∷ plain.more)) ∙ none_goes pieces starts is plain.place plain.next plain.more))

-- a byte with which no text begins

none_past_first : (lists : List Opened) (byte : ℕ) → BeginsNone lists byte → innermost lists (byte ∷ []) ≡ None
none_past_first lists byte none =
    last_is (λ n. is_text_at lists n (byte ∷ [])) None (length lists) (λ n. none n []) (λ i past. none i [])

pub passed_over : (look : ℕ → Seen) (test : List ℕ → Bool) (lists : List Opened) (stop k byte : ℕ) (t : Tally) → Decides lists test → k < stop / 8
    → look k ≡ Byte byte → BeginsNone lists byte
    → ask look (longest_at test lists stop k) t
    ≡ record { reached = IsTold (better (innermost lists []) 0 NoText); tally = if test [] then saw_byte k t else t }
passed_over look test lists stop k byte t decides before seen_is none = by (test []) refl
  where
    now : Longest
    now = better (innermost lists []) 0 NoText

    at_all : (b : Bool) → test [] ≡ b → ask look (longest_at test lists stop k) t
        ≡ ask look (if b then Look k (λ o. elim o [
          | None ↦ Answer now
          | Some next ↦ longest_from test lists (stop / 8 - (k + 1)) (next ∷ []) now (k + 1)
        ])
        else Answer now) t
    at_all b is =
        ap (λ n. ask look (longest_from test lists n [] NoText k) t) (one_more k (stop / 8) before)
        ∙ ap (λ (b : Bool). ask look (if b then Look k (λ o. elim o [
          | None ↦ Answer now
          | Some next ↦ longest_from test lists (stop / 8 - (k + 1)) (next ∷ []) now (k + 1)
        ])
        else Answer now) t) is

    by : (b : Bool) → test [] ≡ b → ask look (longest_at test lists stop k) t ≡ record { reached = IsTold now; tally = if b then saw_byte k t else t }
    by false is = at_all false is
    by true is =
        first_look look lists test k (stop / 8) t is before now refl (Byte byte) seen_is
        ∙ behind_one look lists test (stop / 8 - (k + 1)) (k + 1) byte None now (saw_byte k t)
        (not_longer lists test decides (byte ∷ []) (λ place next rest. none place (next ∷ rest))) (none_past_first lists byte none)
