-- What is kept of the first bytes of the texts of lists.
use Rattle.std.proofs.Common.{◌≡◌, ℕ, zero, suc, ◌+◌, ◌<◌, ◌≤◌, List, [], ◌∷◌, ◌++◌, length, map, take, drop, get_or, slice_get, Option, Some, None, Bool, true, false, ◌&&◌, ◌||◌, ◌==◌, if◌then◌else◌, refl, sym, ap, subst, ◌∙◌, append_assoc, length-append}
use Rattle.std.proofs.lemmas.List.{append-nil, drop_more, drop_all}
use Rattle.std.specs.List.{list_any}
use Rattle.dfdl_bits.specs.ByteSets.{has_byte}
use Rattle.dfdl_bits.specs.declared.byte_set.ByteSet.{ByteSet}
use Rattle.dfdl_delims.specs.declared.firsts.Firsts.{Firsts}
use Rattle.dfdl_delims.specs.declared.verdict.Verdict.{Verdict}
use Rattle.dfdl_delims.specs.declared.verdict.Verdict.TheVariants.{Alone, Longer}
use Rattle.dfdl_delims.specs.Firsts.{AreFirsts, BeginsNone, Tells}
use Rattle.dfdl_delims.specs.Hits.{counted}
use Rattle.dfdl_delims.specs.Lists.{Decides, Opened, is_text_at, is_text_in}
use Rattle.dfdl_delims.specs.Opening.{Names}
use Rattle.dfdl_delims.specs.Registers.{Register}
use Rattle.dfdl_delims.specs.Verdicts.{ArePlain, IsKept, IsPut, Told, begins_with, has_some, if_some, is_empty, named_firsts, some_first, verdict_of}
use Rattle.dfdl_delims.proofs.Going.{last_more, no_both}
use Rattle.dfdl_delims.proofs.Held.{text_at_last}
use Rattle.dfdl_delims.proofs.Living.{first_none}

-- list after list

firsts_behind : (lists : List Opened) (list : Opened) (old : List Firsts) (first : Firsts) → AreFirsts lists old → Tells first (is_text_in list)
    → AreFirsts (lists ++ list ∷ []) (old ++ first ∷ [])
firsts_behind [] list [] first are tells = (tells, tt)
firsts_behind [] list (f ∷ old) first are tells = absurd are
firsts_behind (l ∷ lists) list [] first are tells = absurd are
firsts_behind (l ∷ lists) list (f ∷ old) first are tells = (are.0, firsts_behind lists list old first are.1 tells)

pub firsts_pushed : (lists : List Opened) (list : Opened) (old new : List Firsts) → AreFirsts lists old → IsPut old new list
    → AreFirsts (lists ++ list ∷ []) new
firsts_pushed lists list old new are put =
    subst (AreFirsts (lists ++ list ∷ [])) (sym put.is) (firsts_behind lists list old put.first are put.tells)

firsts_before : (lists : List Opened) (list : Opened) (firsts : List Firsts) → AreFirsts (lists ++ list ∷ []) firsts
    → AreFirsts lists (take (length lists) firsts)
firsts_before [] list firsts are = tt
firsts_before (l ∷ lists) list [] are = absurd are
firsts_before (l ∷ lists) list (f ∷ firsts) are = (are.0, firsts_before lists list firsts are.1)

pub firsts_popped : (lists : List Opened) (list : Opened) (firsts new : List Firsts) (n : ℕ) → AreFirsts (lists ++ list ∷ []) firsts
    → new ≡ take n firsts → n ≡ length lists → AreFirsts lists new
firsts_popped lists list firsts new n are new_is n_is =
    subst (AreFirsts lists) (sym (new_is ∙ ap (λ m. take m firsts) n_is)) (firsts_before lists list firsts are)

-- those that numbers name

record OneKept (list : Opened) (found : Option Firsts) : Type 0 where
  pub first : Firsts
  pub is : found ≡ Some first
  pub tells : Tells first (is_text_in list)

one_kept : (all : List Opened) (firsts : List Firsts) (number : ℕ) (list : Opened) → AreFirsts all firsts → slice_get all number ≡ Some list
    → OneKept list (slice_get firsts number)
one_kept [] firsts number list are there = let no_it : ⊥ = cc in absurd no_it
one_kept (l ∷ all) [] number list are there = absurd are
one_kept (l ∷ all) (f ∷ firsts) zero list are there =
    let same : l ≡ list = cc in
    record { first = f; is = refl; tells = subst (λ x. Tells f (is_text_in x)) same are.0 }
one_kept (l ∷ all) (f ∷ firsts) (suc number) list are there = one_kept all firsts number list are.1 there

pub all_kept : (all : List Opened) (firsts : List Firsts) → AreFirsts all firsts → (numbers : List ℕ) (opened : List Opened)
    → map (slice_get all) numbers ≡ map Some opened → IsKept opened firsts numbers
all_kept all firsts are [] [] named = record { own = []; named = refl; are = tt }
all_kept all firsts are [] (list ∷ opened) named = let no_it : ⊥ = cc in absurd no_it
all_kept all firsts are (number ∷ numbers) [] named = let no_it : ⊥ = cc in absurd no_it
all_kept all firsts are (number ∷ numbers) (list ∷ opened) named =
    let there : slice_get all number ≡ Some list = cc in
    let others : map (slice_get all) numbers ≡ map Some opened = cc in
    let one = one_kept all firsts number list are there in
    let rest = all_kept all firsts are numbers opened others in
    record {
      own = one.first ∷ rest.own;
      named = λ i. one.is i ∷ rest.named i;
      are = (one.tells, rest.are);
    }

-- a test of each

module _ (test : Firsts → Bool) (firsts : List Firsts) (numbers : List ℕ) (i d : ℕ) (o : Option Firsts) (whole : Bool) where
  some_step : i < length numbers → o ≡ slice_get firsts (get_or numbers i d)
      → some_first test (named_firsts firsts (drop i numbers)) ≡ (if_some test o || some_first test (named_firsts firsts (drop (i + 1) numbers)))
  unfolding some_first
  some_step within is =
      ap (λ l. list_any (if_some test) (named_firsts firsts l)) (drop_more numbers i d within)
      ∙ ap (λ f. if_some test f || list_any (if_some test) (named_firsts firsts (drop (i + 1) numbers))) (sym is)

  pub some_kept : i < length numbers → o ≡ slice_get firsts (get_or numbers i d) → if_some test o ≡ false
      → some_first test (named_firsts firsts (drop i numbers)) ≡ whole → some_first test (named_firsts firsts (drop (i + 1) numbers)) ≡ whole
  some_kept within is none before =
      ap (λ b. b || some_first test (named_firsts firsts (drop (i + 1) numbers))) (sym none) ∙ sym (some_step within is) ∙ before

  pub some_found : i < length numbers → o ≡ slice_get firsts (get_or numbers i d) → if_some test o ≡ true
      → some_first test (named_firsts firsts (drop i numbers)) ≡ whole → true ≡ whole
  some_found within is found before =
      ap (λ b. b || some_first test (named_firsts firsts (drop (i + 1) numbers))) (sym found) ∙ sym (some_step within is) ∙ before

pub some_end : (test : Firsts → Bool) (firsts : List Firsts) (numbers : List ℕ) (i : ℕ) (whole : Bool) → length numbers ≤ i
    → some_first test (named_firsts firsts (drop i numbers)) ≡ whole → false ≡ whole
unfolding some_first
some_end test firsts numbers i whole past before =
    ap (λ l. list_any (if_some test) (named_firsts firsts l)) (sym (drop_all i numbers past)) ∙ before

-- what they tell of the lists

none_in : (place : ℕ) (bytes : List ℕ) → is_text_at [] place bytes ≡ false
unfolding is_text_at
none_in place bytes = refl

-- a test that none passes
pub none_passes : (test : Firsts → Bool) (bytes : List ℕ) → ((list : Opened) (first : Firsts) → Tells first (is_text_in list) → test first ≡ false
    → is_text_in list bytes ≡ false)
    → (lists : List Opened) (own : List Firsts) → AreFirsts lists own → some_first test (map Some own) ≡ false
    → (place : ℕ) → is_text_at lists place bytes ≡ false
unfolding some_first is_text_at
none_passes test bytes tells [] [] are none place = refl
none_passes test bytes tells [] (f ∷ own) are none place = absurd are
none_passes test bytes tells (l ∷ lists) [] are none place = absurd are
none_passes test bytes tells (l ∷ lists) (f ∷ own) are none zero = tells l f are.0 (first_none (test f) (list_any (if_some test) (map Some own)) none).0
none_passes test bytes tells (l ∷ lists) (f ∷ own) are none (suc place) =
    none_passes test bytes tells lists own are.1 (first_none (test f) (list_any (if_some test) (map Some own)) none).1 place

-- a text with a byte
pub record SomeText (lists : List Opened) : Type 0 where
  pub place : ℕ
  pub next : ℕ
  pub more : List ℕ
  pub is : is_text_at lists place (next ∷ more) ≡ true

pub one_has : (lists : List Opened) (own : List Firsts) → AreFirsts lists own → some_first has_some (map Some own) ≡ true → SomeText lists
unfolding some_first is_text_at
one_has [] [] are some = let no_it : ⊥ = cc in absurd no_it
one_has [] (f ∷ own) are some = absurd are
one_has (l ∷ lists) [] are some = absurd are
one_has (l ∷ lists) (f ∷ own) are some = by f.some refl some (λ others. one_has lists own are.1 others)
  where
    by : (t : Bool) → f.some ≡ t → (t || list_any (if_some has_some) (map Some own)) ≡ true
        → (list_any (if_some has_some) (map Some own) ≡ true → SomeText lists) → SomeText (l ∷ lists)
    by true is some again = let text = are.0.some is in record { place = 0; next = text.next; more = text.more; is = text.is }
    by false is some again = let other = again some in record { place = suc other.place; next = other.next; more = other.more; is = other.is }

pub plain_by : (lists : List Opened) (firsts : List Firsts) (numbers : List ℕ) → IsKept lists firsts numbers
    → some_first is_empty (named_firsts firsts numbers) ≡ false → some_first has_some (named_firsts firsts numbers) ≡ true → ArePlain lists
plain_by lists firsts numbers kept none some =
    let text = one_has lists kept.own kept.are (sym (ap (some_first has_some) kept.named) ∙ some) in
    record {
      none = none_passes is_empty [] (λ list first tells is. sym tells.empty ∙ is) lists kept.own kept.are (sym (ap (some_first is_empty) kept.named) ∙ none);
      place = text.place;
      next = text.next;
      more = text.more;
      is = text.is;
    }

pub looks_by : (lists : List Opened) (firsts : List Firsts) (numbers : List ℕ) → IsKept lists firsts numbers → (looks : Bool)
    → looks ≡ some_first has_some (named_firsts firsts numbers) → (test : List ℕ → Bool) → Decides lists test → looks ≡ test []
looks_by lists firsts numbers kept true is test decides =
    let text = one_has lists kept.own kept.are (sym (ap (some_first has_some) kept.named) ∙ sym is) in
    sym ((decides []).1 (record { place = text.place; next = text.next; more = text.more; is = text.is }))
looks_by lists firsts numbers kept false is test decides = by (test []) refl
  where
    none : (place byte : ℕ) (rest : List ℕ) → is_text_at lists place (byte ∷ rest) ≡ false
    none place byte rest =
        none_passes has_some (byte ∷ rest) (λ list first tells no. tells.none no byte rest) lists kept.own kept.are
        (sym (ap (some_first has_some) kept.named) ∙ sym is) place

    by : (t : Bool) → test [] ≡ t → false ≡ t
    by false there = refl
    by true there =
        let goes = (decides []).0 there in
        absurd (no_both (is_text_at lists goes.place (goes.next ∷ goes.more)) goes.is (none goes.place goes.next goes.more))

either_none : (a b : Bool) → (a || b) ≡ false → (a ≡ false) × (b ≡ false)
either_none true b is = let no_it : ⊥ = cc in absurd no_it
either_none false b is = (refl, is)

no_begin : (byte : ℕ) → byte < 256 → (list : Opened) (first : Firsts) → Tells first (is_text_in list) → begins_with byte first ≡ false
    → (rest : List ℕ) → is_text_in list (byte ∷ rest) ≡ false
no_begin byte less list first tells none [] = sym (tells.ones byte less) ∙ (either_none (has_byte first.ones byte) (has_byte first.more byte) none).0
no_begin byte less list first tells none (next ∷ rest) =
    tells.more byte less (either_none (has_byte first.ones byte) (has_byte first.more byte) none).1 next rest

pub none_begins : (lists : List Opened) (firsts : List Firsts) (numbers : List ℕ) → IsKept lists firsts numbers → (byte : ℕ) → byte < 256
    → some_first (begins_with byte) (named_firsts firsts numbers) ≡ false → BeginsNone lists byte
none_begins lists firsts numbers kept byte less none place rest =
    none_passes (begins_with byte) (byte ∷ rest) (λ list first tells no. no_begin byte less list first tells no rest) lists kept.own kept.are
    (sym (ap (some_first (begins_with byte)) kept.named) ∙ none) place

-- the set of the bytes with which texts begin

or_assoc : (a b c : Bool) → ((a || b) || c) ≡ (a || (b || c))
or_assoc true b c = refl
or_assoc false b c = refl

pub set_kept : (firsts : List Firsts) (numbers : List ℕ) (i d byte : ℕ) (old new : Bool) (o : Option Firsts) (whole : Bool) → i < length numbers
    → o ≡ slice_get firsts (get_or numbers i d) → new ≡ (old || if_some (begins_with byte) o)
    → (old || some_first (begins_with byte) (named_firsts firsts (drop i numbers))) ≡ whole
    → (new || some_first (begins_with byte) (named_firsts firsts (drop (i + 1) numbers))) ≡ whole
set_kept firsts numbers i d byte old new o whole within is new_is before =
    let rest : Bool = some_first (begins_with byte) (named_firsts firsts (drop (i + 1) numbers)) in
    ap (λ b. b || rest) new_is ∙ or_assoc old (if_some (begins_with byte) o) rest
    ∙ ap (λ b. old || b) (sym (some_step (begins_with byte) firsts numbers i d o whole within is)) ∙ before

or_false : (b : Bool) → (b || false) ≡ b
or_false true = refl
or_false false = refl

pub set_end : (firsts : List Firsts) (numbers : List ℕ) (i byte : ℕ) (old whole : Bool) → length numbers ≤ i
    → (old || some_first (begins_with byte) (named_firsts firsts (drop i numbers))) ≡ whole → old ≡ whole
set_end firsts numbers i byte old whole past before =
    sym (or_false old)
    ∙ ap (λ b. old || b) (some_end (begins_with byte) firsts numbers i (some_first (begins_with byte) (named_firsts firsts (drop i numbers))) past refl)
    ∙ before

-- what a byte tells

told_in : (byte : ℕ) → byte < 256 → (before rest : List Opened) (own : List Firsts) → AreFirsts rest own → (best : Option ℕ)
    → Told before byte (Alone best) → Told (before ++ rest) byte (verdict_of byte (length before) best (map Some own))
unfolding verdict_of
told_in byte less before [] [] are best told = subst (λ l. Told l byte (Alone best)) (sym (append-nil before)) told
told_in byte less before [] (f ∷ own) are best told = absurd are
told_in byte less before (l ∷ rest) [] are best told = absurd are
told_in byte less before (l ∷ rest) (f ∷ own) are best told =
    by (has_byte f.more byte) refl
    (λ new told_now. told_in byte less (before ++ l ∷ []) rest own are.1 new told_now)
  where
    last : (place : ℕ) (bytes : List ℕ) → is_text_at (before ++ l ∷ []) place bytes ≡ (is_text_at before place bytes || ((length before == place) && is_text_in l bytes))
    last place bytes = text_at_last before l place bytes

    or_and : (a t b : Bool) → a ≡ false → b ≡ false → (a || (t && b)) ≡ false
    or_and true t b a_is b_is = let no_it : ⊥ = cc in absurd no_it
    or_and false true b a_is b_is = b_is
    or_and false false b a_is b_is = refl

    with_it : has_byte f.more byte ≡ false → Told (before ++ l ∷ []) byte (Alone (counted best (length before) (has_byte f.ones byte)))
    with_it none = (
      last_more (λ place. is_text_at before place (byte ∷ [])) (λ place. is_text_at (before ++ l ∷ []) place (byte ∷ [])) best (length before) (has_byte f.ones byte)
          (λ place. last place (byte ∷ []) ∙ ap (λ b. is_text_at before place (byte ∷ []) || ((length before == place) && b)) (sym (are.0.ones byte less))) told.0,
      (λ place next more. last place (byte ∷ next ∷ more)
          ∙ or_and (is_text_at before place (byte ∷ next ∷ more)) (length before == place) (is_text_in l (byte ∷ next ∷ more)) (told.1 place next more)
          (are.0.more byte less none next more)),
    )

    by : (t : Bool) → has_byte f.more byte ≡ t
        → ((new : Option ℕ) → Told (before ++ l ∷ []) byte (Alone new)
        → Told ((before ++ l ∷ []) ++ rest) byte (verdict_of byte (length (before ++ l ∷ [])) new (map Some own)))
        → Told (before ++ l ∷ rest) byte (if t then Longer
        else verdict_of byte (length before + 1) (counted best (length before) (has_byte f.ones byte)) (map Some own))
    by true is again = tt
    by false none again =
        subst (λ n. Told (before ++ l ∷ rest) byte (verdict_of byte n (counted best (length before) (has_byte f.ones byte)) (map Some own)))
        (length-append before (l ∷ []))
        (subst (λ x. Told x byte (verdict_of byte (length (before ++ l ∷ [])) (counted best (length before) (has_byte f.ones byte)) (map Some own)))
        (append_assoc before (l ∷ []) rest)
        (again (counted best (length before) (has_byte f.ones byte)) (with_it none)))

pub told_by : (byte : ℕ) → byte < 256 → (lists : List Opened) (firsts : List Firsts) (numbers : List ℕ) → IsKept lists firsts numbers
    → Told lists byte (verdict_of byte 0 None (named_firsts firsts numbers))
told_by byte less lists firsts numbers kept =
    subst (λ l. Told lists byte (verdict_of byte 0 None l)) (sym kept.named)
    (told_in byte less [] lists kept.own kept.are None ((λ place. none_in place (byte ∷ [])), (λ place next rest. none_in place (byte ∷ next ∷ rest))))

-- one list more

goes_on : (byte place : ℕ) (best : Option ℕ) (o : Option Firsts) (rest : List (Option Firsts)) (whole : Verdict) → o ≡ None
    → verdict_of byte place best (o ∷ rest) ≡ whole → verdict_of byte (place + 1) best rest ≡ whole
unfolding verdict_of
goes_on byte place best None rest whole is before = before
goes_on byte place best (Some f) rest whole is before = let no_it : ⊥ = cc in absurd no_it

here : (byte place : ℕ) (best : Option ℕ) (o : Option Firsts) (f : Firsts) (rest : List (Option Firsts)) (whole : Verdict) → o ≡ Some f
    → verdict_of byte place best (o ∷ rest) ≡ whole
    → (if has_byte f.more byte then Longer else verdict_of byte (place + 1) (counted best place (has_byte f.ones byte)) rest) ≡ whole
unfolding verdict_of
here byte place best None f rest whole is before = let no_it : ⊥ = cc in absurd no_it
here byte place best (Some g) f rest whole is before =
    let same : f ≡ g = cc in
    ap (λ (x : Firsts). if has_byte x.more byte then Longer else verdict_of byte (place + 1) (counted best place (has_byte x.ones byte)) rest) same ∙ before

module _ (firsts : List Firsts) (numbers : List ℕ) (byte place d : ℕ) (best : Option ℕ) where
  -- the lists that are left, the first one by itself
  first_left : (o : Option Firsts) (whole : Verdict) → place < length numbers → o ≡ slice_get firsts (get_or numbers place d)
      → verdict_of byte place best (named_firsts firsts (drop place numbers)) ≡ whole
      → verdict_of byte place best (o ∷ named_firsts firsts (drop (place + 1) numbers)) ≡ whole
  first_left o whole within is before =
      ap (λ x. verdict_of byte place best (x ∷ named_firsts firsts (drop (place + 1) numbers))) is
      ∙ ap (λ l. verdict_of byte place best (named_firsts firsts l)) (sym (drop_more numbers place d within)) ∙ before

  pub verdict_longer : (o : Option Firsts) (f : Firsts) (whole : Verdict) → place < length numbers → o ≡ slice_get firsts (get_or numbers place d)
      → o ≡ Some f → has_byte f.more byte ≡ true → verdict_of byte place best (named_firsts firsts (drop place numbers)) ≡ whole → Longer ≡ whole
  verdict_longer o f whole within is some more before =
      ap (λ (t : Bool). if t then Longer else verdict_of byte (place + 1) (counted best place (has_byte f.ones byte)) (named_firsts firsts (drop (place + 1) numbers)))
      (sym more)
      ∙ here byte place best o f (named_firsts firsts (drop (place + 1) numbers)) whole some (first_left o whole within is before)

  pub verdict_goes : (new : Option ℕ) (o : Option Firsts) (whole : Verdict) → place < length numbers → o ≡ slice_get firsts (get_or numbers place d)
      → o ≡ None → new ≡ best → verdict_of byte place best (named_firsts firsts (drop place numbers)) ≡ whole
      → verdict_of byte (place + 1) new (named_firsts firsts (drop (place + 1) numbers)) ≡ whole
  verdict_goes new o whole within is none new_is before =
      ap (λ b. verdict_of byte (place + 1) b (named_firsts firsts (drop (place + 1) numbers))) new_is
      ∙ goes_on byte place best o (named_firsts firsts (drop (place + 1) numbers)) whole none (first_left o whole within is before)

  pub verdict_here : (new : Option ℕ) (o : Option Firsts) (f : Firsts) (whole : Verdict) → place < length numbers
      → o ≡ slice_get firsts (get_or numbers place d) → o ≡ Some f → has_byte f.more byte ≡ false → new ≡ counted best place (has_byte f.ones byte)
      → verdict_of byte place best (named_firsts firsts (drop place numbers)) ≡ whole
      → verdict_of byte (place + 1) new (named_firsts firsts (drop (place + 1) numbers)) ≡ whole
  verdict_here new o f whole within is some none new_is before =
      ap (λ b. verdict_of byte (place + 1) b (named_firsts firsts (drop (place + 1) numbers))) new_is
      ∙ ap (λ (t : Bool). if t then Longer else verdict_of byte (place + 1) (counted best place (has_byte f.ones byte)) (named_firsts firsts (drop (place + 1) numbers)))
      (sym none)
      ∙ here byte place best o f (named_firsts firsts (drop (place + 1) numbers)) whole some (first_left o whole within is before)

pub verdict_end : (firsts : List Firsts) (numbers : List ℕ) (byte place : ℕ) (best : Option ℕ) (whole : Verdict) → length numbers ≤ place
    → verdict_of byte place best (named_firsts firsts (drop place numbers)) ≡ whole → Alone best ≡ whole
unfolding verdict_of
verdict_end firsts numbers byte place best whole past before =
    ap (λ l. verdict_of byte place best (named_firsts firsts l)) (sym (drop_all place numbers past)) ∙ before

-- the lists of a register that numbers name
pub kept_of : (register : Register) (numbers : List ℕ) (firsts : List Firsts) (opened : List Opened) → Names register numbers opened
    → firsts ≡ register.firsts → IsKept opened firsts numbers
kept_of register numbers firsts opened names is =
    all_kept names.all firsts (subst (AreFirsts names.all) (sym is) names.holds.firsts) numbers opened names.named

-- the bytes of one list more

pub no_more : (old new : ByteSet) (o : Option Firsts) (byte : ℕ) → new ≡ old → o ≡ None → has_byte new byte ≡ (has_byte old byte || if_some (begins_with byte) o)
no_more old new o byte new_is none =
    ap (λ s. has_byte s byte) new_is ∙ sym (ap (λ x. has_byte old byte || if_some (begins_with byte) x) none ∙ or_false (has_byte old byte))

pub one_set : (old both with_both new : ByteSet) (o : Option Firsts) (f : Firsts) (byte : ℕ) → byte < 256 → new ≡ with_both → o ≡ Some f
    → has_byte both byte ≡ (has_byte f.ones byte || has_byte f.more byte) → has_byte with_both byte ≡ (has_byte old byte || has_byte both byte)
    → has_byte new byte ≡ (has_byte old byte || if_some (begins_with byte) o)
one_set old both with_both new o f byte less new_is some both_is with_is =
    ap (λ s. has_byte s byte) new_is ∙ with_is ∙ ap (λ b. has_byte old byte || b) both_is
    ∙ ap (λ x. has_byte old byte || if_some (begins_with byte) x) (sym some)
