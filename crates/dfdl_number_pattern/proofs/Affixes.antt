-- An affix goes on by a byte as the machine does.
use Rattle.std.proofs.Common.{◌≡◌, ℕ, ◌==◌, Bool, true, false, not, ◌||◌, if◌then◌else◌, Option, Some, None, List, [], ◌∷◌, ◌++◌, refl, ap, sym, subst, ◌∙◌}
use Rattle.std.specs.Option.{IfSome}
use Rattle.std.proofs.lemmas.Bool.{cond_both, eqb-true}
use Rattle.dfdl_number_pattern.specs.declared.quote.Quote.{Quote}
use Rattle.dfdl_number_pattern.specs.declared.quote.Quote.TheVariants.{Bare, AfterC2, AfterE2, AfterE280, Opened, Quoted, Closed}
use Rattle.dfdl_number_pattern.specs.Affix.{is_plain, is_whole, IsAffix, Nothing, Plain, LeadC2, LeadE2, OtherC2, OtherE2, LeadE280, OtherE280, Open, Doubled, First, More, Close, Again}
use Rattle.dfdl_number_pattern.specs.Machine.{plain_next, character_next, apostrophe_next, quote_next, doubles, says, told}

pub if_true : {A : Type 0} (t : Bool) (x y : A) → t ≡ true → (if t then x else y) ≡ x
if_true t x y e = ap (λ b. if b then x else y) e

pub if_false : {A : Type 0} (t : Bool) (x y : A) → t ≡ false → (if t then x else y) ≡ y
if_false t x y e = ap (λ b. if b then x else y) e

quote_plain : (q : Quote) (b : ℕ) → (b == 39) ≡ false → quote_next q b ≡ character_next q b
unfolding quote_next
quote_plain q b e = if_false (b == 39) _ _ e

quote_apostrophe : (q : Quote) → quote_next q 39 ≡ apostrophe_next q
unfolding quote_next
quote_apostrophe q = refl

told_plain : (q : Quote) (b : ℕ) (w : List ℕ) → (b == 39) ≡ false → told q b w ≡ w ++ b ∷ []
unfolding says
told_plain q b w e = ap (λ (t : Bool). if (not t || doubles q) then w ++ b ∷ [] else w) e

told_apostrophe : (q : Quote) (w : List ℕ) → told q 39 w ≡ (if doubles q then w ++ 39 ∷ [] else w)
unfolding says
told_apostrophe q w = refl

-- the affix goes on where the machine does
abbrev GoesOn : Option Quote → List ℕ → List ℕ → Type 0
GoesOn o w t = IfSome o (λ r. IsAffix r w t)

plain_goes : (q : Quote) (w t : List ℕ) (b : ℕ) → IsAffix q w t → is_whole q ≡ true → (b == 39) ≡ false → GoesOn (plain_next b) (w ++ b ∷ []) (t ++ b ∷ [])
plain_goes q w t b a whole e =
    cond_both (b == 194) (Some AfterC2) (if b == 226 then Some AfterE2 else (if is_plain b then Some Bare else None)) (λ (o : Option Quote). GoesOn o (w ++ b ∷ []) (t ++ b ∷ []))
    (λ h. subst (λ (c : ℕ). IsAffix AfterC2 (w ++ c ∷ []) (t ++ c ∷ [])) (sym (eqb-true b 194 h)) (LeadC2 q w t a whole))
    (λ h. cond_both (b == 226) (Some AfterE2) (if is_plain b then Some Bare else None) (λ (o : Option Quote). GoesOn o (w ++ b ∷ []) (t ++ b ∷ []))
    (λ i. subst (λ (c : ℕ). IsAffix AfterE2 (w ++ c ∷ []) (t ++ c ∷ [])) (sym (eqb-true b 226 i)) (LeadE2 q w t a whole))
    (λ i. cond_both (is_plain b) (Some Bare) None (λ (o : Option Quote). GoesOn o (w ++ b ∷ []) (t ++ b ∷ []))
    (λ p. Plain q w t b a whole e h i p)
    (λ p. tt)))

character_goes : (q : Quote) (w t : List ℕ) (b : ℕ) → IsAffix q w t → (b == 39) ≡ false → GoesOn (character_next q b) (w ++ b ∷ []) (t ++ b ∷ [])
character_goes Bare w t b a e = plain_goes Bare w t b a refl e
character_goes Closed w t b a e = plain_goes Closed w t b a refl e
character_goes AfterC2 w t b a e =
    cond_both (b == 164) None (Some Bare) (λ (o : Option Quote). GoesOn o (w ++ b ∷ []) (t ++ b ∷ [])) (λ h. tt) (λ h. OtherC2 w t b a e h)
character_goes AfterE2 w t b a e =
    cond_both (b == 128) (Some AfterE280) (Some Bare) (λ (o : Option Quote). GoesOn o (w ++ b ∷ []) (t ++ b ∷ []))
    (λ h. subst (λ (c : ℕ). IsAffix AfterE280 (w ++ c ∷ []) (t ++ c ∷ [])) (sym (eqb-true b 128 h)) (LeadE280 w t a))
    (λ h. OtherE2 w t b a e h)
character_goes AfterE280 w t b a e =
    cond_both (b == 176) None (Some Bare) (λ (o : Option Quote). GoesOn o (w ++ b ∷ []) (t ++ b ∷ [])) (λ h. tt) (λ h. OtherE280 w t b a e h)
character_goes Opened w t b a e = First w t b a e
character_goes Quoted w t b a e = More w t b a e

apostrophe_goes : (q : Quote) (w t : List ℕ) → IsAffix q w t → GoesOn (apostrophe_next q) (if doubles q then w ++ 39 ∷ [] else w) (t ++ 39 ∷ [])
apostrophe_goes Bare w t a = Open w t a
apostrophe_goes Opened w t a = Doubled w t a
apostrophe_goes Quoted w t a = Close w t a
apostrophe_goes Closed w t a = Again w t a
apostrophe_goes AfterC2 w t a = tt
apostrophe_goes AfterE2 w t a = tt
apostrophe_goes AfterE280 w t a = tt

pub quote_goes : (q : Quote) (w t : List ℕ) (b : ℕ) → IsAffix q w t → IfSome (quote_next q b) (λ r. IsAffix r (told q b w) (t ++ b ∷ []))
unfolding quote_next
quote_goes q w t b a =
    cond_both (b == 39) (apostrophe_next q) (character_next q b) (λ (o : Option Quote). GoesOn o (told q b w) (t ++ b ∷ []))
    (λ e. subst (λ (c : ℕ). GoesOn (apostrophe_next q) (told q c w) (t ++ c ∷ [])) (sym (eqb-true b 39 e))
    (subst (λ (l : List ℕ). GoesOn (apostrophe_next q) l (t ++ 39 ∷ [])) (sym (told_apostrophe q w)) (apostrophe_goes q w t a)))
    (λ e. subst (λ (l : List ℕ). GoesOn (character_next q b) l (t ++ b ∷ [])) (sym (told_plain q b w e)) (character_goes q w t b a e))

pub whole_character : (q : Quote) (b : ℕ) → is_whole q ≡ true → character_next q b ≡ plain_next b
whole_character Bare b h = refl
whole_character Closed b h = refl
whole_character AfterC2 b h = cc
whole_character AfterE2 b h = cc
whole_character AfterE280 b h = cc
whole_character Opened b h = cc
whole_character Quoted b h = cc

-- what holds of nothing and is kept by each step holds of an affix
module _ (P : Quote → List ℕ → List ℕ → Type 0) (base : P Bare [] [])
    (goes : (q r : Quote) (w t : List ℕ) (b : ℕ) → quote_next q b ≡ Some r → P q w t → P r (told q b w) (t ++ b ∷ [])) where
  by_plain : (q r : Quote) (w t : List ℕ) (b : ℕ) → (b == 39) ≡ false → character_next q b ≡ Some r → P q w t → P r (w ++ b ∷ []) (t ++ b ∷ [])
  by_plain q r w t b e is p = subst (λ (l : List ℕ). P r l (t ++ b ∷ [])) (told_plain q b w e) (goes q r w t b (quote_plain q b e ∙ is) p)

  pub affix_keeps : (q : Quote) (w t : List ℕ) → IsAffix q w t → P q w t
  affix_keeps _ _ _ Nothing = base
  affix_keeps _ _ _ (Plain q w t b a whole e c d p) =
      by_plain q Bare w t b e (whole_character q b whole ∙ (if_false (b == 194) _ _ c ∙ (if_false (b == 226) _ _ d ∙ if_true (is_plain b) _ _ p))) (affix_keeps q w t a)
  affix_keeps _ _ _ (LeadC2 q w t a whole) = by_plain q AfterC2 w t 194 refl (whole_character q 194 whole) (affix_keeps q w t a)
  affix_keeps _ _ _ (LeadE2 q w t a whole) = by_plain q AfterE2 w t 226 refl (whole_character q 226 whole) (affix_keeps q w t a)
  affix_keeps _ _ _ (OtherC2 w t b a e h) = by_plain AfterC2 Bare w t b e (if_false (b == 164) _ _ h) (affix_keeps AfterC2 w t a)
  affix_keeps _ _ _ (OtherE2 w t b a e h) = by_plain AfterE2 Bare w t b e (if_false (b == 128) _ _ h) (affix_keeps AfterE2 w t a)
  affix_keeps _ _ _ (LeadE280 w t a) = by_plain AfterE2 AfterE280 w t 128 refl refl (affix_keeps AfterE2 w t a)
  affix_keeps _ _ _ (OtherE280 w t b a e h) = by_plain AfterE280 Bare w t b e (if_false (b == 176) _ _ h) (affix_keeps AfterE280 w t a)
  affix_keeps _ _ _ (Open w t a) = subst (λ (l : List ℕ). P Opened l (t ++ 39 ∷ [])) (told_apostrophe Bare w) (goes Bare Opened w t 39 (quote_apostrophe Bare) (affix_keeps Bare w t a))
  affix_keeps _ _ _ (Doubled w t a) = subst (λ (l : List ℕ). P Bare l (t ++ 39 ∷ [])) (told_apostrophe Opened w) (goes Opened Bare w t 39 (quote_apostrophe Opened) (affix_keeps Opened w t a))
  affix_keeps _ _ _ (First w t b a e) = by_plain Opened Quoted w t b e refl (affix_keeps Opened w t a)
  affix_keeps _ _ _ (More w t b a e) = by_plain Quoted Quoted w t b e refl (affix_keeps Quoted w t a)
  affix_keeps _ _ _ (Close w t a) = subst (λ (l : List ℕ). P Closed l (t ++ 39 ∷ [])) (told_apostrophe Quoted w) (goes Quoted Closed w t 39 (quote_apostrophe Quoted) (affix_keeps Quoted w t a))
  affix_keeps _ _ _ (Again w t a) = subst (λ (l : List ℕ). P Quoted l (t ++ 39 ∷ [])) (told_apostrophe Closed w) (goes Closed Quoted w t 39 (quote_apostrophe Closed) (affix_keeps Closed w t a))
