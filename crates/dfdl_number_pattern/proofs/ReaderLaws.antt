-- The machine reads number patterns: what has been read at each place, how it ends, and that each pattern is run through.
use Rattle.std.proofs.Common.{◌≡◌, ℕ, ◌==◌, true, ◌&&◌, if◌then◌else◌, Option, Some, None, List, [], ◌∷◌, ◌++◌, ◌⊎◌, inl, inr, refl, ap, sym, subst, ◌∙◌, append_assoc}
use Rattle.std.specs.Option.{IfSome}
use Rattle.std.proofs.lemmas.Bool.{cond_both, eqb-true, and_parts}
use Rattle.std.proofs.lemmas.List.{append-nil}
use Rattle.dfdl_number_pattern.specs.declared.quote.Quote.{Quote}
use Rattle.dfdl_number_pattern.specs.declared.quote.Quote.TheVariants.{Bare}
use Rattle.dfdl_number_pattern.specs.declared.digits.Digits.{Digits}
use Rattle.dfdl_number_pattern.specs.declared.reader.Place.TheVariants.{Prefix, Number, Suffix}
use Rattle.dfdl_number_pattern.specs.Affix.{is_whole, IsAffix, Nothing}
use Rattle.dfdl_number_pattern.specs.Digits.{none, is_complete, IsDigits, NoSign}
use Rattle.dfdl_number_pattern.specs.Pattern.{IsSubpattern, Spells}
use Rattle.dfdl_number_pattern.specs.Machine.{quote_next, told, digit_next, Subpattern, State, second_after, second_next, with_digits, prefix_or, prefix_next, number_or, number_next, suffix_or, suffix_next, step, accepts, value, value_after}
use Rattle.dfdl_number_pattern.proofs.Affixes.{quote_goes}
use Rattle.dfdl_number_pattern.proofs.DigitLaws.{digit_goes}

abbrev pub at_prefix : Quote → List ℕ → Option Subpattern → State
at_prefix q p f = record { place = Prefix q; prefix = p; suffix = []; digits = none; first = f }

abbrev pub at_number : List ℕ → Digits → Option Subpattern → State
at_number p d f = record { place = Number; prefix = p; suffix = []; digits = d; first = f }

abbrev pub at_suffix : Quote → List ℕ → List ℕ → Digits → Option Subpattern → State
at_suffix r p x d f = record { place = Suffix r; prefix = p; suffix = x; digits = d; first = f }

-- the sub-pattern as far as it was read
pub data Stands : Option Subpattern → State → List ℕ → Type 0 where
  InPrefix : (f : Option Subpattern) (q : Quote) (p t : List ℕ) → IsAffix q p t → Stands f (at_prefix q p f) t
  InNumber : (f : Option Subpattern) (q : Quote) (p tp td : List ℕ) (d : Digits) → IsAffix q p tp → is_whole q ≡ true → IsDigits d td → Stands f (at_number p d f) (tp ++ td)
  InSuffix : (f : Option Subpattern) (q r : Quote) (p x tp td tx : List ℕ) (d : Digits) → IsAffix q p tp → is_whole q ≡ true → IsDigits d td → is_complete d ≡ true → IsAffix r x tx
      → Stands f (at_suffix r p x d f) (tp ++ (td ++ tx))

pub stands_first : (f : Option Subpattern) (s : State) (t : List ℕ) → Stands f s t → s.first ≡ f
stands_first _ _ _ (InPrefix f q p t a) = refl
stands_first _ _ _ (InNumber f q p tp td d a w i) = refl
stands_first _ _ _ (InSuffix f q r p x tp td tx d a w i c b) = refl

pub stands_whole : (f : Option Subpattern) (s : State) (t : List ℕ) → Stands f s t → accepts s ≡ true → IsSubpattern s.prefix s.suffix s.digits t
stands_whole _ _ _ (InPrefix f q p t a) e = cc
stands_whole _ _ _ (InNumber f q p tp td d a w i) e =
    record {
      before = tp;
      digits = td;
      behind = [];
      ends_prefix = q;
      ends_suffix = Bare;
      spelled = ap (λ (l : List ℕ). tp ++ l) (sym (append-nil td));
      is_prefix = a;
      prefix_whole = w;
      is_digits = i;
      complete = e;
      is_suffix = Nothing;
      suffix_whole = refl;
    }
stands_whole _ _ _ (InSuffix f q r p x tp td tx d a w i c b) e =
    record {
      before = tp;
      digits = td;
      behind = tx;
      ends_prefix = q;
      ends_suffix = r;
      spelled = refl;
      is_prefix = a;
      prefix_whole = w;
      is_digits = i;
      complete = c;
      is_suffix = b;
      suffix_whole = e;
    }

-- a `;` ends the first sub-pattern
record Divided (f : Option Subpattern) (b : ℕ) (u : State) (t : List ℕ) : Type 0 where
  none_before : f ≡ None
  sub : Subpattern
  semicolon : b ≡ 59
  begins : u ≡ at_prefix Bare [] (Some sub)
  is_sub : IsSubpattern sub.prefix sub.suffix sub.digits t

abbrev Next : Option Subpattern → ℕ → List ℕ → State → Type 0
Next f b t u = Stands f u (t ++ b ∷ []) ⊎ Divided f b u t

divided : (f : Option Subpattern) (s : State) (b : ℕ) (t : List ℕ) → b ≡ 59 → IsSubpattern s.prefix s.suffix s.digits t → IfSome (second_after f s) (λ u. Next f b t u)
divided None s b t e i = inr (record { none_before = refl; sub = record { prefix = s.prefix; suffix = s.suffix; digits = s.digits }; semicolon = e; begins = refl; is_sub = i })
divided (Some g) s b t e i = tt

module _ (f : Option Subpattern) (b : ℕ) where
  first_sign : (q : Quote) (p t : List ℕ) → IsAffix q p t → is_whole q ≡ true → (o : Option Digits) → IfSome o (λ e. IsDigits e (b ∷ [])) → IfSome (with_digits o (at_prefix q p f)) (λ u. Next f b t u)
  first_sign q p t a w None g = tt
  first_sign q p t a w (Some e) g = inl (InNumber f q p t (b ∷ []) e a w g)

  prefix_case : (q : Quote) (p t : List ℕ) → IsAffix q p t → (o : Option Quote) → IfSome o (λ r. IsAffix r (told q b p) (t ++ b ∷ [])) → IfSome (prefix_or o q (at_prefix q p f) b) (λ u. Next f b t u)
  prefix_case q p t a (Some r) g = inl (InPrefix f r (told q b p) (t ++ b ∷ []) g)
  prefix_case q p t a None g =
      cond_both (is_whole q) (with_digits (digit_next none b) (at_prefix q p f)) None (λ (o : Option State). IfSome o (λ u. Next f b t u))
      (λ w. first_sign q p t a w (digit_next none b) (digit_goes none [] NoSign b))
      (λ w. tt)

  prefix_goes : (q : Quote) (p t : List ℕ) → IsAffix q p t → IfSome (prefix_next q (at_prefix q p f) b) (λ u. Next f b t u)
  unfolding prefix_next
  prefix_goes q p t a = prefix_case q p t a (quote_next q b) (quote_goes q p t b a)

  module _ (q : Quote) (p tp td : List ℕ) (d : Digits) (a : IsAffix q p tp) (w : is_whole q ≡ true) (i : IsDigits d td) where
    more_signs : (o : Option Digits) → IfSome o (λ e. IsDigits e (td ++ b ∷ [])) → IfSome (with_digits o (at_number p d f)) (λ u. Next f b (tp ++ td) u)
    more_signs None g = tt
    more_signs (Some e) g = inl (subst (λ (l : List ℕ). Stands f (at_number p e f) l) (sym (append_assoc tp td (b ∷ []))) (InNumber f q p tp (td ++ b ∷ []) e a w g))

    number_case : (o : Option Quote) → IfSome o (λ r. IsAffix r (told Bare b []) (b ∷ [])) → IfSome (number_or o (at_number p d f) b) (λ u. Next f b (tp ++ td) u)
    unfolding second_next
    number_case (Some r) g =
        cond_both (is_complete d) (Some (at_suffix r p (told Bare b []) d f)) None (λ (o : Option State). IfSome o (λ u. Next f b (tp ++ td) u))
        (λ e. inl (subst (λ (l : List ℕ). Stands f (at_suffix r p (told Bare b []) d f) l) (sym (append_assoc tp td (b ∷ []))) (InSuffix f q r p (told Bare b []) tp td (b ∷ []) d a w i e g)))
        (λ e. tt)
    number_case None g =
        cond_both (b == 59) (if is_complete d then second_after f (at_number p d f) else None) (with_digits (digit_next d b) (at_number p d f)) (λ (o : Option State). IfSome o (λ u. Next f b (tp ++ td) u))
        (λ e. cond_both (is_complete d) (second_after f (at_number p d f)) None (λ (o : Option State). IfSome o (λ u. Next f b (tp ++ td) u))
        (λ c. divided f (at_number p d f) b (tp ++ td) (eqb-true b 59 e) (stands_whole f (at_number p d f) (tp ++ td) (InNumber f q p tp td d a w i) c))
        (λ c. tt))
        (λ e. more_signs (digit_next d b) (digit_goes d td i b))

    number_goes : IfSome (number_next (at_number p d f) b) (λ u. Next f b (tp ++ td) u)
    unfolding number_next
    number_goes = number_case (quote_next Bare b) (quote_goes Bare [] [] b Nothing)

    module _ (r : Quote) (x tx : List ℕ) (c : is_complete d ≡ true) (y : IsAffix r x tx) where
      suffix_case : (o : Option Quote) → IfSome o (λ n. IsAffix n (told r b x) (tx ++ b ∷ [])) → IfSome (suffix_or o r (at_suffix r p x d f) b) (λ u. Next f b (tp ++ (td ++ tx)) u)
      unfolding second_next
      suffix_case (Some n) g =
          let again : (tp ++ (td ++ tx)) ++ b ∷ [] ≡ tp ++ (td ++ (tx ++ b ∷ [])) = append_assoc tp (td ++ tx) (b ∷ []) ∙ ap (λ (l : List ℕ). tp ++ l) (append_assoc td tx (b ∷ [])) in
          inl (subst (λ (l : List ℕ). Stands f (at_suffix n p (told r b x) d f) l) (sym again) (InSuffix f q n p (told r b x) tp td (tx ++ b ∷ []) d a w i c g))
      suffix_case None g =
          cond_both (b == 59 && is_whole r) (second_after f (at_suffix r p x d f)) None (λ (o : Option State). IfSome o (λ u. Next f b (tp ++ (td ++ tx)) u))
          (λ e. let h = and_parts _ _ e in divided f (at_suffix r p x d f) b (tp ++ (td ++ tx)) (eqb-true b 59 h.0) (stands_whole f (at_suffix r p x d f) (tp ++ (td ++ tx)) (InSuffix f q r p x tp td tx d a w i c y) h.1))
          (λ e. tt)

      suffix_goes : IfSome (suffix_next r (at_suffix r p x d f) b) (λ u. Next f b (tp ++ (td ++ tx)) u)
      unfolding suffix_next
      suffix_goes = suffix_case (quote_next r b) (quote_goes r x tx b y)

stands_goes : (f : Option Subpattern) (s : State) (t : List ℕ) (b : ℕ) → Stands f s t → IfSome (step s b) (λ u. Next f b t u)
stands_goes _ _ _ b (InPrefix f q p t a) = prefix_goes f b q p t a
stands_goes _ _ _ b (InNumber f q p tp td d a w i) = number_goes f b q p tp td d a w i
stands_goes _ _ _ b (InSuffix f q r p x tp td tx d a w i c y) = suffix_goes f b q p tp td d a w i r x tx c y

-- in the second sub-pattern
pub record Second (s : State) (text : List ℕ) : Type 0 where
  pub sub : Subpattern
  pub front : List ℕ
  pub now : List ℕ
  pub spelled : text ≡ front ++ 59 ∷ now
  pub is_first : IsSubpattern sub.prefix sub.suffix sub.digits front
  pub stands : Stands (Some sub) s now

-- what has been read at a state
abbrev pub Reached : State → List ℕ → Type 0
Reached s text = Stands None s text ⊎ Second s text

pub reads_on : (s t : State) (b : ℕ) (text : List ℕ) → Reached s text → step s b ≡ Some t → Reached t (text ++ b ∷ [])
reads_on s t b text (inl st) is =
    let next : Next None b text t = subst (λ (o : Option State). IfSome o (λ u. Next None b text u)) is (stands_goes None s text b st) in
    elim next [
      | inl n ↦ inl n
      | inr v ↦ inr (record {
        sub = v.sub;
        front = text;
        now = [];
        spelled = ap (λ (c : ℕ). text ++ c ∷ []) v.semicolon;
        is_first = v.is_sub;
        stands = subst (λ (u : State). Stands (Some v.sub) u []) (sym v.begins) (InPrefix (Some v.sub) Bare [] [] Nothing);
      })
    ]
reads_on s t b text (inr se) is =
    let next : Next (Some se.sub) b se.now t = subst (λ (o : Option State). IfSome o (λ u. Next (Some se.sub) b se.now u)) is (stands_goes (Some se.sub) s se.now b se.stands) in
    elim next [
      | inl n ↦ inr (record {
        sub = se.sub;
        front = se.front;
        now = se.now ++ b ∷ [];
        spelled = ap (λ (l : List ℕ). l ++ b ∷ []) se.spelled ∙ append_assoc se.front (59 ∷ se.now) (b ∷ []);
        is_first = se.is_first;
        stands = n;
      })
      | inr v ↦ let never : Some se.sub ≡ None = v.none_before in cc
    ]

pub spells_value : (s : State) (text : List ℕ) → Reached s text → accepts s ≡ true → Spells (value s) text
spells_value s text (inl st) e =
    inl (record { prefix = s.prefix; suffix = s.suffix; digits = s.digits; is_only = stands_whole None s text st e; means = ap (λ (o : Option Subpattern). value_after o s) (stands_first None s text st) })
spells_value s text (inr se) e =
    inr (record {
      first = se.front;
      second = se.now;
      prefix = se.sub.prefix;
      suffix = se.sub.suffix;
      digits = se.sub.digits;
      negative_prefix = s.prefix;
      negative_suffix = s.suffix;
      other = s.digits;
      spelled = se.spelled;
      is_first = se.is_first;
      is_second = stands_whole (Some se.sub) s se.now se.stands e;
      means = ap (λ (o : Option Subpattern). value_after o s) (stands_first (Some se.sub) s se.now se.stands);
    })
