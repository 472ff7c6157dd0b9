-- The affixes of a pattern that is text are texts, since what is left out of their spelling is ASCII.
use Rattle.std.proofs.Common.{◌≡◌, ℕ, ◌+◌, ◌<◌, ◌==◌, Bool, true, false, not, ◌||◌, ◌&&◌, Option, Some, None, List, [], ◌∷◌, ◌++◌, length, get_or, drop, ◌⊎◌, inl, inr, refl, ap, sym, subst, ◌∙◌, arith, append_assoc}
use Rattle.std.specs.Option.{IfSome}
use Rattle.std.specs.Str.{IsUtf8}
use Rattle.std.proofs.Math.Utf8.{low_scalar}
use Rattle.std.proofs.Math.Seq.{take-append_seam, drop-append_seam, get_or-append_seam}
use Rattle.std.proofs.lemmas.Bool.{cond_both, cases_Bool, eqb-true}
use Rattle.std.proofs.lemmas.List.{append-nil, length-append}
use Rattle.std.proofs.lemmas.Str.{IsUtf8-take, IsUtf8-drop, IsUtf8-append, IsCharBoundary-before_ascii, IsCharBoundary-after_ascii, encode_ascii}
use Rattle.dfdl_number_pattern.specs.declared.quote.Quote.{Quote}
use Rattle.dfdl_number_pattern.specs.declared.digits.Digits.{Digits}
use Rattle.dfdl_number_pattern.specs.declared.reader.First.{First}
use Rattle.dfdl_number_pattern.specs.Affix.{IsAffix}
use Rattle.dfdl_number_pattern.specs.Digits.{none, is_complete, IsDigits}
use Rattle.dfdl_number_pattern.specs.Pattern.{IsSubpattern}
use Rattle.dfdl_number_pattern.specs.Machine.{doubles, says, told, digit_next, Subpattern, State, accepts}
use Rattle.dfdl_number_pattern.specs.ReaderShown.{first_seen}
use Rattle.dfdl_number_pattern.proofs.Affixes.{affix_keeps}
use Rattle.dfdl_number_pattern.proofs.DigitLaws.{IsSign, digits_keep}
use Rattle.dfdl_number_pattern.proofs.ReaderLaws.{Reached, stands_first, stands_whole}

-- a text may be cut before and behind an ASCII byte
record Cut (x y : List ℕ) : Type 0 where
  before : IsUtf8 x
  behind : IsUtf8 y

cut_at : (bs x y : List ℕ) (b : ℕ) → bs ≡ x ++ b ∷ y → b < 128 → IsUtf8 bs → Cut x y
cut_at bs x y b e low u =
    let v : IsUtf8 (x ++ b ∷ y) = subst IsUtf8 e u in
    let n = length x in
    let here : get_or (x ++ b ∷ y) n 0 ≡ b = get_or-append_seam x b y 0 in
    let long : length (x ++ b ∷ y) ≡ n + length (b ∷ y) = length-append x (b ∷ y) in
    let inside : n < length (x ++ b ∷ y) = omega arith in
    let small : get_or (x ++ b ∷ y) n 0 < 128 = omega arith in
    let again : x ++ b ∷ y ≡ (x ++ b ∷ []) ++ y = sym (append_assoc x (b ∷ []) y) in
    let next : length (x ++ b ∷ []) ≡ n + 1 = length-append x (b ∷ []) in
    let rest : drop (n + 1) (x ++ b ∷ y) ≡ y =
    ap (λ (l : List ℕ). drop (n + 1) l) again ∙ (ap (λ (m : ℕ). drop m ((x ++ b ∷ []) ++ y)) (sym next) ∙ drop-append_seam (x ++ b ∷ []) y)
    in
    record {
      before = subst IsUtf8 (take-append_seam x (b ∷ y)) (IsUtf8-take (x ++ b ∷ y) n v (IsCharBoundary-before_ascii (x ++ b ∷ y) n inside small));
      behind = subst IsUtf8 rest (IsUtf8-drop (x ++ b ∷ y) (n + 1) v (IsCharBoundary-after_ascii (x ++ b ∷ y) n v inside small));
    }

-- what an affix means is text before what makes its spelling text
abbrev MeansText : List ℕ → List ℕ → Type 0
MeansText w t = (y : List ℕ) → IsUtf8 (t ++ y) → IsUtf8 (w ++ y)

unsaid : (q : Quote) (b : ℕ) → says q b ≡ false → b ≡ 39
unfolding says
unsaid q b e =
    elim (cases_Bool (b == 39)) [
      | inl h ↦ eqb-true b 39 h
      | inr h ↦ let never : (not false || doubles q) ≡ false = subst (λ (x : Bool). (not x || doubles q) ≡ false) h e in cc
    ]

module _ (w t : List ℕ) (b : ℕ) (m : MeansText w t) where
  kept : MeansText (w ++ b ∷ []) (t ++ b ∷ [])
  kept y u = subst IsUtf8 (sym (append_assoc w (b ∷ []) y)) (m (b ∷ y) (subst IsUtf8 (append_assoc t (b ∷ []) y) u))

  left_out : b < 128 → MeansText w (t ++ b ∷ [])
  left_out low y u =
      let c = cut_at (w ++ b ∷ y) w y b refl low (m (b ∷ y) (subst IsUtf8 (append_assoc t (b ∷ []) y) u)) in
      IsUtf8-append w y c.before c.behind

  told_text : (q : Quote) → MeansText (told q b w) (t ++ b ∷ [])
  told_text q =
      cond_both (says q b) (w ++ b ∷ []) w (λ (l : List ℕ). MeansText l (t ++ b ∷ []))
      (λ _. kept)
      (λ e. let is : b ≡ 39 = unsaid q b e in left_out (omega arith))

affix_text : (q : Quote) (w t : List ℕ) → IsAffix q w t → MeansText w t
affix_text = affix_keeps (λ q w t. MeansText w t) (λ y u. u) (λ q r w t b _ m. told_text w t b m q)

-- digits cut a text in two: what stands before and behind them is text
abbrev CutsOff : List ℕ → Type 0
CutsOff t = (x y : List ℕ) → IsUtf8 (x ++ (t ++ y)) → Cut x y

abbrev DigitsCut : Digits → List ℕ → Type 0
DigitsCut d t = ((d ≡ none) × (t ≡ [])) ⊎ CutsOff t

more_cut : (t : List ℕ) (b : ℕ) → b < 128 → CutsOff t → CutsOff (t ++ b ∷ [])
more_cut t b low f x y u =
    let all : x ++ ((t ++ b ∷ []) ++ y) ≡ x ++ (t ++ b ∷ y) = ap (λ (l : List ℕ). x ++ l) (append_assoc t (b ∷ []) y) in
    let c = f x (b ∷ y) (subst IsUtf8 all u) in
    let d = cut_at (b ∷ y) [] y b refl low c.behind in
    record { before = c.before; behind = d.behind }

first_cut : (t : List ℕ) (b : ℕ) → b < 128 → t ≡ [] → CutsOff (t ++ b ∷ [])
first_cut t b low e x y u = cut_at (x ++ ((t ++ b ∷ []) ++ y)) x y b (ap (λ (l : List ℕ). x ++ ((l ++ b ∷ []) ++ y)) e) low u

digits_step : (d e : Digits) (t : List ℕ) (b : ℕ) → IsSign b → digit_next d b ≡ Some e → DigitsCut d t → DigitsCut e (t ++ b ∷ [])
digits_step d e t b sign next (inl h) = inr (first_cut t b sign.low h.1)
digits_step d e t b sign next (inr f) = inr (more_cut t b sign.low f)

digits_cut : (d : Digits) (t : List ℕ) → IsDigits d t → DigitsCut d t
digits_cut = digits_keep (λ d t. DigitsCut d t) (inl (refl, refl)) (λ d e t b sign next c. digits_step d e t b sign next c)

complete_cuts : (d : Digits) (t : List ℕ) → is_complete d ≡ true → DigitsCut d t → CutsOff t
complete_cuts d t e (inl h) = let never : false ≡ true = subst (λ (x : Digits). is_complete x ≡ true) h.0 e in cc
complete_cuts d t e (inr f) = f

-- the prefix and the suffix of a sub-pattern that is text are texts
pub record AreTexts (prefix suffix : List ℕ) : Type 0 where
  pub is_prefix : IsUtf8 prefix
  pub is_suffix : IsUtf8 suffix

meaning_text : (q : Quote) (w t : List ℕ) → IsAffix q w t → IsUtf8 t → IsUtf8 w
meaning_text q w t a u = subst IsUtf8 (append-nil w) (affix_text q w t a [] (subst IsUtf8 (sym (append-nil t)) u))

sub_texts : (p x : List ℕ) (d : Digits) (t : List ℕ) → IsSubpattern p x d t → IsUtf8 t → AreTexts p x
sub_texts p x d t i u =
    let c = complete_cuts d i.digits i.complete (digits_cut d i.digits i.is_digits) i.before i.behind (subst IsUtf8 i.spelled u) in
    record { is_prefix = meaning_text i.ends_prefix p i.before i.is_prefix c.before; is_suffix = meaning_text i.ends_suffix x i.behind i.is_suffix c.behind }

-- the affixes that a state keeps are texts
pub record KeepsTexts (s : State) : Type 0 where
  pub last : AreTexts s.prefix s.suffix
  pub first : IfSome s.first (λ f. AreTexts f.prefix f.suffix)

pub keeps_texts : (s : State) (text : List ℕ) → Reached s text → accepts s ≡ true → IsUtf8 text → KeepsTexts s
keeps_texts s text (inl st) e u =
    record {
      last = sub_texts s.prefix s.suffix s.digits text (stands_whole None s text st e) u;
      first = subst (λ (o : Option Subpattern). IfSome o (λ f. AreTexts f.prefix f.suffix)) (sym (stands_first None s text st)) tt;
    }
keeps_texts s text (inr se) e u =
    let c = cut_at text se.front se.now 59 se.spelled (omega arith) u in
    record {
      last = sub_texts s.prefix s.suffix s.digits se.now (stands_whole (Some se.sub) s se.now se.stands e) c.behind;
      first =
          subst (λ (o : Option Subpattern). IfSome o (λ f. AreTexts f.prefix f.suffix)) (sym (stands_first (Some se.sub) s se.now se.stands))
          (sub_texts se.sub.prefix se.sub.suffix se.sub.digits se.front se.is_first c.before);
    }

pub first_texts : (o : Option First) → IfSome (first_seen o) (λ f. AreTexts f.prefix f.suffix) → IfSome o (λ f. IsUtf8 f.prefix.items × IsUtf8 f.suffix.items)
first_texts None t = tt
first_texts (Some f) t = (t.is_prefix, t.is_suffix)

-- a text behind `-` is text
minus_is_text : IsUtf8 (45 ∷ [])
minus_is_text = (45 ∷ [], (ap (λ (t : Bool). t && true) (low_scalar 45 (omega arith)), ap (λ (l : List ℕ). l ++ []) (encode_ascii 45 (omega arith))))

pub behind_minus : (v w : List ℕ) → v ≡ 45 ∷ w → IsUtf8 w → IsUtf8 v
behind_minus v w e u = subst IsUtf8 (sym e) (IsUtf8-append (45 ∷ []) w minus_is_text u)
