-- Texts in texts, and characters as a text.
use Rattle.std.proofs.Common.{◌≡◌, ℕ, ◌++◌, ◌==◌, ◌||◌, Bool, true, false, List, [], ◌∷◌, length, drop, Some, Result, Ok, refl, sym, ap, subst, ◌∙◌, ◌↔◌, IsUtf8, ◌⊎◌, inl, inr}
use Rattle.std.specs.List.{starts_with}
use Rattle.std.specs.Str.{chars}
use Rattle.std.specs.Str.Iter.{HasSubslice}
use Rattle.std.proofs.lemmas.Bool.Decides.{Decides-eqb}
use Rattle.std.proofs.lemmas.Slice.Eq.{starts_is}
use Rattle.std.proofs.lemmas.Str.{encodes-chars}
use Rattle.dfdl_operators.specs.Constructors.{IsAnswer}
use Rattle.dfdl_operators.specs.Places.{Part}
use Rattle.dfdl_operators.specs.TextFunctions.{text_of_value}
use Rattle.dfdl_operators.specs.declared.fault.FunctionFault.{FunctionFault}
use Rattle.dfdl_value.specs.declared.value.Value.{Value}
use Rattle.dfdl_value.specs.declared.value.Value.TheVariants.{Text, Truth}
use Rattle.dfdl_expression_eval.specs.Functions.{has_part, on_text, on_texts, text_part}

either : (a b : Bool) → (a || b) ≡ true → (a ≡ true) ⊎ (b ≡ true)
either true b e = inl refl
either false b e = inr e

left_of : (a b : Bool) → a ≡ true → (a || b) ≡ true
left_of true b e = refl
left_of false b e = absurd (cc)

right_of : (a b : Bool) → b ≡ true → (a || b) ≡ true
right_of true b e = refl
right_of false b e = e

begins : (s p rest : List ℕ) → s ≡ p ++ rest → starts_with ◌==◌ s p ≡ true
begins s p rest e = (starts_is Decides-eqb s p _ refl).1 rest e

-- what stands somewhere in a text is found there
pub is_found : (part text a b : List ℕ) → text ≡ a ++ (part ++ b) → has_part part text ≡ true
is_found part [] [] b e = begins [] part b e
is_found part [] (x ∷ a) b e = absurd (cc)
is_found part (c ∷ cs) [] b e = left_of (starts_with ◌==◌ (c ∷ cs) part) (has_part part cs) (begins (c ∷ cs) part b e)
is_found part (c ∷ cs) (x ∷ a) b e =
    right_of (starts_with ◌==◌ (c ∷ cs) part) (has_part part cs) (is_found part cs a b (ap (drop 1) e))

-- what is found in a text stands there
pub stands : (part text : List ℕ) → has_part part text ≡ true → HasSubslice text part
stands part [] e = ([], drop (length part) [], (starts_is Decides-eqb [] part _ refl).0 e)
stands part (c ∷ cs) e = elim (either (starts_with ◌==◌ (c ∷ cs) part) (has_part part cs) e) [
  | inl here ↦ ([], drop (length part) (c ∷ cs), (starts_is Decides-eqb (c ∷ cs) part _ refl).0 here)
  | inr later ↦ (let (a, b, is) = stands part cs later in (c ∷ a, b, ap (λ l. c ∷ l) is))
]

same_truth : (r t : Bool) → (r ≡ true → t ≡ true) → (t ≡ true → r ≡ true) → r ≡ t
same_truth true t f g = sym (f refl)
same_truth false true f g = g refl
same_truth false false f g = refl

-- a test that holds where a part stands in a text
pub part_is : (r : Bool) (text part : List ℕ) → ((r ≡ true) ↔ HasSubslice text part) → r ≡ has_part part text
part_is r text part h =
    same_truth r (has_part part text)
    (λ e. let s = h.0 e in is_found part text s.0 s.1 s.2)
    (λ e. h.1 (stands part text e))

-- whether a part stands in a text, of two values that are texts
pub part_answer : (v w : Value) (text part : List ℕ) (r : Bool) → text_of_value v ≡ Some text → text_of_value w ≡ Some part → ((r ≡ true) ↔ HasSubslice text part)
    → Ok (Truth r) ≡ on_texts (λ t p. has_part p t) (text_of_value v) (text_of_value w)
part_answer v w text part r is_text is_part h =
    ap (λ b. Ok (Truth b)) (part_is r text part h)
    ∙ sym (ap (λ o. on_texts (λ t p. has_part p t) o (text_of_value w)) is_text ∙ ap (on_texts (λ t p. has_part p t) (Some text)) is_part)

copied : (part : Part) (text : List ℕ) (r : Result Value FunctionFault) → IsUtf8 text → part ≡ Ok (chars text) → IsAnswer (Ok (Text text)) r → IsAnswer (text_part part) r
copied part text r utf8 is answer =
    subst (λ a. IsAnswer a r) (sym (ap text_part is ∙ ap (λ bs. Ok (Text bs)) (encodes-chars text utf8))) answer

-- the copy of a text whose characters are a part of one
pub copy_answer : (f : List ℕ → Part) (v : Value) (whole text : List ℕ) (r : Result Value FunctionFault) → IsUtf8 text → text_of_value v ≡ Some whole
    → f whole ≡ Ok (chars text) → IsAnswer (Ok (Text text)) r → IsAnswer (on_text (λ t. text_part (f t)) (text_of_value v)) r
copy_answer f v whole text r utf8 is_whole is answer =
    subst (λ o. IsAnswer (on_text (λ t. text_part (f t)) o) r) (sym is_whole) (copied (f whole) text r utf8 is answer)
