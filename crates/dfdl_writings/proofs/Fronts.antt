-- How many characters fit, one after another.
use Rattle.std.proofs.Common.{◌≡◌, ℕ, suc, ◌+◌, ◌-◌, ◌*◌, ◌<◌, ◌≤◌, List, [], ◌∷◌, length, drop, get_or, refl, ap, ◌∙◌, arith}
use Rattle.std.proofs.lemmas.Bool.{cond-true, cond-false, le-leb, lt-leb}
use Rattle.std.proofs.lemmas.List.{drop_all}
use Rattle.dfdl_lemmas.proofs.Lists.{left_at}
use Rattle.dfdl_chars.specs.Encodings.{width_in}
use Rattle.dfdl_forms.specs.declared.encoding.Encoding.{Encoding}
use Rattle.dfdl_writings.specs.Cuts.{front_count}

one_fits : (encoding : Encoding) (bits c : ℕ) (cs : List ℕ) → 8 * width_in encoding c ≤ bits
    → front_count encoding bits (c ∷ cs) ≡ suc (front_count encoding (bits - 8 * width_in encoding c) cs)
unfolding front_count
one_fits encoding bits c cs fits = cond-true _ _ _ (le-leb _ _ fits)

none_fits : (encoding : Encoding) (bits c : ℕ) (cs : List ℕ) → bits < 8 * width_in encoding c → front_count encoding bits (c ∷ cs) ≡ 0
unfolding front_count
none_fits encoding bits c cs wide = cond-false _ _ _ (lt-leb _ _ wide)

none_left : (encoding : Encoding) (bits : ℕ) → front_count encoding bits [] ≡ 0
unfolding front_count
none_left encoding bits = refl

-- the character at a place fits
pub further : (encoding : Encoding) (left at c width all : ℕ) (cs : List ℕ) → at < length cs → c ≡ get_or cs at c
    → width ≡ width_in encoding c → 8 * width ≤ left → at + front_count encoding left (drop at cs) ≡ all
    → at + 1 + front_count encoding (left - 8 * width) (drop (at + 1) cs) ≡ all
further encoding left at c width all cs within here is fits so_far =
    let same : 8 * width_in encoding c ≤ left = omega (arith, is, fits) in
    let step = ap (front_count encoding left) (left_at cs at c within here) ∙ one_fits encoding left c (drop (at + 1) cs) same in
    let narrower : front_count encoding (left - 8 * width) (drop (at + 1) cs) ≡ front_count encoding (left - 8 * width_in encoding c) (drop (at + 1) cs) =
    ap (λ w. front_count encoding (left - 8 * w) (drop (at + 1) cs)) is in
    omega (arith, step, narrower, so_far)

-- it doesn't
pub stops : (encoding : Encoding) (left at c width all : ℕ) (cs : List ℕ) → at < length cs → c ≡ get_or cs at c
    → width ≡ width_in encoding c → left < 8 * width → at + front_count encoding left (drop at cs) ≡ all → at ≡ all
stops encoding left at c width all cs within here is wide so_far =
    let same : left < 8 * width_in encoding c = omega (arith, is, wide) in
    let step = ap (front_count encoding left) (left_at cs at c within here) ∙ none_fits encoding left c (drop (at + 1) cs) same in
    omega (arith, step, so_far)

-- no character is left
pub ended : (encoding : Encoding) (left at all : ℕ) (cs : List ℕ) → at ≡ length cs → at + front_count encoding left (drop at cs) ≡ all
    → length cs ≡ all
ended encoding left at all cs done so_far =
    let step = ap (front_count encoding left) (drop_all at cs (omega arith)) ∙ none_left encoding left in
    omega (arith, step, so_far)
