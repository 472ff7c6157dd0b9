-- Where a text is divided at its first colon.
use Rattle.std.proofs.Common.{◌≡◌, ◌≢◌, ℕ, suc, ◌<◌, List, [], ◌∷◌, ◌++◌, length, get_or, Some, None, refl, ap, ◌∙◌, arith}
use Rattle.std.proofs.lemmas.Bool.{cond-false, ne_eqb}
use Rattle.std.specs.Option.{option_map}
use Rattle.dfdl_constructs.specs.Values.{at_colon}

-- no byte is a colon
abbrev Lacks : List ℕ → Type 0
Lacks text = (i : ℕ) → i < length text → get_or text i 0 ≢ 58

tail_lacks : (b : ℕ) (text : List ℕ) → Lacks (b ∷ text) → Lacks text
tail_lacks b text lacks i within = lacks (suc i) (omega (arith, within))

head_lacks : (b : ℕ) (text : List ℕ) → Lacks (b ∷ text) → b ≢ 58
head_lacks b text lacks = lacks 0 (omega arith)

-- a text with a colon, and none before it
at_first : (xs ys : List ℕ) → Lacks xs → at_colon (xs ++ 58 ∷ ys) ≡ Some (xs, ys)
at_first [] ys lacks = refl
at_first (x ∷ xs) ys lacks =
    cond-false _ _ _ (ne_eqb x 58 (head_lacks x xs lacks))
    ∙ ap (option_map (λ parts. (x ∷ parts.0, parts.1))) (at_first xs ys (tail_lacks x xs lacks))

pub divided : (text xs ys : List ℕ) → text ≡ xs ++ (58 ∷ ys) → Lacks xs → at_colon text ≡ Some (xs, ys)
divided text xs ys is lacks = ap at_colon is ∙ at_first xs ys lacks

-- a text without a colon
pub whole : (text : List ℕ) → Lacks text → at_colon text ≡ None
whole [] lacks = refl
whole (b ∷ text) lacks =
    cond-false _ _ _ (ne_eqb b 58 (head_lacks b text lacks))
    ∙ ap (option_map (λ parts. (b ∷ parts.0, parts.1))) (whole text (tail_lacks b text lacks))
