-- What begins a word.
use Rattle.std.proofs.Common.{◌≡◌, ℕ, ◌==◌, ◌&&◌, eqb, List, [], ◌∷◌, refl, ap}
use Rattle.std.specs.List.{starts_with}
use Rattle.dfdl_markup.specs.Machine.{begins}

pub starts-begins : (text word : List ℕ) → starts_with eqb word text ≡ begins text word
starts-begins [] word = refl
starts-begins (c ∷ text) [] = refl
starts-begins (c ∷ text) (d ∷ word) = ap (λ b. (c == d) && b) (starts-begins text word)
