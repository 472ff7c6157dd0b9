use Rattle.std.proofs.Common.{◌≡◌, ℕ, ◌∙◌, List, [], ◌∷◌, length, refl}
use Rattle.dfdl_splice.specs.Splicing.{one_if_any}
use Rattle.dfdl_splice.proofs.buffer.Buffer.any.Goals as goal

some_is : (bits : List ℕ) → (length bits ≡ 0 → ⊥) → 1 ≡ one_if_any bits
some_is [] e = absurd (e refl)
some_is (b ∷ bits) e = refl

pub returns : goal.returns
returns c = some_is c.args.self.now.bits (λ e. c.if-len-eq0.false (c.len.ensures.len ∙ e))
