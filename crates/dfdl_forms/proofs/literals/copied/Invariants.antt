use Rattle.std.proofs.Common.{◌≡◌, map, take}
use Rattle.dfdl_forms.proofs.literals.copied.Given as goal

abbrev pub invariant-loop-literal : goal.invariant-loop-literal
invariant-loop-literal l = map (λ v. v.items) l.copies.items ≡ map (λ v. v.items) (take l.literal-index l.literals)
