use Rattle.std.proofs.Common.{◌≡◌, map, take}
use Rattle.dfdl_forms.specs.declared.literals.Piece.TheVariants.{Char}
use Rattle.dfdl_literals.proofs.plain.plain_texts.Given as goal

abbrev pub invariant-loop-at : goal.invariant-loop-at
invariant-loop-at l = map (map Char) (map (λ v. v.items) l.texts.items) ≡ take l.at l.literals
