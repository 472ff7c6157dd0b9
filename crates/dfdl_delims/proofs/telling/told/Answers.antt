use Rattle.std.proofs.Common.{◌∷◌, sym, subst}
use Rattle.dfdl_delims.specs.Verdicts.{StandAt}
use Rattle.dfdl_delims.proofs.Tellings.{stands_behind}
use Rattle.dfdl_delims.proofs.telling.told.Goals as goal

pub returns : goal.returns
returns c = λ place is_text stands.
    let behind = stands_behind c.args.pieces.now c.args.begins.now c.advance.new.into.items c.args.byte c.in_ok-advance.ensures.dead
    c.in_ok-advance.ensures.completes place is_text stands in
    record {
      alone_is = c.some_whole.ensures place (λ rest. is_text (c.args.byte ∷ rest))
          (subst (λ l. StandAt c.args.pieces.now l place (λ rest. is_text (c.args.byte ∷ rest))) (sym c.deref.ensures.value) behind);
      none = c.some_longer.ensures.none place (λ rest. is_text (c.args.byte ∷ rest))
          (subst (λ l. StandAt c.args.pieces.now l place (λ rest. is_text (c.args.byte ∷ rest))) (sym c.deref-2.ensures.value) behind);
    }
