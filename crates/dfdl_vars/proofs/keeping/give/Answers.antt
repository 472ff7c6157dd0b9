use Rattle.std.proofs.Common.{◌∙◌, ap, arith, List, drop, ◌+◌}
use Rattle.dfdl_vars.specs.declared.instances.Instance.{Instance}
use Rattle.dfdl_vars.specs.Kept.{all_given}
use Rattle.dfdl_vars.proofs.Rooms.{given_more}
use Rattle.dfdl_vars.proofs.keeping.give.Goals as goal

pub giving-preserved : goal.giving-preserved
giving-preserved c = record {
  rest = ap (λ (l : List Instance). all_given (drop (c.giving.at + 1) c.args.given.now) l) c.in_ok-give_one.ensures.items
      ∙ (given_more c.args.given.now c.giving.at c.pair-pair.result.now c.giving.instances.items c.pair-pair.ensures ∙ c.giving.invariant.rest);
  room = omega (arith, c.giving.invariant.room, c.in_ok-give_one.ensures.room);
}
