use Rattle.std.proofs.Common.{[], sym, subst}
use Rattle.dfdl_delims.specs.Firsts.{AreFirsts}
use Rattle.dfdl_delims.proofs.Fills.{opened}
use Rattle.dfdl_delims.proofs.markup.Markup.open.Goals as goal

pub returns-clause-holds : goal.returns-clause-holds
returns-clause-holds c = record {
  flat = opened c.in_ok-with_capacity.field-0.items c.in_ok-with_capacity-2.field-0.items c.in_ok-with_capacity-3.field-0.items
      c.in_ok-with_capacity.ensures.items c.in_ok-with_capacity-2.ensures.items c.in_ok-with_capacity-3.ensures.items;
  firsts = subst (AreFirsts []) (sym c.in_ok-with_capacity-4.ensures.items) tt;
}
