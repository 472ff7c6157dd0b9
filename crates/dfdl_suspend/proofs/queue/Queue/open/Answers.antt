use Rattle.std.proofs.Common.{ap, length, arith}
use Rattle.dfdl_suspend.proofs.Waking.{empty_queue}
use Rattle.dfdl_suspend.proofs.queue.Queue.open.Goals as goal

pub invariant_of-result : goal.invariant_of-result
invariant_of-result c = (
  empty_queue _ _ _ _ c.in_ok-with_capacity.ensures.items c.in_ok-with_capacity-2.ensures.items c.in_ok-with_capacity-3.ensures.items c.in_ok-with_capacity-4.ensures.items,
  record {
    within = let none = ap (λ xs. length xs) c.in_ok-with_capacity.ensures.items in omega arith;
    marks_fit = omega (arith, c.in_ok-with_capacity.ensures.exact);
    ready_fit = omega (arith, c.in_ok-with_capacity-2.ensures.exact);
    first_fit = omega (arith, c.in_ok-with_capacity-3.ensures.exact);
    next_fit = omega (arith, c.in_ok-with_capacity-4.ensures.exact);
  },
)
