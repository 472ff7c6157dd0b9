use Rattle.std.proofs.Common.{◌<◌, suc, length, get_or, arith}
use Rattle.std.proofs.lemmas.List.Elements.{All-from_get_or}
use Rattle.dfdl_order.specs.Parts.{uses_of}
use Rattle.dfdl_order.proofs.Leads.{leads_more}
use Rattle.dfdl_order.proofs.recursive.put_new.Goals as goal

pub put_one-requires-clause-next : goal.put_one-requires-clause-next
put_one-requires-clause-next c =
    let next = c.requires.next c.loop-part.part-index 0 c.loop-part-test.true in
    leads_more (uses_of c.args.uses.now) (suc (length c.args.reached.now.list)) (suc (length c.loop-part.reached.list)) c.args.from
    (get_or c.args.parts.now c.loop-part.part-index 0) (omega (arith, c.loop-part.invariant.keeps.longer)) next.1

pub returns-clause-all : goal.returns-clause-all
returns-clause-all c = All-from_get_or (λ p. get_or c.loop-part.reached.rank p 0 < length c.args.uses.now) c.args.parts.now 0
    (λ j small. c.loop-part.invariant.all j (omega (arith, small, c.loop-part-test.false)))
