use Rattle.std.proofs.Common.{ℕ, length, vec_len, ap, arith}
use Rattle.std.specs.Vec.Iter.{into_iter_items, into_iter_len}
use Rattle.dfdl_statements.proofs.Made.{begun, ended, kinds_begun, kinds_ended, kinds_more, none_left, one_fault, one_more, placed}
use Rattle.dfdl_statements.proofs.settling.made.Goals as goal

pub loop-one-init : goal.loop-one-init
loop-one-init c =
    let front = c.into_iter-one-iterator.ensures.into_iter_gives.0 in
    record {
      whole = λ rows read reads same.
          begun read c.args.sight.now rows c.args.written.items c.new-statements.result.items (into_iter_items c.into_iter-one-iterator.result) (vec_len c.new-statements.result)
          c.new-statements.ensures.items front c.new-statements.ensures.len;
      kinds = λ others zip. kinds_begun c.new-statements.result.items c.args.written.items (into_iter_items c.into_iter-one-iterator.result) others c.new-statements.ensures.items front zip;
      many = omega (arith, c.into_iter-one-iterator.ensures.into_iter_gives.1, ap length front, c.args.written.ok.0);
    }

pub loop-one-preserved : goal.loop-one-preserved
loop-one-preserved c =
    let front = c.in-Some.ensures.steps.0 in
    record {
      whole = λ rows read reads same.
          one_more read c.args.sight.now rows c.args.written.items c.loop-one.statements.items c.push.new.statements.items (vec_len c.loop-one.statements) (vec_len c.push.new.statements)
          c.in-Some.one (into_iter_items c.next.new.self) (into_iter_items c.loop-one.one-iterator) c.in-Ok.statement c.place_of-place.result _
          (c.loop-one.invariant.whole rows read reads same) front
          (placed rows c.args.written.items c.args.places.now c.place_of-place.result c.len-number.result (vec_len c.loop-one.statements) same c.place_of-place.ensures c.len-number.ensures)
          (c.in-Ok.ensures.answer read reads) c.in_ok-push-in-Ok.ensures.items c.in_ok-push-in-Ok.ensures.many;
      kinds = λ others zip.
          kinds_more c.loop-one.statements.items c.push.new.statements.items c.args.written.items (into_iter_items c.next.new.self) (into_iter_items c.loop-one.one-iterator) others
          c.in-Some.one c.in-Ok.statement front c.in_ok-push-in-Ok.ensures.items c.in-Ok.ensures.kind zip c.loop-one.invariant.kinds;
      many = omega (arith, c.in-Some.ensures.steps.1, ap length front, c.loop-one.invariant.many);
    }

pub returns-in-Err-clause-answer : goal.returns-in-Err-clause-answer
returns-in-Err-clause-answer c = λ rows read reads same.
    one_fault read c.args.sight.now rows c.args.written.items ℕ c.loop-one.statements.items (vec_len c.loop-one.statements) c.in-Some.one
    (into_iter_items c.next.new.self) (into_iter_items c.loop-one.one-iterator) c.place_of-place.result c.in-Err.fault _
    (c.loop-one.invariant.whole rows read reads same) c.in-Some.ensures.steps.0
    (placed rows c.args.written.items c.args.places.now c.place_of-place.result c.len-number.result (vec_len c.loop-one.statements) same c.place_of-place.ensures c.len-number.ensures)
    (c.in-Err.ensures.answer read reads)

pub returns-clause-answer : goal.returns-clause-answer
returns-clause-answer c = λ rows read reads same.
    ended read c.args.sight.now rows c.args.written.items c.loop-one.statements.items (vec_len c.loop-one.statements) (into_iter_items c.loop-one.one-iterator) _
    (c.loop-one.invariant.whole rows read reads same)
    (none_left (into_iter_items c.loop-one.one-iterator) (into_iter_len c.loop-one.one-iterator) c.in-None.ensures.steps.0 c.loop-one.invariant.many)

pub returns-clause-made : goal.returns-clause-made
returns-clause-made c =
    kinds_ended c.loop-one.statements.items c.args.written.items (into_iter_items c.loop-one.one-iterator)
    (none_left (into_iter_items c.loop-one.one-iterator) (into_iter_len c.loop-one.one-iterator) c.in-None.ensures.steps.0 c.loop-one.invariant.many)
    c.loop-one.invariant.kinds
