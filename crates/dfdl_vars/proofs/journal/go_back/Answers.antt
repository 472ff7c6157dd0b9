use Rattle.std.proofs.Common.{rules, ◌∙◌, ap, arith, sym, ◌≡◌, ◌≤◌, ◌+◌, List, [], ◌∷◌, length, take, drop}
use Rattle.std.proofs.lemmas.List.{take-append-le, length-append}
use Rattle.dfdl_vars.specs.declared.instances.Change.{Change}
use Rattle.dfdl_vars.specs.Instances.{cleared}
use Rattle.dfdl_vars.proofs.Placed.{back_one}
use Rattle.dfdl_vars.proofs.journal.go_back.Goals as goal

pub back-preserved : goal.back-preserved
back-preserved c =
    let count = c.args.count in
    let rest = c.pop.new.self.items in
    let one = c.in-Some.change ∷ [] in
    let e = c.in-Some.ensures.items in
    let old_len : c.len.result ≡ length c.back.changes.items = search rules in
    let more : length c.back.changes.items ≡ length rest + 1 = ap length e ∙ length-append rest one in
    let few : count ≤ length rest = omega (arith, c.back-test.true, old_len, more) in
    record {
      back = ap (cleared (drop count rest)) c.take_back.ensures.items
          ∙ (sym (back_one count rest c.in-Some.change c.back.instances.items few)
          ∙ (ap (λ (l : List Change). cleared (drop count l) c.back.instances.items) (sym e) ∙ c.back.invariant.back));
      kept = sym (take-append-le count rest one few) ∙ (ap (take count) (sym e) ∙ c.back.invariant.kept);
      room = omega (arith, c.back.invariant.room, c.take_back.ensures.capacity);
      room_too = omega (arith, c.back.invariant.room_too, c.in-Some.ensures.capacity);
    }
