use Rattle.std.proofs.Common.{rules, ◌∙◌, ap, arith, ◌≡◌, ◌+◌, ◌*◌, List, length}
use Rattle.dfdl_vars.specs.declared.instances.Instance.{Instance}
use Rattle.dfdl_vars.specs.Kept.{all_given}
use Rattle.dfdl_vars.proofs.Rooms.{carried, sound_opened, length_opened}
use Rattle.dfdl_vars.proofs.vars.Vars.open.Goals as goal

pub invariant_of-result : goal.invariant_of-result
invariant_of-result c =
    let definitions = c.args.definitions.now in
    let given = c.args.given.now in
    let is = c.in_ok-give.ensures.items ∙ ap (λ (l : List Instance). all_given given l) c.in_ok-define.ensures.items in
    let many : length c.give.new.instances.items ≡ length definitions = ap length is ∙ length_opened definitions given in
    let room : c.in-Some.room ≡ length definitions + c.args.deep = search rules in
    let twice : c.in-Some-checked_mul.twice ≡ 2 * (length definitions + c.args.deep) = search rules in
    record {
      whole = omega (arith, many);
      few = omega (arith, many);
      room = omega (arith, room, c.in_ok-instances.ensures.exact, c.in_ok-define.ensures.room, c.in_ok-give.ensures.room);
      twice = omega (arith, twice, c.in_ok-changes.ensures.exact);
      sound = carried _ _ _ _ is c.in_ok-changes.ensures.items (sound_opened definitions given);
    }
