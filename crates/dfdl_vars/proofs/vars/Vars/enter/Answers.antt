use Rattle.std.proofs.Common.{rules, ◌∙◌, ap, arith, refl, ◌≡◌, ◌+◌, ◌∷◌, [], length}
use Rattle.std.proofs.lemmas.Bool.Decides.{nat_tests}
use Rattle.std.proofs.lemmas.List.{length-append}
use Rattle.dfdl_vars.specs.Kept.{fresh}
use Rattle.dfdl_vars.proofs.Rooms.{carried}
use Rattle.dfdl_vars.proofs.Sound.{sound_entered}
use Rattle.dfdl_vars.proofs.vars.Vars.enter.Goals as goal

pub invariant_of-self : goal.invariant_of-self
invariant_of-self c =
    let old = c.self.inside.instances.items in
    let held = c.self.invariant in
    let len : c.len.result ≡ length old = search rules in
    let more : length c.add_instance.new.instances.items ≡ length old + 1 =
    ap length c.add_instance.ensures.items ∙ length-append old (fresh c.args.var c.args.start ∷ []) in
    record {
      whole = omega (arith, more, held.whole);
      few = grind (arith, nat_tests, more, len, held.few, held.whole, c.if-len-self.false);
      room = omega (arith, held.room, c.add_instance.ensures.capacity);
      twice = held.twice;
      sound = carried _ _ _ _ c.add_instance.ensures.items refl (sound_entered old c.self.inside.changes.items c.args.var c.args.start held.sound);
    }
