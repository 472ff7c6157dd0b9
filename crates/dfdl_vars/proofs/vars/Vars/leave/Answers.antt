use Rattle.std.proofs.Common.{rules, ◌∙◌, ap, arith, subst, sym, ◌≡◌, ◌<◌, ◌≤◌, ◌-◌, suc, length}
use Rattle.dfdl_vars.specs.Kept.{Kept}
use Rattle.dfdl_vars.proofs.Backs.{length_take_le}
use Rattle.dfdl_vars.proofs.Rooms.{carried}
use Rattle.dfdl_vars.proofs.Sound.{sound_left}
use Rattle.dfdl_vars.proofs.vars.Vars.leave.Goals as goal

pub invariant_of-self : goal.invariant_of-self
invariant_of-self c =
    let old = c.self.inside.instances.items in
    let held = c.self.invariant in
    let last = c.len-last.result - 1 in
    let len : c.len-last.result ≡ length old = search rules in
    let some : c.self.inside.globals < length old = subst (λ (k : Kept). k.globals < length k.instances) (sym c.self.view_is) c.requires in
    let within : last ≤ length old = omega (arith, len) in
    let many : length c.truncate.new.self.items ≡ last = ap length c.truncate.ensures.items ∙ length_take_le last old within in
    let behind : length old ≤ suc last = omega (arith, len, some) in
    record {
      whole = omega (arith, many, len, some);
      few = omega (arith, many, len, held.few);
      room = omega (arith, held.room, c.truncate.ensures.capacity);
      twice = omega (arith, held.twice, c.forget.ensures.capacity);
      sound = carried _ _ _ _ c.truncate.ensures.items c.forget.ensures.items (sound_left old c.self.inside.changes.items last held.sound behind);
    }
