use Rattle.std.proofs.Common.{rules, ◌∙◌, ap, subst, sym, refl, arith, ◌≡◌, ◌≤◌, ℕ, List, length, take, drop}
use Rattle.std.proofs.lemmas.Bool.Decides.{nat_tests}
use Rattle.dfdl_vars.specs.declared.instances.Change.{Change}
use Rattle.dfdl_vars.specs.declared.instances.VarMark.{VarMark}
use Rattle.dfdl_vars.specs.Instances.{cleared}
use Rattle.dfdl_vars.specs.Marks.{gone_back, of_first}
use Rattle.dfdl_vars.proofs.Gone.{length_gone, sound_back, sound_kept, marks_lead_back}
use Rattle.dfdl_vars.proofs.Rooms.{carried, kept_same}
use Rattle.dfdl_vars.proofs.vars.Vars.undo_to.Goals as goal

pub forget_behind-requires : goal.forget_behind-requires
forget_behind-requires c = λ e.
    let len : c.len.result ≡ length c.self.inside.instances.items = search rules in
    let few : length c.self.inside.instances.items ≤ c.max-count.result = grind (arith, nat_tests, e, len) in
    subst (λ (l : List Change). of_first c.max-count.result l ≡ l) (sym c.go_back.ensures.changes)
    (sound_kept c.max-count.result c.args.mark.changes c.self.inside.instances.items c.self.inside.changes.items c.self.invariant.sound few)

pub invariant_of-self : goal.invariant_of-self
invariant_of-self c =
    let count = c.max-count.result in
    let changed = c.args.mark.changes in
    let old = c.self.inside.instances.items in
    let changes = c.self.inside.changes.items in
    let held = c.self.invariant in
    let is = c.go_back.ensures.instances ∙ ap (cleared (drop changed changes)) c.truncate.ensures.items in
    let cs = c.forget_behind.ensures.items ∙ ap (of_first count) c.go_back.ensures.changes in
    let greatest = c.max-count.ensures in
    let bounds = length_gone count changed old changes c.self.inside.globals held.whole (omega (arith, greatest)) in
    let many : length c.go_back.new.instances.items ≡ length (cleared (drop changed changes) (take count old)) = ap length is in
    record {
      whole = omega (arith, many, bounds);
      few = omega (arith, many, bounds, held.few);
      room = omega (arith, held.room, c.truncate.ensures.capacity, c.go_back.ensures.room);
      twice = omega (arith, held.twice, c.go_back.ensures.room_too, c.forget_behind.ensures.capacity);
      sound = carried _ _ _ _ is cs (sound_back count changed old changes held.sound);
    }

pub returns-clause-back : goal.returns-clause-back
returns-clause-back c = λ base way e.
    let changed = c.args.mark.changes in
    let old = c.self.inside.instances.items in
    let changes = c.self.inside.changes.items in
    let greatest = c.max-count.ensures in
    kept_same _ _ _ _ _ _ _ _
    (c.go_back.ensures.instances ∙ (ap (cleared (drop changed changes)) c.truncate.ensures.items
    ∙ ap (λ (n : ℕ). cleared (drop changed changes) (take n old)) greatest))
    (c.forget_behind.ensures.items ∙ (ap (of_first c.max-count.result) c.go_back.ensures.changes
    ∙ ap (λ (n : ℕ). of_first n (take changed changes)) greatest))
    refl refl
    ∙ (ap (gone_back c.args.mark) c.self.view_is
    ∙ (ap (λ (m : VarMark). gone_back m c.args.self.now) e ∙ marks_lead_back base c.args.self.now way))
