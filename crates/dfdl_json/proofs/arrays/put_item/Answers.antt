use Rattle.std.proofs.Common.{◌∙◌, sym, ap}
use Rattle.std.specs.Option.{option_copied_mut}
use Rattle.serde_json.specs.View.{view}
use Rattle.dfdl_json.proofs.Declares.{on_ok}
use Rattle.dfdl_json.proofs.Turned.{item_put, first_put}
use Rattle.dfdl_json.proofs.arrays.put_item.Goals as goal

pub returns-in-Some : goal.returns-in-Some
returns-in-Some c =
    let lent = c.get_mut.follows.holds c.push_item.new.held in
    on_ok c.push_item.result _ _ c.push_item.ensures
    (λ ends. item_put c.args.name.now c.args.object.now.entries _ c.in-Some.held.now c.push_item.new.held (view c.args.value) c.get_mut.ensures.ordered
    (sym c.get_mut.ensures.value ∙ ap option_copied_mut c.in-Some.is) lent.0 ends)

pub returns-in_ok-first-in-None : goal.returns-in_ok-first-in-None
returns-in_ok-first-in-None c =
    on_ok c.put.result _ _ c.put.ensures.ok
    (λ puts. first_put c.args.name.now c.args.object.now.entries _ c.put.new.map.entries c.in_ok-first-in-None.first (view c.args.value)
    (sym c.get_mut.ensures.value ∙ ap option_copied_mut c.in-None.is) (ap (λ m. m.entries) c.get_mut.follows.holds-at-none) c.in_ok-first-in-None.ensures puts)
