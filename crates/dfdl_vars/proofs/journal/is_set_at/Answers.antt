use Rattle.std.proofs.Common.{rules, ◌≡◌, ◌∙◌, ap, is_some}
use Rattle.dfdl_vars.specs.declared.instances.Instance.{Instance}
use Rattle.dfdl_vars.specs.Instances.{is_set}
use Rattle.dfdl_vars.proofs.Placed.{has_place}
use Rattle.dfdl_vars.proofs.journal.is_set_at.Goals as goal

pub returns : goal.returns
returns c =
    let item = c.index-instances-place.result in
    let told : c.is_some.result ≡ is_some item.setting = search rules in
    told ∙ (ap (λ (i : Instance). is_set i) c.index-instances-place.is ∙ has_place is_set c.args.instances.now c.args.place item c.requires)
