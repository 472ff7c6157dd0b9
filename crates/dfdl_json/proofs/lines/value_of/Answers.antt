use Rattle.std.proofs.Common.{◌≡◌, ◌∙◌, ap, rules}
use Rattle.serde_json.specs.Data.{no_members, put}
use Rattle.serde_json.specs.View.{view}
use Rattle.serde_json.proofs.Views.{view-Object}
use Rattle.dfdl_json.specs.Inside.{shown}
use Rattle.dfdl_json.proofs.Inner.{whole_is}
use Rattle.dfdl_json.proofs.lines.value_of.Goals as goal

pub returns : goal.returns
returns c =
    let none : shown c.new-whole.result ≡ no_members = search rules in
    view-Object c.put.new.map
    ∙ whole_is c.args.terms.now c.args.nodes.now c.args.text.now c.root-item.result (shown c.in_ok-members.members) (shown c.put.new.map) c.name_of.result.now
    (view c.in_ok-value.value) c.in-len1-up.len_at_least c.root-item.is c.in_ok-members.ensures c.in_ok-value.ensures c.name_of.ensures
    (c.in_ok-put.ensures.ok ∙ ap (λ m. put c.name_of.result.now (view c.in_ok-value.value) m) none)
