use Rattle.dfdl_json.proofs.Linked.{on_ok}
use Rattle.dfdl_json.proofs.Whole.{root_written}
use Rattle.dfdl_json.proofs.Writes.{wrote}
use Rattle.dfdl_json.proofs.lines.write_infoset.Goals as goal

pub returns : goal.returns
returns c =
    let infoset = c.in_ok-infoset.infoset in
    on_ok c.end_object-2.result c.end_object-2.ensures.ok
    (λ tokens. root_written infoset c.args.terms.now c.args.text.now c.args.nodes.now c.root-item.result c.name_of.result.now
    c.args.out.now c.begin_object-2.new.self c.key.new.self c.write_element.new.out c.end_object-2.new.self
    c.in_ok-infoset.ensures.terms c.in_ok-infoset.ensures.nodes c.in_ok-infoset.ensures.text c.in-len1-up.len_at_least c.root-item.is c.name_of.ensures
    (wrote _ _ _ c.in_ok-begin_object-2.ensures) (wrote _ _ _ c.in_ok-key.ensures) c.in_ok-write_element.ensures
    (record { before = c.end_object-2.ensures.room.0; tokens = tokens }))
