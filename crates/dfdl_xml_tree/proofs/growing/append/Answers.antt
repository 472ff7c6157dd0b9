use Rattle.std.proofs.Common.{◌≡◌, ℕ, List, map, get_or, ap, sym, ◌∙◌}
use Rattle.std.proofs.Math.ListN.{get_or-map, set, length-map}
use Rattle.std.proofs.lemmas.List.{map-set}
use Rattle.dfdl_markup.specs.Trees.{Node}
use Rattle.dfdl_markup.specs.Building.{with_more_text}
use Rattle.dfdl_xml_tree.specs.Shown.{node_of, more_text}
use Rattle.dfdl_xml_tree.specs.Held.{held_of}
use Rattle.dfdl_xml_tree.proofs.Grows.{set_changed}
use Rattle.dfdl_xml_names.specs.Shown.{name_of, attribute_of}
use Rattle.dfdl_xml_tree.proofs.growing.append.Goals as goal

pub returns-clause-nodes : goal.returns-clause-nodes
returns-clause-nodes c =
    let items = c.args.elements.now.items in
    let p = c.args.element in
    let old = c.index_mut-found.result.now in
    let is : get_or (map node_of items) p (node_of old) ≡ node_of old =
    get_or-map node_of items p old ∙ ap node_of (sym c.index_mut-found.ensures.value) in
    map-set node_of items p _
    ∙ (ap (λ (text : List ℕ). set (map node_of items) p (record { name = name_of old.name; attributes = map attribute_of old.attributes.items; parent = old.parent; children = old.children.items; text = text; at = old.at })) c.in_ok-push_more.ensures
    ∙ (ap (λ (n : Node). set (map node_of items) p (with_more_text (more_text (held_of c.args.held) c.args.more) n)) (sym is) ∙ set_changed (with_more_text (more_text (held_of c.args.held) c.args.more)) p _ _ (rw length-map c.requires)))
