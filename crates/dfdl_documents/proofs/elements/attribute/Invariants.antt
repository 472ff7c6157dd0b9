use Rattle.std.proofs.Common.{◌≡◌, drop}
use Rattle.dfdl_markup.specs.Trees.{node_at}
use Rattle.dfdl_documents.specs.References.{is_plain_attribute, value_among}
use Rattle.dfdl_documents.proofs.elements.attribute.Given as goal

-- the attributes that are left give the same answer as all
abbrev pub invariant-loop-at : goal.invariant-loop-at
invariant-loop-at l =
    let attributes = (node_at l.tree l.element).attributes in
    let is_one = is_plain_attribute l.tree l.element l.name in
    value_among is_one attributes ≡ value_among is_one (drop l.at attributes)
