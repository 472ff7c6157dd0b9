use Rattle.std.proofs.Common.{◌≡◌, length, ap, sym, ◌∙◌, arith}
use Rattle.std.proofs.Math.ListN.{length-map}
use Rattle.dfdl_markup.specs.Building.{Built, with_child}
use Rattle.dfdl_xml_tree.specs.Shown.{node_of}
use Rattle.dfdl_xml_tree.proofs.Grows.{kept_if_none}
use Rattle.dfdl_xml_tree.proofs.growing.Growing.adopt.Goals as goal

pub returns-else-element-len-clause-adopted : goal.returns-else-element-len-clause-adopted
returns-else-element-len-clause-adopted c =
    let seen : length c.args.self.now.nodes ≡ length c.self.inside.elements.items =
    sym (ap (λ (b : Built). length b.nodes) c.self.view_is)
    ∙ length-map c.self.inside.elements.items node_of in
    kept_if_none (with_child c.args.child) c.in-Some.element
    c.args.self.now (sym c.innermost.ensures ∙ c.in-Some.is)
    (omega (arith, seen, c.len.ensures, c.if-element-len.false))
