use Rattle.std.proofs.Common.{◌≡◌, length, ap, sym, ◌∙◌, arith}
use Rattle.dfdl_xml_tree.specs.Shown.{node_of}
use Rattle.std.specs.Str.{chars}
use Rattle.std.proofs.Math.ListN.{length-map}
use Rattle.dfdl_markup.specs.Building.{Built, with_more_text}
use Rattle.dfdl_xml_tree.proofs.Grows.{kept_if_none}
use Rattle.dfdl_xml_tree.proofs.growing.Growing.append_text.Goals as goal

pub returns-else-element-len : goal.returns-else-element-len
returns-else-element-len c =
    let seen : length c.args.self.now.nodes ≡ length c.self.inside.elements.items =
    sym (ap (λ (b : Built). length b.nodes) c.self.view_is)
    ∙ length-map c.self.inside.elements.items node_of in
    kept_if_none (with_more_text (chars c.args.text.now)) c.in-Some.element
    c.args.self.now (sym c.innermost.ensures ∙ c.in-Some.is)
    (omega (arith, seen, c.len.ensures, c.if-element-len.false))
