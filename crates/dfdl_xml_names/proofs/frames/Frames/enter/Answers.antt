use Rattle.std.specs.Prelude.{[]}
use Rattle.std.proofs.Common.{ap, ◌∙◌}
use Rattle.dfdl_markup.specs.Values.{bindings_of}
use Rattle.dfdl_xml_names.specs.Opened.{frames_on}
use Rattle.dfdl_xml_names.proofs.Opened.{entered}
use Rattle.dfdl_xml_names.proofs.frames.Frames.enter.Goals as goal

pub returns : goal.returns
returns c =
    ap (frames_on []) c.in_ok-push.ensures.items
    ∙ entered c.args.self.now c.self.inside.elements.items _ c.args.tag.now.name (bindings_of c.args.tag.now.attributes)
    c.self.view_is
    (c.in_ok-copy.ensures ∙ c.name-2.ensures)
    c.in_ok-declared.ensures
