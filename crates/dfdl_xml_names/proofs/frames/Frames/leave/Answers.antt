use Rattle.std.specs.Prelude.{drop, take, ◌-◌, []}
use Rattle.std.proofs.Common.{ap, ◌∙◌}
use Rattle.dfdl_xml_names.specs.Opened.{frames_on}
use Rattle.dfdl_xml_names.proofs.Opened.{left_frames}
use Rattle.dfdl_xml_names.proofs.frames.Frames.leave.Goals as goal

pub returns : goal.returns
returns c =
    let items = c.self.inside.elements.items in
    ap (frames_on []) (c.pop.ensures.rest ∙ ap (λ n. take (n - 1) items) c.self.inside.elements.ok.0)
    ∙ (left_frames items ∙ ap (drop 1) c.self.view_is)
