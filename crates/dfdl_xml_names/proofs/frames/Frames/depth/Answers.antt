use Rattle.std.specs.Prelude.{length}
use Rattle.std.proofs.Common.{sym, ap, ◌∙◌}
use Rattle.dfdl_xml_names.proofs.Opened.{frames_length}
use Rattle.dfdl_xml_names.proofs.frames.Frames.depth.Goals as goal

pub returns : goal.returns
returns c = c.len.ensures ∙ (c.self.inside.elements.ok.0 ∙ (sym (frames_length c.self.inside.elements.items) ∙ ap length c.self.view_is))
