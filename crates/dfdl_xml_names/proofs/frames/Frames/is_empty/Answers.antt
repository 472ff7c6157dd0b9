use Rattle.std.specs.Prelude.{length, ◌==◌}
use Rattle.std.proofs.Common.{sym, ap, ◌∙◌}
use Rattle.dfdl_xml_names.proofs.Opened.{frames_length}
use Rattle.dfdl_xml_names.proofs.frames.Frames.is_empty.Goals as goal

pub returns : goal.returns
returns c = c.is_empty.ensures ∙ ap (λ n. n == 0) (c.self.inside.elements.ok.0 ∙ (sym (frames_length c.self.inside.elements.items) ∙ ap length c.self.view_is))
