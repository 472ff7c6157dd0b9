use Rattle.std.proofs.Common.{ap, ◌∙◌, take, ◌-◌, sym}
use Rattle.dfdl_documents.specs.Locations.{resolved}
use Rattle.dfdl_documents.specs.Shown.{texts}
use Rattle.dfdl_documents.proofs.Segments.{folder_followed}
use Rattle.dfdl_documents.proofs.locations.folder_of.Goals as goal

pub returns : goal.returns
returns c =
    folder_followed c.deref.result.now c.args.name.now (texts c.follow_all.new.segments.items) c.saturating_sub.result
    (ap texts c.deref.ensures.value ∙ c.in_ok-all.ensures)
    (c.saturating_sub.ensures ∙ ap (λ n. n - 1) (c.len.ensures ∙ sym c.deref.ensures.len))
    (c.in_ok-follow_all.ensures ∙ ap (λ l. resolved l (texts (take c.saturating_sub.result c.deref.result.now))) (ap texts c.new-folder.ensures.items))
