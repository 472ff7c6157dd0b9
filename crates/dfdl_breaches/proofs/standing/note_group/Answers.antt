use Rattle.std.proofs.Common.{◌∙◌, get_or}
use Rattle.dfdl_checks.specs.Places.{nowhere}
use Rattle.dfdl_breaches.proofs.Standings.{group_noted}
use Rattle.dfdl_breaches.proofs.standing.note_group.Goals as goal

pub returns-clause-noted : goal.returns-clause-noted
returns-clause-noted c = λ e.
    group_noted c.args.schema.now c.args.site c.in_ok-asking.asking c.as_slice-branches.result.now (get_or c.args.standings.now.items e nowhere)
    (get_or c.note_parts.new.standings.items e nowhere) (get_or c.note_branches_if.new.standings.items e nowhere) e
    (c.as_slice-branches.ensures.value ∙ c.in_ok-parts_at.ensures.parts) c.in_ok-asking.ensures.last c.in_ok-asking.ensures.others c.in_ok-asking.ensures.keyed
    (c.note_parts.ensures.noted e) (c.in_ok-note_branches_if.ensures.noted e)
