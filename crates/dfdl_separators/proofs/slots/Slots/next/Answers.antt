use Rattle.std.proofs.Common.{◌≡◌, Option, sym, ◌∙◌, ap}
use Rattle.dfdl_separators.specs.Courses.{course, is_verdict}
use Rattle.dfdl_separators.specs.Groups.{here_of, move_by, subject}
use Rattle.dfdl_separators.specs.declared.course.Known.{Known}
use Rattle.dfdl_separators.specs.declared.progress.Progress.{Progress}
use Rattle.dfdl_separators.specs.declared.verdict.SlotRule.{SlotRule}
use Rattle.dfdl_separators.proofs.Settled.{settled}
use Rattle.dfdl_separators.proofs.slots.Slots.next.Goals as goal

pub returns-clause-verdict : goal.returns-clause-verdict
returns-clause-verdict c = λ rule known facts is agrees v.
    let here = here_of c.args.self.now rule in
    let moves : c.move_by-to.result ≡ course here known =
    c.move_by-to.ensures
    ∙ (ap (λ (s : Option (SlotRule × Known)). move_by c.self.inside.group s) c.subject-slot.ensures
    ∙ (ap (λ (g : Progress). move_by g (subject g c.args.seen)) c.self.view_is
    ∙ ap (λ (s : Option (SlotRule × Known)). move_by c.args.self.now s) is))
    in moves ∙ settled here known facts agrees (ap is_verdict (sym moves) ∙ v)
