use Rattle.std.proofs.Common.{chars}
use Rattle.dfdl_literals.proofs.ReadingLaws.{spelled_reading}
use Rattle.dfdl_literals.proofs.read_any.Goals as goal

pub returns-in-Ok-clause-reading : goal.returns-in-Ok-clause-reading
returns-in-Ok-clause-reading c =
    rw c.in-Ok.ensures (spelled_reading c.args.empty_allowed (chars c.args.text.now) _ c.in_ok-scan.ensures.found.spells)
