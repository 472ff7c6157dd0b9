use Rattle.std.proofs.Common.{ap, ◌-◌}
use Rattle.std.proofs.lemmas.List.{drop-take}
use Rattle.dfdl_bits.proofs.window.Window.drop_after.Goals as goal

pub returns : goal.returns
returns c =
    rw (c.truncate.ensures.items, ← c.self.view_is)
    (ap (λ bytes. record { bytes = bytes; base = c.self.inside.base; size = c.self.inside.size; ended = c.self.inside.ended })
    (drop-take c.self.inside.start (c.args.k - c.self.inside.base) c.self.inside.buffer.items))
