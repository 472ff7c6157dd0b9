use Rattle.std.proofs.Common.{◌∙◌}
use Rattle.dfdl_packed.proofs.SizeLemmas.{zero_test}
use Rattle.dfdl_packed.proofs.size.Size.is_zero.Goals as goal

pub returns : goal.returns
returns c = λ n shows. c.eq.ensures ∙ zero_test c.args.self n shows
