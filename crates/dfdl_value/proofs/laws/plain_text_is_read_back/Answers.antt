use Rattle.std.proofs.Common.{subst}
use Rattle.dfdl_value.specs.Types.{IsPlain}
use Rattle.dfdl_value.proofs.ReadBack.{kind_back}
use Rattle.dfdl_value.proofs.laws.plain_text_is_read_back.Goals as goal

pub returns : goal.returns
returns c = λ kind value plain typed. kind_back kind value typed (λ bytes is. subst IsPlain is plain)
