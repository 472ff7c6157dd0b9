use Rattle.dfdl_value.proofs.ReadBack.{kind_back}
use Rattle.dfdl_value.proofs.laws.text_is_read_back.Goals as goal

pub returns-in_default : goal.returns-in_default
returns-in_default c = kind_back c.args.kind c.args.value.now c.requires c.in_default.not-Bytes
