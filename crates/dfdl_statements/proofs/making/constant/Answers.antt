use Rattle.dfdl_value.specs.ReadValues.{reading_of}
use Rattle.dfdl_statements.proofs.Constants.{no_value_gives, value_gives}
use Rattle.dfdl_statements.proofs.making.constant.Goals as goal

pub returns-in-Ok : goal.returns-in-Ok
returns-in-Ok c = value_gives (reading_of c.args.kind c.args.text.now) c.in-Ok.value _ c.in-Ok.ensures.value c.constant_of.ensures

pub returns-in-Err : goal.returns-in-Err
returns-in-Err c = no_value_gives (reading_of c.args.kind c.args.text.now) c.in-Err.fault _ c.in-Err.ensures.not_a_value c.in-Err.ensures.past_type c.unread.ensures
