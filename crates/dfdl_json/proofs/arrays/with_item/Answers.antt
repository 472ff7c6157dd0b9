use Rattle.dfdl_json.proofs.Turned.{array_ended}
use Rattle.dfdl_json.proofs.arrays.with_item.Goals as goal

pub returns-in-Array : goal.returns-in-Array
returns-in-Array c = array_ended c.args.held c.args.value c.in-Array.items c.push.new.self c.in-Array.is c.in_ok-push-in-Array.ensures.items
