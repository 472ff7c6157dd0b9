use Rattle.dfdl_json.proofs.Turned.{array_turned}
use Rattle.dfdl_json.proofs.arrays.turned.Goals as goal

pub returns-in-Array : goal.returns-in-Array
returns-in-Array c = array_turned c.args.value c.in-Array.items c.reverse.new.self c.in-Array.is c.reverse.ensures.items
