use Rattle.dfdl_looks.proofs.Sequels.{ask-then, and_then-from}
use Rattle.dfdl_looks.proofs.laws.programs_go_on.Goals as goal

pub returns-clause-read : goal.returns-clause-read
returns-clause-read c look program go t = ask-then look go program t

pub returns-clause-begin : goal.returns-clause-begin
returns-clause-begin c low program go first then = and_then-from low program go first then
