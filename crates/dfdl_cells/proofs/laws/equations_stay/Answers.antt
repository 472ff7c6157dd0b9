use Rattle.dfdl_cells.specs.Staying.{equation_stays}
use Rattle.dfdl_cells.proofs.laws.equations_stay.Goals as goal

pub returns : goal.returns
returns c = λ plan old new grows settled slots cell one is told. equation_stays old new grows settled slots plan cell one is told
