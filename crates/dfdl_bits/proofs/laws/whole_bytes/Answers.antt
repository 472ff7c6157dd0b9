use Rattle.dfdl_bits.proofs.Numbers.{number_of-none}
use Rattle.dfdl_bits.proofs.Whole.{big_first, little_first}
use Rattle.dfdl_bits.proofs.laws.whole_bytes.Goals as goal

pub returns-clause-none : goal.returns-clause-none
returns-clause-none c = number_of-none

pub returns-clause-big : goal.returns-clause-big
returns-clause-big c = big_first

pub returns-clause-little : goal.returns-clause-little
returns-clause-little c = little_first
