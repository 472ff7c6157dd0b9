-- The numbers of the faults, as the program prints them.
use Rattle.std.specs.Prelude.{ℕ}
use Rattle.dfdl_operators.specs.declared.fault.OperatorFault.{OperatorFault}
use Rattle.dfdl_operators.specs.declared.fault.OperatorFault.TheVariants.{PastRange, NoQuotient, WrongType}

-- the number E of a fault
abbrev pub fault_number : OperatorFault → ℕ
fault_number PastRange = 4
fault_number NoQuotient = 5
fault_number WrongType = 6
