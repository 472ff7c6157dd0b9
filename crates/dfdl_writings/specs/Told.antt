-- What a call tells of a writing.
use Rattle.std.specs.Prelude.{Result, Ok, Err}
use Rattle.dfdl_writings.specs.declared.fault.Unwritten.{Unwritten}
use Rattle.dfdl_writings.specs.declared.fault.WritingFault.{WritingFault}
use Rattle.dfdl_writings.specs.declared.fault.WritingFault.TheVariants.{Unwritten as IsUnwritten, OutOfMemory}

-- what is told has this property: a writing, or the cause why there is none; nothing is told where there was no memory
abbrev pub IfTold : {A : Type 0} → Result A WritingFault → (Result A Unwritten → Type 0) → Type 0
IfTold (Ok writing) P = P (Ok writing)
IfTold (Err (IsUnwritten cause)) P = P (Err cause)
IfTold (Err OutOfMemory) P = Unit {0}
