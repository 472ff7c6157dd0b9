-- What is answered of an expression by what is wrong in it: of several faults the first one here.
use Rattle.std.specs.Prelude.{◌≡◌, ℕ, if◌then◌else◌, List, Result, Ok, Err}
use Rattle.dfdl_expression_tree.specs.Trees.{Formula}
use Rattle.dfdl_expression_types.specs.declared.types.Types.{Types}
use Rattle.dfdl_expression_types.specs.declared.fault.TypeFault.{TypeFault}
use Rattle.dfdl_expression_types.specs.declared.fault.TypeFault.TheVariants as fault
use Rattle.dfdl_expression_types.specs.declared.statics.Statics.{Statics}
use Rattle.dfdl_expression_types.specs.declared.note.Note.{Note}
use Rattle.dfdl_expression_types.specs.Notes.{noted, types_of}

-- the types of a part, or what is wrong in it
abbrev pub verdict : Statics → Note → Result Types TypeFault
verdict s n =
    if n.faults.types then Err fault.Types
    else (if n.faults.path then Err fault.NoPath
    else (if n.faults.variable then Err fault.NoVariable else Ok (types_of s n.shape)))

-- the types of a tree's values, or what is wrong in it
abbrev pub types_or_fault : Statics → List ℕ → Formula → Result Types TypeFault
types_or_fault s text f = verdict s (noted s text f)

-- an answer is this one, or there was no memory
abbrev pub Answers : Result Types TypeFault → Result Types TypeFault → Type 0
Answers due (Ok types) = due ≡ Ok types
Answers due (Err fault.OutOfMemory) = Unit {0}
Answers due (Err why) = due ≡ Err why
