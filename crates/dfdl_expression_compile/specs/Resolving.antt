-- What is answered of an expression: its types and its compiled form, or what is wrong in it.
use Rattle.std.specs.Prelude.{◌≡◌, List, Result, Ok, Err}
use Rattle.dfdl_expressions.specs.declared.node.Node.{Node}
use Rattle.dfdl_expression_types.specs.declared.types.Types.{Types}
use Rattle.dfdl_expression_types.specs.declared.fault.TypeFault.{TypeFault}
use Rattle.dfdl_expression_types.specs.declared.fault.TypeFault.TheVariants as fault
use Rattle.dfdl_expression_compile.specs.declared.resolving.Resolved.{Resolved}

-- an answer has these types and nodes, or tells this fault, or there was no memory
abbrev pub Resolves : Result Types TypeFault → List Node → Result Resolved TypeFault → Type 0
Resolves due nodes (Ok r) = (due ≡ Ok r.types) × (r.expression ≡ nodes)
Resolves due nodes (Err fault.OutOfMemory) = Unit {0}
Resolves due nodes (Err why) = due ≡ Err why
