-- What a fault of compiling says of a schema.
use Rattle.std.specs.Prelude.{◌≡◌, ℕ, Bool, List, Some, Result, Err}
use Rattle.dfdl_report.specs.declared.cause.SchemaCause.TheVariants.{Recursive}
use Rattle.dfdl_documents.specs.Documents.{SchemaDocument}
use Rattle.dfdl_components.specs.declared.site.Site.{Site}
use Rattle.dfdl_checks.specs.declared.purpose.Purpose.{Purpose}
use Rattle.dfdl_chains.specs.Everywhere.{site_at}
use Rattle.dfdl_breaches.specs.Elements.{place_of}
use Rattle.dfdl_compile.specs.Compiled as ends
use Rattle.dfdl_compile.specs.Compiled.{CompileEnd, Laid, first_recursive}
use Rattle.dfdl_compile.specs.Settling.{Ends, Settles}
use Rattle.dfdl_compile.specs.Components.{components_of}
use Rattle.dfdl_compile.specs.declared.fault.CompileFault.{CompileFault}
use Rattle.dfdl_compile.specs.declared.fault.CompileFault.TheVariants.{Refused, Limit, OutOfMemory}

-- this is why a schema that comes to this has no rows; want of memory says nothing of it
abbrev pub IsFaultOf : Result Laid CompileEnd → CompileFault → Type 0
IsFaultOf answer (Refused cause place) = answer ≡ Err (ends.Refused cause place)
IsFaultOf answer (Limit cause quantity) = answer ≡ Err (ends.Limit cause quantity)
IsFaultOf answer OutOfMemory = Unit {0}

-- this is why the statements of rows can't be settled
abbrev pub IsSettledFault : List SchemaDocument → Laid → CompileFault → Type 0
IsSettledFault documents laid (Refused cause place) = Settles documents laid (Err (ends.Refused cause place))
IsSettledFault documents laid (Limit cause quantity) = ⊥
IsSettledFault documents laid OutOfMemory = Unit {0}

-- this is why a schema that comes to this has no table: it has no rows, or their statements can't be settled
abbrev pub IsEndFault : List SchemaDocument → Result Laid CompileEnd → CompileFault → Type 0
IsEndFault documents answer (Refused cause place) = Ends documents answer (Err (ends.Refused cause place))
IsEndFault documents answer (Limit cause quantity) = Ends documents answer (Err (ends.Limit cause quantity))
IsEndFault documents answer OutOfMemory = Unit {0}

-- a component of the documents reaches itself, and this is told of the first one
abbrev pub IsRecursionFault : Purpose → (Site → Bool) → List SchemaDocument → CompileFault → Type 0
IsRecursionFault purpose refused documents (Refused cause place) =
    (c : ℕ) × (first_recursive (components_of purpose refused documents).uses ≡ Some c) × (cause ≡ Recursive)
    × (place ≡ place_of documents (site_at documents c))
IsRecursionFault purpose refused documents (Limit cause quantity) = ⊥
IsRecursionFault purpose refused documents OutOfMemory = Unit {0}
