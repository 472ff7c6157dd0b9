-- What documents come to by the builds of their patterns.
use Rattle.std.specs.Prelude.{ℕ, List, Result, Err}
use Rattle.dfdl_documents.specs.Documents.{SchemaDocument}
use Rattle.dfdl_checks.specs.declared.purpose.Purpose.{Purpose}
use Rattle.dfdl_breaches.specs.Builds.{AreAllBuilt, AreBuiltInPart, PatternsSeen}
use Rattle.dfdl_terms.specs.Rows.{Table}
use Rattle.dfdl_compile.specs.Compiled as ends
use Rattle.dfdl_compile.specs.Compiled.{CompileEnd}
use Rattle.dfdl_compile.specs.Settling.{CompilesTo, Free}
use Rattle.dfdl_compile.specs.declared.fault.CompileFault.{CompileFault}
use Rattle.dfdl_compile.specs.declared.fault.CompileFault.TheVariants.{Refused, Limit, OutOfMemory}

-- the patterns of all elements of the documents were built, and by those that were refused, and by some maps, the documents come to this
pub record ComesTo (purpose : Purpose) (documents : List SchemaDocument) (depth rows : ℕ) (before after : PatternsSeen)
    (end : Result Table CompileEnd) : Type 0 where
  pub free : Free
  pub built : AreAllBuilt purpose free.refused documents before after
  pub is : CompilesTo purpose free documents depth rows end

-- the same of a fault; want of memory says of the documents only that the patterns of some elements were built
abbrev pub ComesToFault : Purpose → List SchemaDocument → ℕ → ℕ → PatternsSeen → PatternsSeen → CompileFault → Type 0
ComesToFault purpose documents depth rows before after (Refused cause place) =
    ComesTo purpose documents depth rows before after (Err (ends.Refused cause place))
ComesToFault purpose documents depth rows before after (Limit cause quantity) =
    ComesTo purpose documents depth rows before after (Err (ends.Limit cause quantity))
ComesToFault purpose documents depth rows before after OutOfMemory = AreBuiltInPart purpose documents before after
