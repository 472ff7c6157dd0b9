-- Mirror for the prover: how the rows of the tables are seen.
use Rattle.std.specs.Prelude.{Option, Some, None}
use Rattle.std.specs.Prelude.{ℕ, List}
use Rattle.dfdl_constructs.specs.declared.qualified.Qualified.{Qualified}
use denote.Ref.{Bor}
use Rattle.dfdl_constructs.specs.Parts as parts
use Rattle.dfdl_constructs.specs.ValuesAllowed as allowed
use Rattle.dfdl_constructs.specs.declared.part.Part.{Part}
use Rattle.dfdl_constructs.specs.declared.part.Part.TheVariants as part
use Rattle.dfdl_constructs.specs.declared.attributes.Known.{Known}
use Rattle.dfdl_constructs.specs.declared.attributes.Known.TheVariants as known

-- a part
abbrev pub part_shown : Part → parts.Part
part_shown (part.Many name role) = parts.Many name.now role
part_shown (part.Single name role) = parts.Single name.now role

-- a part that may be lacking
abbrev pub part_if : Option (Bor Part) → Option parts.Part
part_if None = None
part_if (Some part) = Some (part_shown part.now)

-- the parts of a name with a prefix, if there are any
abbrev pub pair_if : Option Qualified → Option (List ℕ × List ℕ)
pair_if None = None
pair_if (Some name) = Some (name.prefix.now, name.local.now)

-- an attribute that is looked at
abbrev pub known_shown : Known → allowed.Known
known_shown (known.Plain name form) = allowed.Plain name.now form
known_shown known.FormatReference = allowed.FormatReference
