-- The value of a property and where it is written ('Syntax of DFDL Annotation Elements').
use Rattle.std.specs.Prelude.{◌≡◌, ◌⊎◌, ℕ, List, Option, Some, None, true, encode_utf8_all}
use Rattle.dfdl_markup.specs.Trees.{Node, node_at}
use Rattle.dfdl_constructs.specs.Elements.{dfdl_of, plain_of}
use Rattle.dfdl_properties.specs.Forms.{trimmed}
use Rattle.dfdl_references.specs.Writers.{is_called}

-- an element writes this value of a property: in short form, in attribute form, or as a `dfdl:property`
abbrev pub Writes : List Node → List ℕ → List ℕ → ℕ → Type 0
Writes nodes name value writer =
    (dfdl_of nodes writer name ≡ Some value)
    ⊎ ((plain_of nodes writer name ≡ Some value)
    ⊎ ((is_called nodes name writer ≡ true) × (trimmed (encode_utf8_all (node_at nodes writer).text) ≡ value)))

-- the value of a property, where it has one, is what the writer writes; there is no writer where it has none
abbrev pub IsWrittenAt : List Node → List ℕ → Option (List ℕ) → Option ℕ → Type 0
IsWrittenAt nodes name None None = Unit {0}
IsWrittenAt nodes name (Some value) (Some writer) = Writes nodes name value writer
IsWrittenAt nodes name _ _ = ⊥
