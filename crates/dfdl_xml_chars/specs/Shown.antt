-- How the values of the reader of characters are seen by clauses.
use Rattle.std.specs.Prelude.{ℕ, List, [], ◌∷◌}
use Rattle.dfdl_layers.specs.Bytes as bytes
use Rattle.dfdl_layers.specs.Bytes.{Seen}
use Rattle.dfdl_xml_chars.specs.declared.begun.Begun.{Begun}
use Rattle.dfdl_xml_chars.specs.declared.begun.Begun.TheVariants.{Nothing, One, Two, Three}
use Rattle.dfdl_xml_chars.specs.declared.begun.Taken.{Taken}
use Rattle.dfdl_xml_chars.specs.declared.begun.Taken.TheVariants.{Whole, Part, Bad}

-- the bytes of a character that is begun
abbrev pub bytes_of : Begun → List ℕ
bytes_of Nothing = []
bytes_of (One a) = a ∷ []
bytes_of (Two a b) = a ∷ b ∷ []
bytes_of (Three a b c) = a ∷ b ∷ c ∷ []

-- what bytes are seen as
abbrev pub seen_of : Taken → Seen
seen_of (Whole c) = bytes.Whole c
seen_of (Part begun) = bytes.Part
seen_of Bad = bytes.Bad

-- the property holds of the bytes, if they are a part of a character
abbrev pub IfPart : Taken → (Begun → Type 0) → Type 0
IfPart (Whole c) P = Unit {0}
IfPart (Part begun) P = P begun
IfPart Bad P = Unit {0}
