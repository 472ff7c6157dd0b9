-- Where a list of literals is refused.
use Rattle.std.specs.Prelude.{◌≡◌, ℕ, List, length, take, Bool, true, false}
use Rattle.std.specs.Str.{encode_utf8_all}
use Rattle.dfdl_fronts.specs.Fronts.{IsPlace}
use Rattle.dfdl_literals.specs.Lists.{IsList, Reads, matches_nothing}
use Rattle.dfdl_forms.specs.declared.literals.Piece.{Piece}
use Rattle.dfdl_literals.specs.declared.LiteralFault.{LiteralFault}
use Rattle.dfdl_literals.specs.declared.LiteralFault.TheVariants.{Malformed, MatchesNothing, OutOfMemory}

-- the byte at which the first character stands by which no list can go on, or the number of bytes
-- where they end inside a list
abbrev pub IsMalformedAt : Bool → List ℕ → ℕ → Type 0
IsMalformedAt empty_allowed characters at =
    (i : ℕ) × IsPlace (IsList empty_allowed) characters i
    × (at ≡ length (encode_utf8_all (take i characters)))

-- no literal may be empty, and the characters write a list in which one can match nothing
abbrev pub IsEmptyList : Bool → List ℕ → Type 0
IsEmptyList empty_allowed characters =
    (empty_allowed ≡ false) × (list : List (List Piece)) × Reads empty_allowed list characters
    × (matches_nothing list ≡ true)

-- the fault is that of the characters; memory may be wanting at any of them
abbrev pub IsFaultOf : Bool → List ℕ → LiteralFault → Type 0
IsFaultOf empty_allowed characters (Malformed at) = IsMalformedAt empty_allowed characters at
IsFaultOf empty_allowed characters MatchesNothing = IsEmptyList empty_allowed characters
IsFaultOf empty_allowed characters OutOfMemory = Unit {0}

-- the fault is one that comes before the literals are looked at
abbrev pub IsRefusalOf : Bool → List ℕ → LiteralFault → Type 0
IsRefusalOf empty_allowed characters (Malformed at) = IsMalformedAt empty_allowed characters at
IsRefusalOf empty_allowed characters MatchesNothing = ⊥
IsRefusalOf empty_allowed characters OutOfMemory = Unit {0}
