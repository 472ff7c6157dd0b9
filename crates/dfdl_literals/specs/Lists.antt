-- Lists of literals: how they are written, and which pieces they mean.
use Rattle.std.specs.Prelude.{◌≡◌, ℕ, ◌+◌, ◌*◌, List, [], ◌∷◌, ◌++◌, length, Option, Some, None, Bool, true, false, not, ◌&&◌, ◌||◌, if◌then◌else◌, ◌==◌, nat_lt, nat_le}
use Rattle.std.specs.Char.{digit_value}
use Rattle.std.specs.List.{list_any, list_all}
use Rattle.dfdl_machines.specs.Machines.{run}
use Rattle.dfdl_literals.specs.Names.{named}
use Rattle.dfdl_forms.specs.declared.literals.Piece.{Piece}
use Rattle.dfdl_forms.specs.declared.literals.Piece.TheVariants.{Char, Byte, NewLine, Space, Spaces, MaybeSpaces, Nothing}
use Rattle.dfdl_literals.specs.declared.Ending.{Ending}
use Rattle.dfdl_literals.specs.declared.Ending.TheVariants.{Ordinary, Doubled, Alone}

-- space, tab, carriage return or line feed
abbrev pub is_divider : ℕ → Bool
is_divider c = (c == 32) || ((c == 9) || ((c == 13) || (c == 10)))

-- what stands for itself
abbrev pub is_plain : ℕ → Bool
is_plain c = not (is_divider c) && not (c == 37)

-- a Unicode scalar value: a code point that is no surrogate
abbrev pub is_scalar : ℕ → Bool
is_scalar n = nat_lt n 0xD800 || (nat_le 0xE000 n && nat_lt n 0x110000)

-- the number with one digit more, up to the last code point
abbrev pub with_digit : ℕ → ℕ → ℕ → Option ℕ
with_digit base n c =
    if nat_lt (digit_value c) base
    then (if nat_lt (n * base + digit_value c) 0x110000 then Some (n * base + digit_value c) else None)
    else None

-- the number that the digits write behind n, up to the last code point
abbrev pub number : ℕ → ℕ → List ℕ → Option ℕ
number base n digits = run (with_digit base) n digits

-- a piece that is a character
abbrev pub is_character : Piece → Bool
is_character (Char c) = true
is_character (Byte b) = false
is_character NewLine = false
is_character Space = false
is_character Spaces = false
is_character MaybeSpaces = false
is_character Nothing = false

-- a piece that can match nothing
abbrev pub is_optional : Piece → Bool
is_optional (Char c) = false
is_optional (Byte b) = false
is_optional NewLine = false
is_optional Space = false
is_optional Spaces = false
is_optional MaybeSpaces = true
is_optional Nothing = true

-- a list with a literal that can match nothing
abbrev pub matches_nothing : List (List Piece) → Bool
matches_nothing literals = list_any (list_all is_optional) literals

-- one thing of a list as it is written: white space between literals, a character that stands for
-- itself, %%, %ES;, a name, a code point in decimal or hexadecimal, or one byte in two hexadecimal
-- digits
pub data Item : Type 0 where
  Divider : (c : ℕ) → is_divider c ≡ true → Item
  Sign : (c : ℕ) → is_plain c ≡ true → Item
  PercentSign : Item
  Empty : Item
  Entity : (name : List ℕ) (piece : Piece) → named name ≡ Some piece → Item
  DecimalCode : (first : ℕ) (more : List ℕ) (n : ℕ) → number 10 0 (first ∷ more) ≡ Some n
      → is_scalar n ≡ true → Item
  HexCode : (first : ℕ) (more : List ℕ) (n : ℕ) → number 16 0 (first ∷ more) ≡ Some n
      → is_scalar n ≡ true → Item
  ByteCode : (high low n : ℕ) → number 16 0 (high ∷ low ∷ []) ≡ Some n → nat_lt n 256 ≡ true → Item

-- the characters of an item
abbrev pub item_spelling : Item → List ℕ
item_spelling (Divider c is) = c ∷ []
item_spelling (Sign c is) = c ∷ []
item_spelling PercentSign = 37 ∷ 37 ∷ []
item_spelling Empty = 37 ∷ 69 ∷ 83 ∷ 59 ∷ []
item_spelling (Entity name piece is) = 37 ∷ (name ++ 59 ∷ [])
item_spelling (DecimalCode first more n is scalar) = 37 ∷ 35 ∷ first ∷ (more ++ 59 ∷ [])
item_spelling (HexCode first more n is scalar) = 37 ∷ 35 ∷ 120 ∷ first ∷ (more ++ 59 ∷ [])
item_spelling (ByteCode high low n is byte) = 37 ∷ 35 ∷ 114 ∷ high ∷ low ∷ 59 ∷ []

-- the piece that an item adds to its literal; white space adds none
abbrev pub item_piece : Item → Option Piece
item_piece (Divider c is) = None
item_piece (Sign c is) = Some (Char c)
item_piece PercentSign = Some (Char 37)
item_piece Empty = Some Nothing
item_piece (Entity name piece is) = Some piece
item_piece (DecimalCode first more n is scalar) = Some (Char n)
item_piece (HexCode first more n is scalar) = Some (Char n)
item_piece (ByteCode high low n is byte) = Some (Byte n)

-- what has to be known of an item for the one behind it
abbrev pub item_ending : Item → Ending
item_ending (Divider c is) = Ordinary
item_ending (Sign c is) = Ordinary
item_ending PercentSign = Doubled
item_ending Empty = Alone
item_ending (Entity name piece is) = Ordinary
item_ending (DecimalCode first more n is scalar) = Ordinary
item_ending (HexCode first more n is scalar) = Ordinary
item_ending (ByteCode high low n is byte) = Ordinary

-- items in their order, the last outermost
pub data Written : Type 0 where
  Start : Written
  Then : Written → Item → Written

-- the characters of items
abbrev pub spelling : Written → List ℕ
spelling Start = []
spelling (Then w item) = spelling w ++ item_spelling item

-- what has to be known of the last item for the one behind it
abbrev pub ending : Written → Ending
ending Start = Ordinary
ending (Then w item) = item_ending item

-- the pieces of the open literal with an item; white space ends it
abbrev pub with_piece : List Piece → Option Piece → List Piece
with_piece pieces None = []
with_piece pieces (Some piece) = pieces ++ piece ∷ []

-- the literals with the one that ends, if it has begun
abbrev pub closed : List (List Piece) → List Piece → List (List Piece)
closed literals [] = literals
closed literals (piece ∷ pieces) = literals ++ (piece ∷ pieces) ∷ []

-- the literals that are ended, with an item
abbrev pub with_end : List (List Piece) → List Piece → Option Piece → List (List Piece)
with_end literals pieces None = closed literals pieces
with_end literals pieces (Some piece) = literals

-- the pieces of the literal that is not ended
abbrev pub open_pieces : Written → List Piece
open_pieces Start = []
open_pieces (Then w item) = with_piece (open_pieces w) (item_piece item)

-- the literals that are ended
abbrev pub ended : Written → List (List Piece)
ended Start = []
ended (Then w item) = with_end (ended w) (open_pieces w) (item_piece item)

-- the literals of a list
abbrev pub literals : Written → List (List Piece)
literals w = closed (ended w) (open_pieces w)

-- an item may follow in the same literal: behind an %ES; none does
abbrev pub may_extend : Ending → Bool
may_extend Ordinary = true
may_extend Doubled = true
may_extend Alone = false

-- a character that stands for itself may follow in the same literal: behind %% no ; does
abbrev pub may_extend_by : Ending → ℕ → Bool
may_extend_by Ordinary c = true
may_extend_by Doubled c = not (c == 59)
may_extend_by Alone c = false

-- the item may follow; %ES; stands at the beginning of its literal, and only where a literal may be
-- empty
abbrev pub may_follow : Bool → Ending → List Piece → Item → Bool
may_follow empty_allowed before pieces (Divider c is) = true
may_follow empty_allowed before pieces (Sign c is) = may_extend_by before c
may_follow empty_allowed before pieces PercentSign = may_extend before
may_follow empty_allowed before pieces Empty =
    may_extend before && (empty_allowed && (length pieces == 0))
may_follow empty_allowed before pieces (Entity name piece is) = may_extend before
may_follow empty_allowed before pieces (DecimalCode first more n is scalar) = may_extend before
may_follow empty_allowed before pieces (HexCode first more n is scalar) = may_extend before
may_follow empty_allowed before pieces (ByteCode high low n is byte) = may_extend before

-- each item may follow those before it
abbrev pub Fits : Bool → Written → Type 0
Fits empty_allowed Start = Unit {0}
Fits empty_allowed (Then w item) =
    Fits empty_allowed w × (may_follow empty_allowed (ending w) (open_pieces w) item ≡ true)

-- the characters write these literals
pub record Spells (empty_allowed : Bool) (list : List (List Piece)) (text : List ℕ) : Type 0 where
  pub written : Written
  pub fits : Fits empty_allowed written
  pub spelled : spelling written ≡ text
  pub means : literals written ≡ list

-- the characters write these literals and no others
pub record Reads (empty_allowed : Bool) (list : List (List Piece)) (text : List ℕ) : Type 0 where
  pub spells : Spells empty_allowed list text
  pub only : (other : List (List Piece)) → Spells empty_allowed other text → other ≡ list

-- the characters write a list of literals
abbrev pub IsList : Bool → List ℕ → Type 0
IsList empty_allowed text = (list : List (List Piece)) × Spells empty_allowed list text
