-- Mirror for the prover: runs of characters that do nothing but lengthen what is being read.
use Rattle.std.specs.Prelude.{◌≡◌, ◌≤◌, ℕ, Bool, true, List, [], ◌∷◌, ◌==◌, ◌&&◌, ◌||◌, not}
use Rattle.std.specs.Prelude.{nat_le, nat_lt, length, take, Ok, Some}
use Rattle.std.specs.List.{list_all}
use Rattle.dfdl_xml_chars.specs.Characters.{is_name_char}
use Rattle.dfdl_markup.specs.Machine as machine
use Rattle.dfdl_markup.specs.Machine.{State, step}
use Rattle.dfdl_markup.specs.Building.{Effect, Stays, Reads, effect_at}
use Rattle.dfdl_doc_tree.specs.declared.plain.Class.{Class}
use Rattle.dfdl_doc_tree.specs.declared.plain.Class.TheVariants as class
use Rattle.dfdl_doc_tree.specs.declared.plain.Passed.{Passed}
use Rattle.dfdl_doc_tree.specs.declared.plain.Passed.TheVariants.{Quiet, Text}

-- an ASCII character that XML allows, and no CR
unfoldable pub is_plain : ℕ → Bool
is_plain c = nat_lt c 128 && (nat_le 32 c || (c == 9 || c == 10))

-- the plain characters that do nothing but lengthen a text, a CDATA section, a comment, an
-- instruction, white space, a value in these quotes, a name
unfoldable pub is_of : Class → ℕ → Bool
is_of class.Text c = is_plain c && not (c == 60 || (c == 38 || c == 93))
is_of class.Section c = is_plain c && not (c == 93)
is_of class.Comment c = is_plain c && not (c == 45)
is_of class.Instruction c = is_plain c && not (c == 63)
is_of class.White c = is_plain c && (c == 32 || (c == 9 || c == 10))
is_of (class.Value quote) c = is_plain c && (nat_le 32 c && not (c == quote || (c == 60 || c == 38)))
is_of class.Name c = is_plain c && is_name_char c

-- the machine goes on over the characters, and each does to the tree what is told of it
abbrev pub Passes : (ℕ → Effect) → State → List ℕ → State → Type 0
Passes effect s [] t = s ≡ t
Passes effect s (c ∷ run) t =
    (u : State) × ((step s c ≡ Ok u) × ((effect_at s.place s c ≡ effect c) × Passes effect u run t))

-- so many bytes at the head are plain characters, over which the machine goes on
pub record IsPassed (effect : ℕ → Effect) (s : State) (bytes : List ℕ) (count : ℕ) (t : State) : Type 0 where
  pub within : count ≤ length bytes
  pub plain : list_all is_plain (take count bytes) ≡ true
  pub passes : Passes effect s (take count bytes) t

-- what they do to the tree
abbrev pub quiet : ℕ → Effect
quiet c = Stays

abbrev pub reads : ℕ → Effect
reads c = Reads 0 c

abbrev pub IsPassedBy : Passed → State → List ℕ → State → Type 0
IsPassedBy (Quiet count) s bytes t = IsPassed quiet s bytes count t
IsPassedBy (Text count) s bytes t = IsPassed reads s bytes count t

-- the name goes on over the characters
abbrev pub ReadsOn : machine.Reading → List ℕ → machine.Reading → Type 0
ReadsOn r [] q = r ≡ q
ReadsOn r (c ∷ run) q = (p : machine.Reading) × ((machine.name_next r c ≡ Some p) × ReadsOn p run q)
