-- The words of a command.
use Rattle.std.specs.Prelude.{◌≡◌, ◌≢◌, ℕ, List, [], ◌∷◌, codes}
use Rattle.dfdl_run.specs.declared.command.Verb.{Verb}
use Rattle.dfdl_run.specs.declared.command.Verb.TheVariants.{Parse, Unparse}

-- what is to be done, and the name of the schema file
pub record Order : Type 0 where
  pub verb : Verb
  pub schema : List ℕ

-- the word of a command
abbrev pub verb_word : Verb → List ℕ
verb_word Parse = codes "parse"
verb_word Unparse = codes "unparse"

-- a word that can be an operand: it is not empty and does not begin with `-`
abbrev pub IsOperand : List ℕ → Type 0
IsOperand [] = ⊥
IsOperand (byte ∷ bytes) = byte ≢ 45

-- the words are this order
pub record Orders (words : List (List ℕ)) (order : Order) : Type 0 where
  pub spelled : words ≡ verb_word order.verb ∷ (order.schema ∷ [])
  pub operand : IsOperand order.schema

-- the words are a command
abbrev pub IsCommand : List (List ℕ) → Type 0
IsCommand words = (order : Order) × Orders words order
