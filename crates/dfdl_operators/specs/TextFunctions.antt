-- The functions on texts. A text is the list of its UTF-8 bytes, and `chars` of it the list of its
-- characters, each by its code.
use Rattle.std.specs.Prelude.{ℕ, List, [], ◌∷◌, ◌++◌, Option, Some, None, Ok, Err}
use Rattle.dfdl_value.specs.declared.value.Value.{Value}
use Rattle.dfdl_value.specs.declared.value.Value.TheVariants.{Text}
use Rattle.dfdl_operators.specs.declared.fault.OperatorFault.TheVariants.{WrongType}
use Rattle.dfdl_operators.specs.Numbers.{Answer}

-- the text that a value is, if it is one
abbrev pub text_of_value : Value → Option (List ℕ)
text_of_value (Text t) = Some t
text_of_value _ = None

-- one text behind the other, if both are there
abbrev pub joined_to : Option (List ℕ) → Option (List ℕ) → Option (List ℕ)
joined_to (Some t) (Some rest) = Some (t ++ rest)
joined_to _ _ = None

-- all values one behind the other, if each is a text
abbrev pub joined : List Value → Option (List ℕ)
joined [] = Some []
joined (v ∷ vs) = joined_to (text_of_value v) (joined vs)

-- what is answered by a text that may be none
abbrev pub text_answer : Option (List ℕ) → Answer
text_answer (Some t) = Ok (Text t)
text_answer None = Err WrongType

-- the concatenation of values
abbrev pub concatenation : List Value → Answer
concatenation vs = text_answer (joined vs)
