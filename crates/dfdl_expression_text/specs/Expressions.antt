-- What an expression is, as bytes, and where a text is none.
use Rattle.std.specs.Prelude.{◌≡◌, ℕ, ◌≤◌, List, encode_utf8}
use Rattle.std.specs.List.{flat_map}
use Rattle.std.specs.Char.{IsScalar}
use Rattle.dfdl_fronts.specs.Fronts.{IsPlace}
use Rattle.dfdl_layers.specs.Tellers.{Each}
use Rattle.dfdl_layers.specs.Allowed.{Allowed}
use Rattle.dfdl_xml_chars.specs.Characters.{is_allowed}
use Rattle.dfdl_expression_text.specs.declared.fault.ExpressionFault.{ExpressionFault}
use Rattle.dfdl_expression_text.specs.declared.fault.ExpressionFault.TheVariants.{Malformed, OutOfMemory}
use Rattle.dfdl_expression_text.specs.Syntax.{Reads, most_tokens}

-- the bytes are UTF-8 of characters that XML allows, and these are spelled by so many tokens as the grammar has them
pub record ReadsBytes (count : ℕ) (bytes : List ℕ) : Type 0 where
  pub characters : List ℕ
  pub are_scalar : Each IsScalar characters
  pub encoded : bytes ≡ flat_map encode_utf8 characters
  pub allowed : Each (Allowed is_allowed) characters
  pub reads : Reads count characters

-- the bytes are an expression: the grammar reads them, and they have no more tokens than one may have
abbrev pub IsExpression : List ℕ → Type 0
IsExpression bytes = (count : ℕ) × (count ≤ most_tokens) × ReadsBytes count bytes

-- the bytes are no expression, and the place is the first byte at which none can go on; want of memory says nothing
abbrev pub IsFaultOf : List ℕ → ExpressionFault → Type 0
IsFaultOf bytes (Malformed at) = IsPlace IsExpression bytes at
IsFaultOf bytes OutOfMemory = Unit {0}
