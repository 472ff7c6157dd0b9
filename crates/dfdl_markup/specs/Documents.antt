-- What a document is, as bytes: which rules they keep, the tree that they have, and which cause is
-- told where they are none.
use Rattle.std.specs.Prelude.{◌≡◌, ℕ, ◌-◌, ◌<◌, ◌==◌, ◌&&◌, nat_le, Bool, List, take, drop, codes}
use Rattle.std.specs.Prelude.{if◌then◌else◌, encode_utf8}
use Rattle.std.specs.List.{flat_map}
use Rattle.std.specs.Char.{IsScalar}
use Rattle.std.specs.Str.{bytes_eq}
use Rattle.dfdl_layers.specs.Tellers.{Each}
use Rattle.dfdl_layers.specs.Causes.{IsRefused}
use Rattle.dfdl_layers.specs.Allowed.{Allowed}
use Rattle.dfdl_xml_chars.specs.Characters.{is_allowed}
use Rattle.dfdl_markup.specs.Grammar.{Document}
use Rattle.dfdl_markup.specs.Rules.{IsDocument}
use Rattle.dfdl_markup.specs.Trees.{Node, document_nodes}

-- the bytes keep the rules below n: 1 is that they are UTF-8, 2 that each character is allowed, and
-- the others are those of the markup; a document keeps those below 13
pub record KeepsRules (n : ℕ) (bytes : List ℕ) : Type 0 where
  pub characters : List ℕ
  pub are_scalar : 1 < n → Each IsScalar characters
  pub encoded : 1 < n → bytes ≡ flat_map encode_utf8 characters
  pub allowed : 2 < n → Each (Allowed is_allowed) characters
  pub markup : 3 < n → (document : Document) × IsDocument n document characters

-- the bytes are a document, and these are its elements
pub record IsTreeOf (bytes : List ℕ) (nodes : List Node) : Type 0 where
  pub characters : List ℕ
  pub are_scalar : Each IsScalar characters
  pub encoded : bytes ≡ flat_map encode_utf8 characters
  pub allowed : Each (Allowed is_allowed) characters
  pub document : Document
  pub is_document : IsDocument 13 document characters
  pub are_nodes : nodes ≡ document_nodes document

-- a document type declaration begins two bytes before this place
abbrev pub is_document_type : List ℕ → ℕ → Bool
is_document_type bytes at =
    nat_le 2 at && bytes_eq (take 9 (drop (at - 2) bytes)) (codes "<!DOCTYPE")

-- the number of the cause that a broken rule is told as: 12, the character of a reference, as one
-- that is not allowed, 13 as the document's end, and markup that is a document type declaration as
-- that
abbrev pub cause_number : List ℕ → ℕ → ℕ → ℕ
cause_number bytes at rule =
    if rule == 12 then 2
    else (if rule == 13 then 12
    else (if rule == 3 && is_document_type bytes at then 8 else rule))

-- the bytes are no document: at this place none can go on, and the cause has this number
pub record IsRefusedBy (bytes : List ℕ) (at number : ℕ) : Type 0 where
  pub rule : ℕ
  pub refused : IsRefused KeepsRules 13 bytes at rule
  pub told : number ≡ cause_number bytes at rule
