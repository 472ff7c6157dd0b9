-- How names, attributes and texts are seen by clauses: as the characters that the text has.
use Rattle.std.specs.Prelude.{ℕ, List, [], ◌∷◌, ◌++◌, Option, option_map, chars}
use Rattle.std.specs.Prelude.{String}
use Rattle.std.specs.String.{string_bytes}
use denote.Ref.{Bor}
use Rattle.dfdl_markup.specs.Grammar as grammar
use Rattle.dfdl_markup.specs.Values as values
use Rattle.dfdl_markup.specs.Machine.{StartTag}
use Rattle.dfdl_xml_names.specs.declared.name.Name.{Name}
use Rattle.dfdl_xml_names.specs.declared.name.Name.TheVariants.{Plain, Prefixed}
use Rattle.dfdl_xml_names.specs.declared.name.Attribute.{Attribute}

-- the characters of a text
abbrev pub text_of : {A : Type 0} → String A → List ℕ
text_of text = chars (string_bytes text)

-- the characters of a text that may be lacking
abbrev pub lent_text : Option (Bor (List ℕ)) → Option (List ℕ)
lent_text text = option_map (λ t. chars t.now) text

-- a name
abbrev pub name_of : Name → grammar.Name
name_of (Plain part) = grammar.Plain (text_of part)
name_of (Prefixed prefix part) = grammar.Prefixed (text_of prefix) (text_of part)

-- the bytes of a name as it is written
abbrev pub written_bytes : Name → List ℕ
written_bytes (Plain part) = string_bytes part
written_bytes (Prefixed prefix part) = (string_bytes prefix ++ 58 ∷ []) ++ string_bytes part

-- an attribute
abbrev pub attribute_of : Attribute → values.Attribute
attribute_of attribute = record {
  name = name_of attribute.name;
  value = text_of attribute.value;
}

-- a start tag with one attribute more
abbrev pub tag_with : StartTag → grammar.Name → List ℕ → StartTag
tag_with tag name value = record {
  name = tag.name;
  attributes = tag.attributes ++ record { name = name; value = value } ∷ [];
}
