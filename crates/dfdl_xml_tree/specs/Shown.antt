-- Mirror for the prover: how elements, the tree and what grows to one are shown by clauses.
use Rattle.std.specs.Prelude.{ℕ, List, [], ◌∷◌, ◌++◌, map, replicate, Option, Some, None}
use Rattle.dfdl_markup.specs.Trees.{Node}
use Rattle.dfdl_xml_names.specs.Shown.{name_of, attribute_of}
use Rattle.dfdl_xml_tree.specs.declared.element.Element.{Element}

-- an element
abbrev pub node_of : Element → Node
node_of e = record {
  name = name_of e.name;
  attributes = map attribute_of e.attributes.items;
  parent = e.parent;
  children = e.children.items;
  text = e.text;
  at = e.at;
}

-- the character, if there is one
abbrev pub if_any : Option ℕ → List ℕ
if_any None = []
if_any (Some c) = c ∷ []

-- so many `]`, and the character behind them, if there is one
abbrev pub more_text : ℕ → Option ℕ → List ℕ
more_text held more = replicate held 93 ++ if_any more
