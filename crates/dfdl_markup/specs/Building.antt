-- How the tree grows while a document is read. The tree itself is told by Trees.
use Rattle.std.specs.Prelude.{ℕ, zero, suc, ◌+◌, ◌==◌, ◌&&◌, Bool, false, List, [], ◌∷◌}
use Rattle.std.specs.Prelude.{◌++◌, length, Option, Some, None, Result, Ok, Err, if◌then◌else◌}
use Rattle.std.specs.Prelude.{replicate}
use Rattle.dfdl_layers.specs.Bytes.{Inside, between, byte_accepts}
use Rattle.dfdl_xml_chars.specs.DocumentReading.{document_step}
use Rattle.dfdl_markup.specs.Grammar.{Name}
use Rattle.dfdl_markup.specs.Values.{entity, or_zero}
use Rattle.dfdl_markup.specs.Trees.{Node, size, line_read}
use Rattle.dfdl_markup.specs.Machine.{StartTag, Within, InContent, InValue, Place, AtContent, AtSection}
use Rattle.dfdl_markup.specs.Machine.{AtTagName, AtTag, AtSlash, AtEndName, AtEndSpace, AtEntity}
use Rattle.dfdl_markup.specs.Machine.{AtNumber, Frame, State, start, step, tag_of, whole_name}
use Rattle.dfdl_markup.specs.Machine.{accepts, beyond}

-- what a character does to the tree
pub data Effect : Type 0 where
  Stays : Effect
  -- markup begins with it
  Opens : Effect
  -- a CDATA section ends with it
  Closes : Effect
  -- it is text, and so many `]` before it are
  Reads : (held c : ℕ) → Effect
  -- a reference to this character ends with it
  Refers : (d : ℕ) → Effect
  -- a start tag ends with it, one that closes itself, an end tag
  Enters : StartTag → Effect
  Adds : StartTag → Effect
  Leaves : Effect

abbrev pub content_effect : List Frame → ℕ → Effect
content_effect [] c = if c == 60 then Opens else Stays
content_effect (frame ∷ frames) c =
    if c == 60 then Opens else (if c == 38 then Stays else Reads 0 c)

abbrev pub section_effect : ℕ → ℕ → Effect
section_effect before c =
    if before == 2 && c == 62 then Closes
    else (if c == 93 then (if before == 2 then Reads 0 c else Stays) else Reads before c)

abbrev pub refers_within : Within → ℕ → Effect
refers_within InContent d = Refers d
refers_within (InValue v) d = Stays

abbrev pub tag_effect : Option Name → ℕ → Effect
tag_effect None c = Stays
tag_effect (Some name) c = if c == 62 then Enters (tag_of name) else Stays

-- what a character does to the tree at a place where it goes on
abbrev pub effect_at : Place → State → ℕ → Effect
effect_at (AtContent before) s c = content_effect s.frames c
effect_at (AtSection before) s c = section_effect before c
effect_at (AtTagName reading) s c = tag_effect (whole_name reading) c
effect_at (AtTag tag spaced) s c = if c == 62 then Enters tag else Stays
effect_at (AtSlash tag) s c = Adds tag
effect_at (AtEndName reading left) s c = if c == 62 then Leaves else Stays
effect_at AtEndSpace s c = if c == 62 then Leaves else Stays
effect_at (AtEntity within name) s c =
    if c == 59 then refers_within within (or_zero (entity name)) else Stays
effect_at (AtNumber within hexadecimal value) s c =
    if c == 59 then refers_within within value else Stays
effect_at _ s c = Stays

-- the elements so far, the numbers of the open ones, the innermost first, whether the text read
-- last ends in a CR, how many bytes were read, and at which byte the markup that is open began
pub record Built : Type 0 where
  pub nodes : List Node
  pub ancestors : List ℕ
  pub behind_cr : Bool
  pub at : ℕ
  pub opened_at : ℕ

-- nothing is read
unfoldable pub nothing_built : Built
nothing_built = record { nodes = []; ancestors = []; behind_cr = false; at = 0; opened_at = 0 }

-- the elements, where the one of this number is another
abbrev pub changed : (Node → Node) → ℕ → List Node → List Node
changed change element [] = []
changed change zero (n ∷ nodes) = change n ∷ nodes
changed change (suc element) (n ∷ nodes) = n ∷ changed change element nodes

-- the elements, where the innermost open one is another
abbrev pub changed_in : (Node → Node) → List ℕ → List Node → List Node
changed_in change [] nodes = nodes
changed_in change (element ∷ ancestors) nodes = changed change element nodes

-- an element with more text, and with one more child
abbrev pub with_more_text : List ℕ → Node → Node
with_more_text more n = record {
  name = n.name;
  attributes = n.attributes;
  parent = n.parent;
  children = n.children;
  text = n.text ++ more;
  at = n.at;
}

abbrev pub with_child : ℕ → Node → Node
with_child child n = record {
  name = n.name;
  attributes = n.attributes;
  parent = n.parent;
  children = n.children ++ child ∷ [];
  text = n.text;
  at = n.at;
}

abbrev pub first_of : List ℕ → Option ℕ
first_of [] = None
first_of (element ∷ ancestors) = Some element

-- the element of a start tag in the innermost open one, without children and text
abbrev pub node_of : StartTag → List ℕ → ℕ → Node
node_of tag ancestors at = record {
  name = tag.name;
  attributes = tag.attributes;
  parent = first_of ancestors;
  children = [];
  text = [];
  at = at;
}

-- the elements with that of a start tag
abbrev pub with_node : StartTag → Built → List Node
with_node tag b =
    changed_in (with_child (length b.nodes)) b.ancestors b.nodes ++ node_of tag b.ancestors b.opened_at ∷ []

-- the open elements without the innermost one
abbrev pub without_first : List ℕ → List ℕ
without_first [] = []
without_first (element ∷ ancestors) = ancestors

-- what the tree becomes by a character of so many bytes
abbrev pub build : Effect → ℕ → Built → Built
build Stays bytes b = record {
  nodes = b.nodes;
  ancestors = b.ancestors;
  behind_cr = b.behind_cr;
  at = b.at + bytes;
  opened_at = b.opened_at;
}
build Opens bytes b = record {
  nodes = b.nodes;
  ancestors = b.ancestors;
  behind_cr = false;
  at = b.at + bytes;
  opened_at = b.at;
}
build Closes bytes b = record {
  nodes = b.nodes;
  ancestors = b.ancestors;
  behind_cr = false;
  at = b.at + bytes;
  opened_at = b.opened_at;
}
build (Reads held c) bytes b = record {
  nodes = changed_in (with_more_text (replicate held 93 ++ line_read (b.behind_cr && held == 0) c))
      b.ancestors b.nodes;
  ancestors = b.ancestors;
  behind_cr = c == 13;
  at = b.at + bytes;
  opened_at = b.opened_at;
}
build (Refers d) bytes b = record {
  nodes = changed_in (with_more_text (d ∷ [])) b.ancestors b.nodes;
  ancestors = b.ancestors;
  behind_cr = false;
  at = b.at + bytes;
  opened_at = b.opened_at;
}
build (Enters tag) bytes b = record {
  nodes = with_node tag b;
  ancestors = length b.nodes ∷ b.ancestors;
  behind_cr = false;
  at = b.at + bytes;
  opened_at = b.opened_at;
}
build (Adds tag) bytes b = record {
  nodes = with_node tag b;
  ancestors = b.ancestors;
  behind_cr = false;
  at = b.at + bytes;
  opened_at = b.opened_at;
}
build Leaves bytes b = record {
  nodes = b.nodes;
  ancestors = without_first b.ancestors;
  behind_cr = false;
  at = b.at + bytes;
  opened_at = b.opened_at;
}

-- the state of the reader with the tree so far
pub record Reader : Type 0 where
  pub state : State
  pub built : Built

abbrev pub with_built : Built → Result State ℕ → Result Reader ℕ
with_built b (Ok t) = Ok (record { state = t; built = b })
with_built b (Err rule) = Err rule

-- the step of both
abbrev pub build_step : Reader → ℕ → Result Reader ℕ
build_step r c =
    with_built (build (effect_at r.state.place r.state c) (size (c ∷ [])) r.built) (step r.state c)

-- nothing is read
abbrev pub build_start : Reader
build_start = record { state = start; built = nothing_built }

-- the step of both over the bytes of a document
unfoldable pub read_step : Inside Reader → ℕ → Result (Inside Reader) ℕ
read_step i b = document_step build_step (λ r. beyond r.state) i b

-- nothing is read of the bytes
abbrev pub read_start : Inside Reader
read_start = between build_start

-- the bytes may end there
abbrev pub read_accepts : Inside Reader → Bool
read_accepts i = byte_accepts (λ r. accepts r.state) i
