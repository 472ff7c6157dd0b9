-- How schema documents are written: 'Extensible Markup Language (XML) 1.0' (fifth edition) and
-- 'Namespaces in XML 1.0' (third edition) as far as schemas need them, as plain data that carries
-- all that is written, white space and quotes among it. Which of these are documents is told by the
-- rules in Rules. Characters are code points: 33 is `!`, 34 and 39 are the quotes, 35 `#`, 38 `&`,
-- 45 `-`, 47 `/`, 58 `:`, 59 `;`, 60 `<`, 61 `=`, 62 `>`, 63 `?`, 91 `[`, 93 `]`, 120 `x`.
use Rattle.std.specs.Prelude.{ℕ, ◌==◌, ◌||◌, Bool, true, false, List, [], ◌∷◌, ◌++◌, Option}
use Rattle.std.specs.Prelude.{Some, None, codes}
use Rattle.std.specs.List.{flat_map}

-- white space: tab, LF, CR, space
unfoldable pub is_white : ℕ → Bool
is_white c = c == 32 || c == 9 || c == 10 || c == 13

-- either quotation mark
unfoldable pub is_quote : ℕ → Bool
is_quote c = c == 34 || c == 39

-- a name of one part, or of two with a `:` between
pub data Name : Type 0 where
  Plain : (part : List ℕ) → Name
  Prefixed : (prefix part : List ℕ) → Name

-- the characters of a name
abbrev pub name_characters : Name → List ℕ
name_characters (Plain part) = part
name_characters (Prefixed prefix part) = prefix ++ 58 ∷ part

-- a reference: to an entity by its name, or to a character by its number, in hexadecimal or decimal
-- digits
pub data Reference : Type 0 where
  Named : (name : List ℕ) → Reference
  Numbered : (hexadecimal : Bool) (digits : List ℕ) → Reference

-- what stands between `&#` and the digits
abbrev pub base_mark : Bool → List ℕ
base_mark true = 120 ∷ []
base_mark false = []

-- what stands between `&` and `;`
abbrev pub reference_inside : Reference → List ℕ
reference_inside (Named name) = name
reference_inside (Numbered hexadecimal digits) = 35 ∷ (base_mark hexadecimal ++ digits)

-- the characters of a reference
abbrev pub reference_characters : Reference → List ℕ
reference_characters reference = 38 ∷ (reference_inside reference ++ 59 ∷ [])

-- what an attribute's value is made of
pub data Item : Type 0 where
  Letter : (c : ℕ) → Item
  Referred : Reference → Item

-- the characters of an item
abbrev pub item_characters : Item → List ℕ
item_characters (Letter c) = c ∷ []
item_characters (Referred reference) = reference_characters reference

-- an attribute as it is written, with the white space before it and around its `=`
pub record Given : Type 0 where
  pub space : List ℕ
  pub name : Name
  pub before : List ℕ
  pub after : List ℕ
  pub quote : ℕ
  pub value : List Item

-- the characters of an attribute from its name on, up to its value
abbrev pub given_start : Name → List ℕ → List ℕ → ℕ → List ℕ
given_start name before after quote = name_characters name ++ (before ++ 61 ∷ (after ++ quote ∷ []))

-- the characters of an attribute
abbrev pub given_characters : Given → List ℕ
given_characters given =
    given.space ++ (given_start given.name given.before given.after given.quote
    ++ (flat_map item_characters given.value ++ given.quote ∷ []))

-- what a start tag has between its `<` and its `>` or `/>`
pub record Tag : Type 0 where
  pub name : Name
  pub attributes : List Given
  pub space : List ℕ

-- the characters of a tag
abbrev pub tag_characters : Tag → List ℕ
tag_characters tag =
    name_characters tag.name ++ (flat_map given_characters tag.attributes ++ tag.space)

-- what stands inside an element, and on the level of the root
pub data Content : Type 0 where
  Nothing : Content
  -- a character, and what follows it
  Character : (c : ℕ) → Content → Content
  -- a reference
  Referring : Reference → Content → Content
  -- `<!--`, the text, `-->`
  Comment : (text : List ℕ) → Content → Content
  -- a processing instruction: `<?`, the target, the text with the white space before it, `?>`
  Instruction : (target text : List ℕ) → Content → Content
  -- a CDATA section: `<![CDATA[`, the text, `]]>`
  Section : (text : List ℕ) → Content → Content
  -- an element that closes itself: `<`, the tag, `/>`
  Single : Tag → Content → Content
  -- `<`, the tag, `>`, what is inside, `</`, the name and white space of the end tag, `>`
  Nested : Tag → (inner : Content) → (end : Name) (space : List ℕ) → Content → Content

-- the words that begin a comment and a section
unfoldable pub comment_start : List ℕ
comment_start = codes "<!--"

unfoldable pub section_word : List ℕ
section_word = codes "CDATA["

-- the characters that a content is written with
abbrev pub spelling : Content → List ℕ
spelling Nothing = []
spelling (Character c next) = c ∷ spelling next
spelling (Referring reference next) = reference_characters reference ++ spelling next
spelling (Comment text next) = 60 ∷ 33 ∷ 45 ∷ 45 ∷ (text ++ 45 ∷ 45 ∷ 62 ∷ spelling next)
spelling (Instruction target text next) = 60 ∷ 63 ∷ (target ++ (text ++ 63 ∷ 62 ∷ spelling next))
spelling (Section text next) =
    60 ∷ 33 ∷ 91 ∷ (section_word ++ (text ++ 93 ∷ 93 ∷ 62 ∷ spelling next))
spelling (Single tag next) = 60 ∷ (tag_characters tag ++ 47 ∷ 62 ∷ spelling next)
spelling (Nested tag inner end space next) =
    60 ∷ (tag_characters tag ++ 62 ∷ (spelling inner
    ++ 60 ∷ 47 ∷ (name_characters end ++ (space ++ 62 ∷ spelling next))))

-- what the XML declaration says besides its version
pub data Said : Type 0 where
  Version : Said
  Encoding : Said
  Standalone : Said

-- the word that it says it by
unfoldable pub said_word : Said → List ℕ
said_word Version = codes "version"
said_word Encoding = codes "encoding"
said_word Standalone = codes "standalone"

-- one of the things that the XML declaration says, as it is written
pub record Saying : Type 0 where
  pub space : List ℕ
  pub before : List ℕ
  pub after : List ℕ
  pub quote : ℕ
  pub value : List ℕ

-- its characters
abbrev pub saying_characters : Said → Saying → List ℕ
saying_characters said saying =
    saying.space ++ (said_word said ++ (saying.before ++ 61 ∷ (saying.after
    ++ saying.quote ∷ (saying.value ++ saying.quote ∷ []))))

-- the characters of what may be left away
abbrev pub optional_characters : Said → Option Saying → List ℕ
optional_characters said None = []
optional_characters said (Some saying) = saying_characters said saying

-- the XML declaration, and the white space before its `?>`
pub record Declaration : Type 0 where
  pub version : Saying
  pub encoding : Option Saying
  pub standalone : Option Saying
  pub space : List ℕ

-- the word behind its `<?`
unfoldable pub xml_word : List ℕ
xml_word = codes "xml"

-- what it is written with from its version on
abbrev pub declaration_inside : Declaration → List ℕ
declaration_inside declaration =
    saying_characters Version declaration.version
    ++ (optional_characters Encoding declaration.encoding
    ++ (optional_characters Standalone declaration.standalone ++ declaration.space))

-- the characters of a declaration, if there is one
abbrev pub declaration_characters : Option Declaration → List ℕ
declaration_characters None = []
declaration_characters (Some declaration) =
    60 ∷ 63 ∷ (xml_word ++ (declaration_inside declaration ++ 63 ∷ 62 ∷ []))

-- the byte order mark, if there is one
abbrev pub mark_characters : Bool → List ℕ
mark_characters true = 0xFEFF ∷ []
mark_characters false = []

-- a document as it is written
pub record Document : Type 0 where
  pub mark : Bool
  pub declaration : Option Declaration
  pub content : Content

-- the characters of a document
abbrev pub document_characters : Document → List ℕ
document_characters document =
    mark_characters document.mark
    ++ (declaration_characters document.declaration ++ spelling document.content)
