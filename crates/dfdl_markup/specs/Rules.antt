-- The rules of documents, numbered as the causes of refusals are. `.. Keeps n` says that the rules
-- below n are kept. Rules 1 and 2, on bytes and characters, stand before these; 3 is that the
-- markup is well formed, 12 that the character of a reference is allowed, and a document that keeps
-- all of them keeps those below 13.
use Rattle.std.specs.Prelude.{◌≡◌, ◌≢◌, ℕ, suc, ◌+◌, ◌<◌, ◌==◌, ◌&&◌, ◌⊎◌, Bool, true, false}
use Rattle.std.specs.Prelude.{not, List, [], ◌∷◌, length, map, Option, Some, None, codes}
use Rattle.std.specs.Prelude.{if◌then◌else◌, nat_le, ◌||◌, IsSome}
use Rattle.dfdl_layers.specs.Tellers.{Each}
use Rattle.dfdl_xml_chars.specs.Characters.{is_allowed, is_name_start, is_name_char}
use Rattle.dfdl_markup.specs.Grammar.{is_white, is_quote, Name, Plain, Prefixed}
use Rattle.dfdl_markup.specs.Grammar.{Reference, Named, Numbered, Item, Letter, Referred, Given, Tag}
use Rattle.dfdl_markup.specs.Grammar.{Content, Nothing, Character, Referring, Comment, Instruction}
use Rattle.dfdl_markup.specs.Grammar.{Section}
use Rattle.dfdl_markup.specs.Grammar.{Single, Nested, Saying, Declaration, Document}
use Rattle.dfdl_markup.specs.Grammar.{document_characters}
use Rattle.dfdl_markup.specs.Values.{is_digit, number_on, entity, value_of, Attribute, attribute_of}
use Rattle.dfdl_markup.specs.Values.{same_name, declares, Binding, outer_scope}
use Rattle.dfdl_markup.specs.Values.{same_expanded, have_same, names_of, is_found, scope_in}
use Rattle.dfdl_markup.specs.Values.{fixed_namespace, may_bind}

-- a part of a name: the production NCName
abbrev pub IsPart : List ℕ → Type 0
IsPart [] = ⊥
IsPart (c ∷ part) = (is_name_start c ≡ true) × Each (λ d. is_name_char d ≡ true) part

-- the production QName
abbrev pub IsName : Name → Type 0
IsName (Plain part) = IsPart part
IsName (Prefixed prefix part) = IsPart prefix × IsPart part

-- all are white space
abbrev pub AreWhite : List ℕ → Type 0
AreWhite space = Each (λ c. is_white c ≡ true) space

-- references: rule 6 is that an entity is known, and rule 12 that a character is allowed
abbrev pub ReferenceKeeps : ℕ → Reference → Type 0
ReferenceKeeps n (Named name) = IsPart name × (6 < n → IsSome (entity name))
ReferenceKeeps n (Numbered hexadecimal digits) =
    (0 < length digits) × Each (λ c. is_digit hexadecimal c ≡ true) digits
    × (12 < n → is_allowed (number_on hexadecimal 0 digits) ≡ true)

-- a character of a value in these quotes
unfoldable pub is_value_character : ℕ → ℕ → Bool
is_value_character quote c = not (c == 60) && (not (c == 38) && not (c == quote))

-- the items of a value in these quotes
abbrev pub ItemKeeps : ℕ → ℕ → Item → Type 0
ItemKeeps n quote (Letter c) = is_value_character quote c ≡ true
ItemKeeps n quote (Referred reference) = ReferenceKeeps n reference

-- a prefix may be declared by a value written so: `xml` and `xmlns` as what they are, without
-- references (profile)
abbrev pub MayDeclare : List ℕ → Option (List ℕ) → List Item → Type 0
MayDeclare prefix (Some fixed) items = items ≡ map Letter fixed
MayDeclare prefix None items = may_bind prefix (value_of items) ≡ true

-- what an attribute declares, if it declares a prefix, may be declared
abbrev pub BindsWell : Option (List ℕ) → List Item → Type 0
BindsWell None items = Unit {0}
BindsWell (Some prefix) items = MayDeclare prefix (fixed_namespace prefix) items

-- an attribute
pub record GivenKeeps (n : ℕ) (given : Given) : Type 0 where
  pub some_space : 0 < length given.space
  pub space : AreWhite given.space
  pub name : IsName given.name
  pub before : AreWhite given.before
  pub after : AreWhite given.after
  pub quote : is_quote given.quote ≡ true
  pub value : Each (ItemKeeps n given.quote) given.value
  pub binds : BindsWell (declares given.name) given.value

-- the attributes of a tag
abbrev pub attributes_of : Tag → List Attribute
attributes_of tag = map attribute_of tag.attributes

-- no two attributes have one name, neither as written nor by the namespaces that are found
pub record AreDifferent (scope : List Binding) (attributes : List Attribute) : Type 0 where
  pub written : have_same same_name (names_of attributes) ≡ false
  pub expanded : have_same (same_expanded (scope_in attributes scope)) (names_of attributes) ≡ false

-- all prefixes of a tag are declared
abbrev pub AreDeclared : List Binding → Name → List Attribute → Type 0
AreDeclared scope name attributes =
    Each (λ n. is_found (scope_in attributes scope) n ≡ true) (name ∷ names_of attributes)

-- a tag: rule 5 is that no attribute is given twice, and rule 7 that prefixes are declared
pub record TagKeeps (n : ℕ) (scope : List Binding) (tag : Tag) : Type 0 where
  pub name : IsName tag.name
  pub given : Each (GivenKeeps n) tag.attributes
  pub space : AreWhite tag.space
  pub differ : 5 < n → AreDifferent scope (attributes_of tag)
  pub declared : 7 < n → AreDeclared scope tag.name (attributes_of tag)

-- the text of a comment: no two `-` in it, nor one at its end; a `-` stands before it or not
abbrev pub IsCommentText : Bool → List ℕ → Type 0
IsCommentText dash [] = dash ≡ false
IsCommentText dash (c ∷ text) = (dash ≡ true → c ≢ 45) × IsCommentText (c == 45) text

-- no `?>` in it; a `?` stands before it or not
abbrev pub HasNoMark : Bool → List ℕ → Type 0
HasNoMark mark [] = Unit {0}
HasNoMark mark (c ∷ text) = (mark ≡ true → c ≢ 62) × HasNoMark (c == 63) text

-- the text of a processing instruction: none, or white space first, and no `?>` in it
abbrev pub IsInstructionText : List ℕ → Type 0
IsInstructionText [] = Unit {0}
IsInstructionText (c ∷ text) = (is_white c ≡ true) × HasNoMark false text

-- `xml` in letters of either case
unfoldable pub is_xml : List ℕ → Bool
is_xml (x ∷ m ∷ l ∷ []) = (x == 120 || x == 88) && ((m == 109 || m == 77) && (l == 108 || l == 76))
is_xml _ = false

-- the target of a processing instruction
abbrev pub IsTarget : List ℕ → Type 0
IsTarget target = IsPart target × (is_xml target ≡ false)

-- how many `]` stand behind one more character: two where there are more
abbrev pub brackets : ℕ → ℕ → ℕ
brackets before c = if c == 93 then (if before == 0 then 1 else 2) else 0

-- no `]]>` in it, where so many `]` stand before
abbrev pub HasNoEnd : ℕ → List ℕ → Type 0
HasNoEnd before [] = Unit {0}
HasNoEnd before (c ∷ text) = (before ≡ 2 → c ≢ 62) × HasNoEnd (brackets before c) text

-- a character that stands for itself
unfoldable pub is_text : ℕ → Bool
is_text c = not (c == 60) && not (c == 38)

-- the greatest depth
unfoldable pub deepest : ℕ
deepest = 250

-- what stands inside so many elements with these bindings in scope, where so many `]` stand right
-- before it: rule 4 is that an end tag has the name of its start tag, 10 that outside of the root
-- there is white space alone, 11 that elements aren't nested deeper
abbrev pub ContentKeeps : ℕ → ℕ → List Binding → ℕ → Content → Type 0
ContentKeeps n depth scope before Nothing = Unit {0}
ContentKeeps n depth scope before (Character c next) =
    (is_text c ≡ true) × (before ≡ 2 → c ≢ 62) × (10 < n → depth ≡ 0 → is_white c ≡ true)
    × ContentKeeps n depth scope (brackets before c) next
ContentKeeps n depth scope before (Referring reference next) =
    ReferenceKeeps n reference × (10 < n → 0 < depth) × ContentKeeps n depth scope 0 next
ContentKeeps n depth scope before (Comment text next) =
    IsCommentText false text × ContentKeeps n depth scope 0 next
ContentKeeps n depth scope before (Instruction target text next) =
    IsTarget target × IsInstructionText text × ContentKeeps n depth scope 0 next
ContentKeeps n depth scope before (Section text next) =
    (0 < depth) × HasNoEnd 0 text × ContentKeeps n depth scope 0 next
ContentKeeps n depth scope before (Single tag next) =
    TagKeeps n scope tag × (11 < n → depth < deepest) × ContentKeeps n depth scope 0 next
ContentKeeps n depth scope before (Nested tag inner end space next) =
    TagKeeps n scope tag × (11 < n → depth < deepest)
    × ContentKeeps n (suc depth) (scope_in (attributes_of tag) scope) 0 inner
    × IsName end × AreWhite space × (4 < n → same_name end tag.name ≡ true)
    × ContentKeeps n depth scope 0 next

-- how many elements a content has that stand in no other of its elements
abbrev pub roots : Content → ℕ
roots Nothing = 0
roots (Character c next) = roots next
roots (Referring reference next) = roots next
roots (Comment text next) = roots next
roots (Instruction target text next) = roots next
roots (Section text next) = roots next
roots (Single tag next) = suc (roots next)
roots (Nested tag inner end space next) = suc (roots next)

-- a character of an encoding's name: a letter, a digit, `.`, `_`, `-`
unfoldable pub is_encoding_character : ℕ → Bool
is_encoding_character c =
    (nat_le 97 c && nat_le c 122) || ((nat_le 65 c && nat_le c 90)
    || ((nat_le 48 c && nat_le c 57) || (c == 46 || (c == 95 || c == 45))))

-- the character, a capital as its small letter
unfoldable pub small : ℕ → ℕ
small c = if nat_le 65 c && nat_le c 90 then c + 32 else c

-- what the declaration may say
unfoldable pub version_value : List ℕ
version_value = codes "1.0"

unfoldable pub encoding_value : List ℕ
encoding_value = codes "utf-8"

unfoldable pub yes_value : List ℕ
yes_value = codes "yes"

unfoldable pub no_value : List ℕ
no_value = codes "no"

-- what is said, around its value
pub record SayingKeeps (saying : Saying) : Type 0 where
  pub some_space : 0 < length saying.space
  pub space : AreWhite saying.space
  pub before : AreWhite saying.before
  pub after : AreWhite saying.after
  pub quote : is_quote saying.quote ≡ true

-- an encoding's name: rule 9 is that it is UTF-8, in letters of any case
abbrev pub EncodingKeeps : ℕ → List ℕ → Type 0
EncodingKeeps n value =
    Each (λ c. is_encoding_character c ≡ true) value × (9 < n → map small value ≡ encoding_value)

-- the encoding, if it is said
abbrev pub SaysEncoding : ℕ → Option Saying → Type 0
SaysEncoding n None = Unit {0}
SaysEncoding n (Some saying) = SayingKeeps saying × EncodingKeeps n saying.value

-- whether the document stands alone, if it is said
abbrev pub SaysStandalone : Option Saying → Type 0
SaysStandalone None = Unit {0}
SaysStandalone (Some saying) =
    SayingKeeps saying × ((saying.value ≡ yes_value) ⊎ (saying.value ≡ no_value))

-- the XML declaration
pub record DeclarationKeeps (n : ℕ) (declaration : Declaration) : Type 0 where
  pub version : SayingKeeps declaration.version
  pub number : declaration.version.value ≡ version_value
  pub encoding : SaysEncoding n declaration.encoding
  pub standalone : SaysStandalone declaration.standalone
  pub space : AreWhite declaration.space

-- the declaration, if there is one
abbrev pub MayDeclareItself : ℕ → Option Declaration → Type 0
MayDeclareItself n None = Unit {0}
MayDeclareItself n (Some declaration) = DeclarationKeeps n declaration

-- a document, written with these characters, that keeps the rules below n
pub record IsDocument (n : ℕ) (document : Document) (characters : List ℕ) : Type 0 where
  pub spelled : characters ≡ document_characters document
  pub declaration : MayDeclareItself n document.declaration
  pub content : ContentKeeps n 0 outer_scope 0 document.content
  pub one_root : 10 < n → roots document.content ≡ 1
