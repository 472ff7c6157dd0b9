-- What may still come at each place of a document, so that the whole keeps the rules below n: with
-- any way in which the piece of markup that is open may have been written before it, by these rules.
use Rattle.std.proofs.Common.{◌≡◌, ℕ, zero, suc, ◌+◌, ◌==◌, ◌<◌, Bool, true, false, List, [], ◌∷◌, ◌++◌}
use Rattle.std.proofs.Common.{length, Option, Some, None, map}
use Rattle.std.specs.List.{flat_map}
use Rattle.dfdl_layers.specs.Tellers.{Each}
use Rattle.dfdl_markup.specs.Grammar.{is_white, is_quote, Name, name_characters}
use Rattle.dfdl_markup.specs.Grammar.{base_mark, Item, Letter, item_characters}
use Rattle.dfdl_markup.specs.Grammar.{given_start, Tag, tag_characters, Content, spelling}
use Rattle.dfdl_markup.specs.Grammar.{section_word, Said, Version, Encoding, Standalone, said_word}
use Rattle.dfdl_markup.specs.Grammar.{Saying, saying_characters, optional_characters, Declaration}
use Rattle.dfdl_markup.specs.Grammar.{xml_word, declaration_characters, mark_characters}
use Rattle.dfdl_markup.specs.Values.{is_digit, number_on, items_read, ends_in_cr}
use Rattle.dfdl_markup.specs.Values.{outer_scope, same_name}
use Rattle.dfdl_markup.specs.Rules.{IsPart, IsName, AreWhite, ItemKeeps, GivenKeeps, attributes_of}
use Rattle.dfdl_markup.specs.Rules.{IsCommentText, is_xml, HasNoMark, brackets, HasNoEnd, ContentKeeps, roots}
use Rattle.dfdl_markup.specs.Rules.{SayingKeeps, SaysEncoding, SaysStandalone, MayDeclareItself}
use Rattle.dfdl_markup.specs.Rules.{version_value, EncodingKeeps}
use Rattle.dfdl_markup.specs.Machine.{Reading, First, Colon, Second, StartTag, OpenValue, Within}
use Rattle.dfdl_markup.specs.Machine.{InContent, InValue, Place, AtContent, AtOpened, AtBang, AtDash}
use Rattle.dfdl_markup.specs.Machine.{AtComment, AtSectionWord, AtSection, AtQuestion, AtTarget}
use Rattle.dfdl_markup.specs.Machine.{AtTargetEnd, AtInstruction, AtTagName, AtTag, AtAttributeName}
use Rattle.dfdl_markup.specs.Machine.{AtNamed, AtEquals, AtValue, AtSlash, AtEndTag, AtEndName}
use Rattle.dfdl_markup.specs.Machine.{AtEndSpace, AtReference, AtEntity, AtHash, AtHexadecimal}
use Rattle.dfdl_markup.specs.Machine.{AtNumber, AtDeclaration, AtSaidWord, AtSaid, AtSaidEquals}
use Rattle.dfdl_markup.specs.Machine.{AtSaidValue, AtDeclarationEnd, Ahead, MarkAhead}
use Rattle.dfdl_markup.specs.Machine.{DeclarationAhead, NothingAhead, Frame, State, fixed_value}
use Rattle.dfdl_markup.specs.Machine.{said_character, begins, wanted}

-- the characters of a name as far as it was read
abbrev pub reading_characters : Reading → List ℕ
reading_characters (First part) = part
reading_characters (Colon prefix) = prefix ++ 58 ∷ []
reading_characters (Second prefix part) = prefix ++ 58 ∷ part

-- what was read begins a name
abbrev pub IsReading : Reading → Type 0
IsReading (First part) = IsPart part
IsReading (Colon prefix) = IsPart prefix
IsReading (Second prefix part) = IsPart prefix × IsPart part

-- how many `]` stand behind a text, two where there are more
abbrev pub brackets_behind : ℕ → List ℕ → ℕ
brackets_behind before [] = before
brackets_behind before (c ∷ text) = brackets_behind (brackets before c) text

-- a text ends in `?`
abbrev pub mark_behind : Bool → List ℕ → Bool
mark_behind mark [] = mark
mark_behind mark (c ∷ text) = mark_behind (c == 63) text

-- the text of a comment and so many `-` behind it
abbrev pub dashes_of : ℕ → List ℕ
dashes_of zero = []
dashes_of (suc n) = 45 ∷ dashes_of n

-- this tag was written so, and all of it keeps the rules of its own below n
pub record WroteTag (n : ℕ) (tag : StartTag) (t : Tag) : Type 0 where
  pub name : t.name ≡ tag.name
  pub attributes : attributes_of t ≡ tag.attributes
  pub named : IsName t.name
  pub given : Each (GivenKeeps n) t.attributes
  pub space : AreWhite t.space

-- a tag with white space behind it, and an attribute's name
pub record WroteName (n : ℕ) (tag : StartTag) (front : List ℕ) (raw : List ℕ) : Type 0 where
  pub t : Tag
  pub wrote : WroteTag n tag t
  pub some_space : 0 < length t.space
  pub is : raw ≡ 60 ∷ (tag_characters t ++ front)

-- the items of a value were read as its text
abbrev pub ReadAs : Option (List ℕ) → OpenValue → List Item → Type 0
ReadAs (Some fixed) v items = (items ≡ map Letter v.text) × (begins v.text fixed ≡ true)
ReadAs None v items = (items_read false items ≡ v.text) × (ends_in_cr false items ≡ v.behind_cr)

-- a tag and an attribute up to the end of what was read of its value
pub record WroteValue (n : ℕ) (v : OpenValue) (raw : List ℕ) : Type 0 where
  pub before : List ℕ
  pub after : List ℕ
  pub items : List Item
  pub named : IsName v.name
  pub quote : is_quote v.quote ≡ true
  pub white_before : AreWhite before
  pub white_after : AreWhite after
  pub read : ReadAs (fixed_value v.name) v items
  pub keep : Each (ItemKeeps n v.quote) items
  pub wrote : WroteName n v.tag (given_start v.name before after v.quote ++ flat_map item_characters items) raw

-- what stands before a reference
abbrev pub WroteWithin : ℕ → Within → List ℕ → Type 0
WroteWithin n InContent raw = raw ≡ []
WroteWithin n (InValue v) raw = WroteValue n v raw × (fixed_value v.name ≡ None)

-- and this behind it
abbrev pub WroteReference : ℕ → Within → List ℕ → List ℕ → Type 0
WroteReference n within inside raw = (front : List ℕ) × WroteWithin n within front × (raw ≡ front ++ 38 ∷ inside)

-- what was said in the XML declaration, with the white space behind it
pub data WroteSaid (n : ℕ) (raw : List ℕ) : Option Said → (space : List ℕ) → Type 0 where
  WroteNone : (space : List ℕ) → raw ≡ 60 ∷ 63 ∷ (xml_word ++ space) → WroteSaid n raw None space
  WroteVersion : (version : Saying) (space : List ℕ) → SayingKeeps version
      → version.value ≡ version_value
      → raw ≡ 60 ∷ 63 ∷ (xml_word ++ (saying_characters Version version ++ space))
      → WroteSaid n raw (Some Version) space
  WroteEncoding : (version encoding : Saying) (space : List ℕ) → SayingKeeps version
      → version.value ≡ version_value → SayingKeeps encoding
      → EncodingKeeps n encoding.value
      → raw ≡ 60 ∷ 63 ∷ (xml_word ++ (saying_characters Version version
      ++ (saying_characters Encoding encoding ++ space)))
      → WroteSaid n raw (Some Encoding) space
  WroteStandalone : (version standalone : Saying) (encoding : Option Saying) (space : List ℕ)
      → SayingKeeps version
      → version.value ≡ version_value → SaysEncoding n encoding
      → SaysStandalone (Some standalone)
      → raw ≡ 60 ∷ 63 ∷ (xml_word ++ (saying_characters Version version
      ++ (optional_characters Encoding encoding
      ++ (saying_characters Standalone standalone ++ space))))
      → WroteSaid n raw (Some Standalone) space

-- what is said next may stand behind what was said last
abbrev pub Follows : Option Said → Said → Type 0
Follows None Version = Unit {0}
Follows (Some Version) Encoding = Unit {0}
Follows (Some Version) Standalone = Unit {0}
Follows (Some Encoding) Standalone = Unit {0}
Follows _ _ = ⊥

-- what was said, white space, and what is begun to be said
pub record WroteSaying (n : ℕ) (said : Said) (inside : List ℕ) (raw : List ℕ) : Type 0 where
  pub last : Option Said
  pub front : List ℕ
  pub space : List ℕ
  pub wrote : WroteSaid n front last space
  pub white : AreWhite space
  pub some_space : 0 < length space
  pub follows : Follows last said
  pub is : raw ≡ front ++ inside

-- by the rules below n, the piece of markup that is open at the place may have been written so, where
-- an end tag must have the name `want`
abbrev pub Wrote : ℕ → List ℕ → Place → List ℕ → Type 0
Wrote n want (AtContent before) raw = raw ≡ []
Wrote n want AtOpened raw = raw ≡ 60 ∷ []
Wrote n want AtBang raw = raw ≡ 60 ∷ 33 ∷ []
Wrote n want AtDash raw = raw ≡ 60 ∷ 33 ∷ 45 ∷ []
Wrote n want (AtComment dashes) raw =
    (text : List ℕ) × IsCommentText false text
    × (raw ≡ 60 ∷ 33 ∷ 45 ∷ 45 ∷ (text ++ dashes_of dashes))
Wrote n want (AtSectionWord left) raw =
    (word : List ℕ) × (word ++ left ≡ section_word) × (raw ≡ 60 ∷ 33 ∷ 91 ∷ word)
Wrote n want (AtSection before) raw =
    (text : List ℕ) × HasNoEnd 0 text × (brackets_behind 0 text ≡ before)
    × (raw ≡ 60 ∷ 33 ∷ 91 ∷ (section_word ++ text))
Wrote n want AtQuestion raw = raw ≡ 60 ∷ 63 ∷ []
Wrote n want (AtTarget target) raw = (raw ≡ 60 ∷ 63 ∷ target) × IsPart target
Wrote n want AtTargetEnd raw = (target : List ℕ) × IsPart target × (raw ≡ 60 ∷ 63 ∷ (target ++ 63 ∷ []))
    × (is_xml target ≡ false)
Wrote n want (AtInstruction mark) raw =
    (target : List ℕ) × (text : List ℕ) × IsPart target × (is_xml target ≡ false)
    × ((w : ℕ) × (more : List ℕ) × (text ≡ w ∷ more) × (is_white w ≡ true) × HasNoMark false more
    × (mark_behind false more ≡ mark))
    × (raw ≡ 60 ∷ 63 ∷ (target ++ text))
Wrote n want (AtTagName reading) raw = (raw ≡ 60 ∷ reading_characters reading) × IsReading reading
Wrote n want (AtTag tag spaced) raw =
    (t : Tag) × WroteTag n tag t × (raw ≡ 60 ∷ tag_characters t) × (spaced ≡ true → 0 < length t.space)
Wrote n want (AtAttributeName tag reading) raw = WroteName n tag (reading_characters reading) raw × IsReading reading
Wrote n want (AtNamed tag name) raw =
    (before : List ℕ) × AreWhite before × IsName name × WroteName n tag (name_characters name ++ before) raw
Wrote n want (AtEquals tag name) raw =
    (before : List ℕ) × (after : List ℕ) × AreWhite before × AreWhite after × IsName name
    × WroteName n tag (name_characters name ++ (before ++ 61 ∷ after)) raw
Wrote n want (AtValue v) raw = WroteValue n v raw
Wrote n want (AtSlash tag) raw = (t : Tag) × WroteTag n tag t × (raw ≡ 60 ∷ (tag_characters t ++ 47 ∷ []))
Wrote n want AtEndTag raw = raw ≡ 60 ∷ 47 ∷ []
Wrote n want (AtEndName reading left) raw = (raw ≡ 60 ∷ 47 ∷ reading_characters reading) × IsReading reading
Wrote n want AtEndSpace raw =
    (name : Name) × (space : List ℕ) × IsName name × AreWhite space × (name_characters name ≡ want)
    × (raw ≡ 60 ∷ 47 ∷ (name_characters name ++ space))
Wrote n want (AtReference within) raw = WroteReference n within [] raw
Wrote n want (AtEntity within name) raw = WroteReference n within name raw × IsPart name
Wrote n want (AtHash within) raw = WroteReference n within (35 ∷ []) raw
Wrote n want (AtHexadecimal within) raw = WroteReference n within (35 ∷ 120 ∷ []) raw
Wrote n want (AtNumber within hexadecimal value) raw =
    (digits : List ℕ) × (0 < length digits) × Each (λ c. is_digit hexadecimal c ≡ true) digits
    × (number_on hexadecimal 0 digits ≡ value)
    × WroteReference n within (35 ∷ (base_mark hexadecimal ++ digits)) raw
Wrote n want (AtDeclaration last spaced) raw =
    (space : List ℕ) × WroteSaid n raw last space × AreWhite space × (spaced ≡ true → 0 < length space)
Wrote n want (AtSaidWord said left) raw =
    (word : List ℕ) × (word ++ left ≡ said_word said) × WroteSaying n said word raw
Wrote n want (AtSaid said) raw =
    (before : List ℕ) × AreWhite before × WroteSaying n said (said_word said ++ before) raw
Wrote n want (AtSaidEquals said) raw =
    (before : List ℕ) × (after : List ℕ) × AreWhite before × AreWhite after
    × WroteSaying n said (said_word said ++ (before ++ 61 ∷ after)) raw
Wrote n want (AtSaidValue said quote read) raw =
    (before : List ℕ) × (after : List ℕ) × (value : List ℕ) × AreWhite before × AreWhite after × (is_quote quote ≡ true)
    × (map (said_character said) value ≡ read)
    × WroteSaying n said (said_word said ++ (before ++ 61 ∷ (after ++ quote ∷ value))) raw
Wrote n want AtDeclarationEnd raw =
    (declaration : Declaration) × MayDeclareItself n (Some declaration)
    × (raw ++ 62 ∷ [] ≡ declaration_characters (Some declaration))

-- a content, and what comes behind it
pub record Last (n begun before : ℕ) (text : List ℕ) : Type 0 where
  pub content : Content
  pub is : text ≡ spelling content
  pub keeps : ContentKeeps n 0 outer_scope before content
  pub one_root : 10 < n → begun + roots content ≡ 1

pub record Inner (n before depth : ℕ) (frame : Frame) (After : List ℕ → Type 0)
    (text : List ℕ) : Type 0 where
  pub content : Content
  pub keeps : ContentKeeps n depth frame.scope before content
  pub name : Name
  pub space : List ℕ
  pub rest : List ℕ
  pub is : text ≡ spelling content ++ 60 ∷ 47 ∷ (name_characters name ++ (space ++ 62 ∷ rest))
  pub closed : IsName name
  pub white : AreWhite space
  pub ends : 4 < n → same_name name frame.name ≡ true
  pub after : After rest

-- the contents of the open elements and their end tags, where so many `]` stand right before
abbrev pub Close : ℕ → ℕ → List Frame → ℕ → List ℕ → Type 0
Close n begun [] before text = Last n begun before text
Close n begun (frame ∷ frames) before text =
    Inner n before (suc (length frames)) frame (Close n begun frames 0) text

-- and what may come before all else
pub record Declared (n begun before : ℕ) (frames : List Frame) (text : List ℕ) : Type 0 where
  pub declaration : Option Declaration
  pub rest : List ℕ
  pub is : text ≡ declaration_characters declaration ++ rest
  pub keeps : MayDeclareItself n declaration
  pub close : Close n begun frames before rest

pub record Marked (n begun before : ℕ) (frames : List Frame) (text : List ℕ) : Type 0 where
  pub mark : Bool
  pub rest : List ℕ
  pub is : text ≡ mark_characters mark ++ rest
  pub declared : Declared n begun before frames rest

abbrev pub Whole : Ahead → ℕ → ℕ → List Frame → ℕ → List ℕ → Type 0
Whole NothingAhead n begun frames before text = Close n begun frames before text
Whole DeclarationAhead n begun frames before text = Declared n begun before frames text
Whole MarkAhead n begun frames before text = Marked n begun before frames text

-- how many `]` stand right before the piece of markup that is open
abbrev pub brackets_at : Place → ℕ
brackets_at (AtContent before) = before
brackets_at _ = 0

-- what may follow at the state
pub record From (n : ℕ) (s : State) (text : List ℕ) : Type 0 where
  pub whole : (raw : List ℕ) → Wrote n (wanted s.frames) s.place raw
      → Whole s.ahead n s.begun s.frames (brackets_at s.place) (raw ++ text)

abbrev pub Rest : ℕ → State → List ℕ → Type 0
Rest n s text = 3 < n → From n s text
