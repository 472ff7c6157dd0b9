-- How a document is read, character by character: the state behind some characters, and the step by
-- one more, or the rule that it breaks. What it reads is told by Rules.
use Rattle.std.specs.Prelude.{ℕ, suc, ◌+◌, ◌*◌, ◌==◌, ◌&&◌, ◌||◌, Bool, true, false}
use Rattle.std.specs.Prelude.{nat_le, nat_lt, List, [], ◌∷◌, ◌++◌, length, Option, Some, None, Result}
use Rattle.std.specs.Prelude.{Ok, Err, if◌then◌else◌, option_and_then}
use Rattle.std.specs.List.{list_any, list_all}
use Rattle.std.specs.Str.{bytes_eq}
use Rattle.dfdl_xml_chars.specs.Characters.{is_allowed, is_name_start, is_name_char}
use Rattle.dfdl_xml_chars.specs.Characters.{high_start_rows, high_name_rows}
use Rattle.dfdl_xml_chars.specs.Beyond.{Beyond, All, Only, One, Never}
use Rattle.dfdl_markup.specs.Grammar.{is_white, is_quote, Name, Plain, Prefixed, name_characters}
use Rattle.dfdl_markup.specs.Grammar.{section_word, Said, Version, Encoding, Standalone, said_word}
use Rattle.dfdl_markup.specs.Grammar.{xml_word}
use Rattle.dfdl_markup.specs.Values.{is_digit, digit_value, base_of, entities, entity, letter_read}
use Rattle.dfdl_markup.specs.Values.{Attribute, same_name, declares, Binding, bindings_of}
use Rattle.dfdl_markup.specs.Values.{outer_scope, same_expanded, have_same, names_of, is_found}
use Rattle.dfdl_markup.specs.Values.{scope_in, fixed_namespace, may_bind}
use Rattle.dfdl_markup.specs.Rules.{is_xml, brackets, deepest, is_encoding_character, small}
use Rattle.dfdl_markup.specs.Rules.{version_value, encoding_value, yes_value, no_value}

-- a name as far as it was read
pub data Reading : Type 0 where
  First : (part : List ℕ) → Reading
  Colon : (prefix : List ℕ) → Reading
  Second : (prefix part : List ℕ) → Reading

-- what a name goes on to by a character
unfoldable pub name_next : Reading → ℕ → Option Reading
name_next (First part) c =
    if is_name_char c then Some (First (part ++ c ∷ []))
    else (if c == 58 then Some (Colon part) else None)
name_next (Colon prefix) c = if is_name_start c then Some (Second prefix (c ∷ [])) else None
name_next (Second prefix part) c =
    if is_name_char c then Some (Second prefix (part ++ c ∷ [])) else None

-- the name, where it may end there
abbrev pub whole_name : Reading → Option Name
whole_name (First part) = Some (Plain part)
whole_name (Colon prefix) = None
whole_name (Second prefix part) = Some (Prefixed prefix part)

-- a start tag as far as it was read
pub record StartTag : Type 0 where
  pub name : Name
  pub attributes : List Attribute

-- a value that is begun: its attribute's name, its quote, what it was read as so far, and whether a
-- CR is the last of it
pub record OpenValue : Type 0 where
  pub tag : StartTag
  pub name : Name
  pub quote : ℕ
  pub text : List ℕ
  pub behind_cr : Bool

-- where a reference stands
pub data Within : Type 0 where
  InContent : Within
  InValue : OpenValue → Within

-- where the reader stands, with what it has read of a piece of markup
pub data Place : Type 0 where
  -- between pieces of markup, behind so many `]`
  AtContent : (before : ℕ) → Place
  -- behind `<`, `<!`, `<!-`
  AtOpened : Place
  AtBang : Place
  AtDash : Place
  -- behind `<!--`, with so many `-` right before
  AtComment : (dashes : ℕ) → Place
  -- behind `<![`, with what is left of the word; then behind the word, with so many `]` before
  AtSectionWord : (left : List ℕ) → Place
  AtSection : (before : ℕ) → Place
  -- behind `<?`, in the target, behind the `?` right behind it, in the text behind a `?` or not
  AtQuestion : Place
  AtTarget : (target : List ℕ) → Place
  AtTargetEnd : Place
  AtInstruction : (mark : Bool) → Place
  -- in a start tag: in its name, behind it or an attribute with white space or without, in an
  -- attribute's name, behind it, behind its `=`, in its value, behind `/`
  AtTagName : Reading → Place
  AtTag : StartTag → (spaced : Bool) → Place
  AtAttributeName : StartTag → Reading → Place
  AtNamed : StartTag → Name → Place
  AtEquals : StartTag → Name → Place
  AtValue : OpenValue → Place
  AtSlash : StartTag → Place
  -- behind `</`, in the name with what is left of the one wanted, behind it
  AtEndTag : Place
  AtEndName : Reading → (left : List ℕ) → Place
  AtEndSpace : Place
  -- behind `&`, in the name, behind `&#`, behind `&#x`, behind a digit with the number
  AtReference : Within → Place
  AtEntity : Within → (name : List ℕ) → Place
  AtHash : Within → Place
  AtHexadecimal : Within → Place
  AtNumber : Within → (hexadecimal : Bool) → (value : ℕ) → Place
  -- in the XML declaration: behind what was said last, with white space or without, in a word,
  -- behind it, behind its `=`, in its value, behind the `?`
  AtDeclaration : (last : Option Said) (spaced : Bool) → Place
  AtSaidWord : Said → (left : List ℕ) → Place
  AtSaid : Said → Place
  AtSaidEquals : Said → Place
  AtSaidValue : Said → (quote : ℕ) (read : List ℕ) → Place
  AtDeclarationEnd : Place

-- what may come before all else: a byte order mark, an XML declaration, or none of them any more
pub data Ahead : Type 0 where
  MarkAhead : Ahead
  DeclarationAhead : Ahead
  NothingAhead : Ahead

-- an open element: its name, and the bindings inside of it
pub record Frame : Type 0 where
  pub name : Name
  pub scope : List Binding

-- what may come before all else, the place, how many roots were begun and have their start tag, and
-- the open elements, the innermost first
pub record State : Type 0 where
  pub ahead : Ahead
  pub place : Place
  pub begun : ℕ
  pub frames : List Frame

-- nothing is read
unfoldable pub start : State
start = record { ahead = MarkAhead; place = AtContent 0; begun = 0; frames = [] }

-- the state at another place, where the document may still be declared
abbrev pub go : State → Place → State
go s place = record { ahead = s.ahead; place = place; begun = s.begun; frames = s.frames }

-- and where it may not
abbrev pub stand : State → Place → State
stand s place = record { ahead = NothingAhead; place = place; begun = s.begun; frames = s.frames }

-- the bindings inside of the innermost open element
abbrev pub scope_of : List Frame → List Binding
scope_of [] = outer_scope
scope_of (frame ∷ frames) = frame.scope

-- behind a byte order mark, if one may come
abbrev pub marked : State → Ahead → Result State ℕ
marked s MarkAhead = Ok (record { ahead = DeclarationAhead; place = AtContent 0; begun = s.begun; frames = s.frames })
marked s DeclarationAhead = Err 10
marked s NothingAhead = Err 10

-- outside of the root: white space, markup
abbrev pub top_step : State → ℕ → Result State ℕ
top_step s c =
    if c == 60 then Ok (go s AtOpened)
    else (if is_white c then Ok (stand s (AtContent 0))
    else (if c == 0xFEFF then marked s s.ahead else Err 10))

-- inside of the root: text, references, markup
abbrev pub inner_step : State → ℕ → ℕ → Result State ℕ
inner_step s before c =
    if c == 60 then Ok (stand s AtOpened)
    else (if c == 38 then Ok (stand s (AtReference InContent))
    else (if before == 2 && c == 62 then Err 3 else Ok (stand s (AtContent (brackets before c)))))

abbrev pub content_by : List Frame → State → ℕ → ℕ → Result State ℕ
content_by [] s before c = top_step s c
content_by (frame ∷ frames) s before c = inner_step s before c

unfoldable pub content_step : State → ℕ → ℕ → Result State ℕ
content_step s before c = content_by s.frames s before c

-- an element may begin, or the rule that forbids it
abbrev pub may_begin : ℕ → List Frame → Option ℕ
may_begin begun [] = if begun == 0 then None else Some 10
may_begin begun (frame ∷ frames) = if nat_lt (suc (length frames)) deepest then None else Some 11

abbrev pub begin_by : Option ℕ → State → ℕ → Result State ℕ
begin_by None s c = Ok (stand s (AtTagName (First (c ∷ []))))
begin_by (Some rule) s c = Err rule

-- the place, inside of the root alone
abbrev pub inside : List Frame → State → Place → Result State ℕ
inside [] s place = Err 3
inside (frame ∷ frames) s place = Ok (stand s place)

unfoldable pub opened_step : State → ℕ → Result State ℕ
opened_step s c =
    if is_name_start c then begin_by (may_begin s.begun s.frames) s c
    else (if c == 47 then inside s.frames s AtEndTag
    else (if c == 33 then Ok (stand s AtBang)
    else (if c == 63 then Ok (go s AtQuestion) else Err 3)))

unfoldable pub bang_step : State → ℕ → Result State ℕ
bang_step s c =
    if c == 45 then Ok (stand s AtDash)
    else (if c == 91 then inside s.frames s (AtSectionWord section_word) else Err 3)

unfoldable pub dash_step : State → ℕ → Result State ℕ
dash_step s c = if c == 45 then Ok (stand s (AtComment 0)) else Err 3

unfoldable pub comment_step : State → ℕ → ℕ → Result State ℕ
comment_step s dashes c =
    if dashes == 2 then (if c == 62 then Ok (stand s (AtContent 0)) else Err 3)
    else (if c == 45 then Ok (stand s (AtComment (suc dashes))) else Ok (stand s (AtComment 0)))

-- behind a character of the word, or behind all of it
abbrev pub section_left : List ℕ → Place
section_left [] = AtSection 0
section_left (w ∷ left) = AtSectionWord (w ∷ left)

unfoldable pub section_word_step : State → List ℕ → ℕ → Result State ℕ
section_word_step s [] c = Err 3
section_word_step s (w ∷ left) c = if c == w then Ok (stand s (section_left left)) else Err 3

unfoldable pub section_step : State → ℕ → ℕ → Result State ℕ
section_step s before c =
    if before == 2 && c == 62 then Ok (stand s (AtContent 0))
    else Ok (stand s (AtSection (brackets before c)))

unfoldable pub question_step : State → ℕ → Result State ℕ
question_step s c = if is_name_start c then Ok (go s (AtTarget (c ∷ []))) else Err 3

-- the document may still be declared
abbrev pub may_declare : Ahead → Bool
may_declare MarkAhead = true
may_declare DeclarationAhead = true
may_declare NothingAhead = false

-- behind the white space behind a target: the text of an instruction, or the XML declaration
abbrev pub target_ended : State → List ℕ → Result State ℕ
target_ended s target =
    if is_xml target
    then (if may_declare s.ahead && bytes_eq target xml_word then Ok (go s (AtDeclaration None true))
    else Err 3)
    else Ok (stand s (AtInstruction false))

unfoldable pub target_step : State → List ℕ → ℕ → Result State ℕ
target_step s target c =
    if is_name_char c then Ok (go s (AtTarget (target ++ c ∷ [])))
    else (if is_white c then target_ended s target
    else (if c == 63 then (if is_xml target then Err 3 else Ok (stand s AtTargetEnd)) else Err 3))

unfoldable pub target_end_step : State → ℕ → Result State ℕ
target_end_step s c = if c == 62 then Ok (stand s (AtContent 0)) else Err 3

unfoldable pub instruction_step : State → Bool → ℕ → Result State ℕ
instruction_step s mark c =
    if mark && c == 62 then Ok (stand s (AtContent 0)) else Ok (stand s (AtInstruction (c == 63)))

-- two attributes are one by the namespaces that are found
abbrev pub have_clash : List Binding → List Attribute → Bool
have_clash scope attributes = have_same (same_expanded (scope_in attributes scope)) (names_of attributes)

-- all prefixes of the tag are found
abbrev pub all_found : List Binding → StartTag → Bool
all_found scope tag =
    list_all (λ name. is_found (scope_in tag.attributes scope) name) (tag.name ∷ names_of tag.attributes)

-- the state, where the tag may end
abbrev pub if_ends : State → StartTag → State → Result State ℕ
if_ends s tag next =
    if have_clash (scope_of s.frames) tag.attributes then Err 5
    else (if all_found (scope_of s.frames) tag then Ok next else Err 7)

-- how many roots are begun behind a start tag
abbrev pub begun_by : ℕ → List Frame → ℕ
begun_by begun [] = suc begun
begun_by begun (frame ∷ frames) = begun

-- the frame of an element
abbrev pub frame_of : List Frame → StartTag → Frame
frame_of frames tag = record { name = tag.name; scope = scope_in tag.attributes (scope_of frames) }

-- behind the `>` of a start tag
abbrev pub entered : State → StartTag → State
entered s tag = record {
  ahead = NothingAhead;
  place = AtContent 0;
  begun = begun_by s.begun s.frames;
  frames = frame_of s.frames tag ∷ s.frames;
}

-- behind the `/>` of a tag
abbrev pub passed : State → State
passed s = record {
  ahead = NothingAhead;
  place = AtContent 0;
  begun = begun_by s.begun s.frames;
  frames = s.frames;
}

unfoldable pub tag_step : State → StartTag → Bool → ℕ → Result State ℕ
tag_step s tag spaced c =
    if is_white c then Ok (stand s (AtTag tag true))
    else (if c == 62 then if_ends s tag (entered s tag)
    else (if c == 47 then if_ends s tag (stand s (AtSlash tag))
    else (if spaced && is_name_start c then Ok (stand s (AtAttributeName tag (First (c ∷ [])))) else Err 3)))

-- a tag of this name without attributes
abbrev pub tag_of : Name → StartTag
tag_of name = record { name = name; attributes = [] }

abbrev pub tag_name_or : Option Reading → Option Name → State → ℕ → Result State ℕ
tag_name_or (Some next) whole s c = Ok (stand s (AtTagName next))
tag_name_or None (Some name) s c = tag_step s (tag_of name) false c
tag_name_or None None s c = Err 3

unfoldable pub tag_name_step : State → Reading → ℕ → Result State ℕ
tag_name_step s reading c = tag_name_or (name_next reading c) (whole_name reading) s c

-- the tag has an attribute of the name, or surely one that is the same by the namespaces that it
-- declares itself
abbrev pub is_given : StartTag → Name → Bool
is_given tag name =
    list_any (λ other. same_name other name) (names_of tag.attributes)
    || list_any (λ other. same_expanded (bindings_of tag.attributes) other name) (names_of tag.attributes)

-- behind an attribute's name
abbrev pub attribute_named : State → StartTag → Name → Place → Result State ℕ
attribute_named s tag name place = if is_given tag name then Err 5 else Ok (stand s place)

unfoldable pub behind_name : State → StartTag → Name → ℕ → Result State ℕ
behind_name s tag name c =
    if is_white c then attribute_named s tag name (AtNamed tag name)
    else (if c == 61 then attribute_named s tag name (AtEquals tag name) else Err 3)

abbrev pub attribute_name_or : Option Reading → Option Name → State → StartTag → ℕ → Result State ℕ
attribute_name_or (Some next) whole s tag c = Ok (stand s (AtAttributeName tag next))
attribute_name_or None (Some name) s tag c = behind_name s tag name c
attribute_name_or None None s tag c = Err 3

unfoldable pub attribute_name_step : State → StartTag → Reading → ℕ → Result State ℕ
attribute_name_step s tag reading c =
    attribute_name_or (name_next reading c) (whole_name reading) s tag c

unfoldable pub named_step : State → StartTag → Name → ℕ → Result State ℕ
named_step s tag name c =
    if is_white c then Ok (stand s (AtNamed tag name))
    else (if c == 61 then Ok (stand s (AtEquals tag name)) else Err 3)

-- a value in these quotes begins
abbrev pub value_begun : StartTag → Name → ℕ → OpenValue
value_begun tag name quote =
    record { tag = tag; name = name; quote = quote; text = []; behind_cr = false }

unfoldable pub equals_step : State → StartTag → Name → ℕ → Result State ℕ
equals_step s tag name c =
    if is_white c then Ok (stand s (AtEquals tag name))
    else (if is_quote c then Ok (stand s (AtValue (value_begun tag name c))) else Err 3)

-- the value with more text
abbrev pub with_text : OpenValue → List ℕ → Bool → OpenValue
with_text v more behind_cr = record {
  tag = v.tag;
  name = v.name;
  quote = v.quote;
  text = v.text ++ more;
  behind_cr = behind_cr;
}

-- the text begins the word
abbrev pub begins : List ℕ → List ℕ → Bool
begins [] word = true
begins (c ∷ text) [] = false
begins (c ∷ text) (d ∷ word) = c == d && begins text word

-- the one value that the attribute of this name may have, where it declares `xml` or `xmlns`
abbrev pub fixed_value : Name → Option (List ℕ)
fixed_value name = option_and_then fixed_namespace (declares name)

-- the start tag with the attribute whose value was read
abbrev pub with_value : OpenValue → StartTag
with_value v = record {
  name = v.tag.name;
  attributes = v.tag.attributes ++ record { name = v.name; value = v.text } ∷ [];
}

-- what is declared by the value may be declared: the prefix, and what its value must be
abbrev pub may_close : Option (List ℕ) → Option (List ℕ) → List ℕ → Bool
may_close None fixed text = true
may_close (Some prefix) (Some fixed) text = bytes_eq text fixed
may_close (Some prefix) None text = may_bind prefix text

-- two attributes are one by what the tag itself declares, where this one declares
abbrev pub has_sure_clash : Option (List ℕ) → List Attribute → Bool
has_sure_clash None attributes = false
has_sure_clash (Some prefix) attributes =
    have_same (same_expanded (bindings_of attributes)) (names_of attributes)

-- behind a value
abbrev pub value_ended : State → OpenValue → Result State ℕ
value_ended s v =
    if may_close (declares v.name) (fixed_value v.name) v.text
    then (if has_sure_clash (declares v.name) (with_value v).attributes then Err 5
    else Ok (stand s (AtTag (with_value v) false)))
    else Err 3

-- a character of a value: of one that is fixed, or of any
abbrev pub value_goes_on : Option (List ℕ) → State → OpenValue → ℕ → Result State ℕ
value_goes_on (Some fixed) s v c =
    if begins (v.text ++ c ∷ []) fixed then Ok (stand s (AtValue (with_text v (c ∷ []) false))) else Err 3
value_goes_on None s v c =
    if c == 60 then Err 3
    else (if c == 38 then Ok (stand s (AtReference (InValue v)))
    else Ok (stand s (AtValue (with_text v (letter_read v.behind_cr c) (c == 13)))))

unfoldable pub value_step : State → OpenValue → ℕ → Result State ℕ
value_step s v c = if c == v.quote then value_ended s v else value_goes_on (fixed_value v.name) s v c

unfoldable pub slash_step : State → ℕ → Result State ℕ
slash_step s c = if c == 62 then Ok (passed s) else Err 3

-- the name of an end tag goes on by a character
abbrev pub end_next : State → Reading → List ℕ → ℕ → Result State ℕ
end_next s reading [] c = Err 4
end_next s reading (w ∷ left) c = if c == w then Ok (stand s (AtEndName reading left)) else Err 4

-- the characters of the name that an end tag must have
abbrev pub wanted : List Frame → List ℕ
wanted [] = []
wanted (frame ∷ frames) = name_characters frame.name

unfoldable pub end_tag_step : State → ℕ → Result State ℕ
end_tag_step s c =
    if is_name_start c then end_next s (First (c ∷ [])) (wanted s.frames) c else Err 3

-- behind the innermost open element
abbrev pub left_behind : State → List Frame → Result State ℕ
left_behind s [] = Err 3
left_behind s (frame ∷ frames) = Ok (record { ahead = NothingAhead; place = AtContent 0; begun = s.begun; frames = frames })

unfoldable pub end_space_step : State → ℕ → Result State ℕ
end_space_step s c =
    if is_white c then Ok (stand s AtEndSpace) else (if c == 62 then left_behind s s.frames else Err 3)

-- behind the name of an end tag, where so much of the one wanted is left
abbrev pub end_ended : List ℕ → State → ℕ → Result State ℕ
end_ended [] s c = end_space_step s c
end_ended (w ∷ left) s c = if is_white c || c == 62 then Err 4 else Err 3

abbrev pub end_name_or : Option Reading → Option Name → State → List ℕ → ℕ → Result State ℕ
end_name_or (Some next) whole s left c = end_next s next left c
end_name_or None (Some name) s left c = end_ended left s c
end_name_or None None s left c = Err 3

unfoldable pub end_name_step : State → Reading → List ℕ → ℕ → Result State ℕ
end_name_step s reading left c = end_name_or (name_next reading c) (whole_name reading) s left c

-- behind a reference to this character
abbrev pub referred_to : State → Within → ℕ → State
referred_to s InContent d = stand s (AtContent 0)
referred_to s (InValue v) d = stand s (AtValue (with_text v (d ∷ []) false))

-- some entity's name begins so
abbrev pub begins_entity : List ℕ → Bool
begins_entity name = list_any (λ entity. begins name entity.0) entities

abbrev pub entity_next : State → Within → List ℕ → Result State ℕ
entity_next s within name = if begins_entity name then Ok (stand s (AtEntity within name)) else Err 6

unfoldable pub reference_step : State → Within → ℕ → Result State ℕ
reference_step s within c =
    if is_name_start c then entity_next s within (c ∷ [])
    else (if c == 35 then Ok (stand s (AtHash within)) else Err 3)

abbrev pub entity_ended : State → Within → Option ℕ → Result State ℕ
entity_ended s within None = Err 6
entity_ended s within (Some d) = Ok (referred_to s within d)

unfoldable pub entity_step : State → Within → List ℕ → ℕ → Result State ℕ
entity_step s within name c =
    if is_name_char c then entity_next s within (name ++ c ∷ [])
    else (if c == 59 then entity_ended s within (entity name) else Err 3)

-- the number behind one more digit, as long as it is a code point
abbrev pub number_next : State → Within → Bool → ℕ → Result State ℕ
number_next s within hexadecimal value =
    if nat_le value 0x10FFFF then Ok (stand s (AtNumber within hexadecimal value)) else Err 12

unfoldable pub hash_step : State → Within → ℕ → Result State ℕ
hash_step s within c =
    if is_digit false c then number_next s within false (digit_value c)
    else (if c == 120 then Ok (stand s (AtHexadecimal within)) else Err 3)

unfoldable pub hexadecimal_step : State → Within → ℕ → Result State ℕ
hexadecimal_step s within c =
    if is_digit true c then number_next s within true (digit_value c) else Err 3

unfoldable pub number_step : State → Within → Bool → ℕ → ℕ → Result State ℕ
number_step s within hexadecimal value c =
    if is_digit hexadecimal c
    then number_next s within hexadecimal (value * base_of hexadecimal + digit_value c)
    else (if c == 59 then (if is_allowed value then Ok (referred_to s within value) else Err 12)
    else Err 3)

-- what the XML declaration says next by this character, behind what it said last
abbrev pub said_next : Option Said → ℕ → Option Said
said_next None c = if c == 118 then Some Version else None
said_next (Some Version) c =
    if c == 101 then Some Encoding else (if c == 115 then Some Standalone else None)
said_next (Some Encoding) c = if c == 115 then Some Standalone else None
said_next (Some Standalone) c = None

-- a list without its first item
abbrev pub tail : List ℕ → List ℕ
tail [] = []
tail (c ∷ text) = text

abbrev pub said_begun : Option Said → State → Result State ℕ
said_begun None s = Err 3
said_begun (Some said) s = Ok (go s (AtSaidWord said (tail (said_word said))))

-- the `?` behind what was said, which is the version at least
abbrev pub declaration_ending : Option Said → State → Result State ℕ
declaration_ending None s = Err 3
declaration_ending (Some said) s = Ok (go s AtDeclarationEnd)

unfoldable pub declaration_step : State → Option Said → Bool → ℕ → Result State ℕ
declaration_step s last spaced c =
    if is_white c then Ok (go s (AtDeclaration last true))
    else (if c == 63 then declaration_ending last s
    else (if spaced then said_begun (said_next last c) s else Err 3))

unfoldable pub said_step : State → Said → ℕ → Result State ℕ
said_step s said c =
    if is_white c then Ok (go s (AtSaid said))
    else (if c == 61 then Ok (go s (AtSaidEquals said)) else Err 3)

unfoldable pub said_word_step : State → Said → List ℕ → ℕ → Result State ℕ
said_word_step s said [] c = said_step s said c
said_word_step s said (w ∷ left) c = if c == w then Ok (go s (AtSaidWord said left)) else Err 3

unfoldable pub said_equals_step : State → Said → ℕ → Result State ℕ
said_equals_step s said c =
    if is_white c then Ok (go s (AtSaidEquals said))
    else (if is_quote c then Ok (go s (AtSaidValue said c [])) else Err 3)

-- what may be said
abbrev pub said_values : Said → List (List ℕ)
said_values Version = version_value ∷ []
said_values Encoding = encoding_value ∷ []
said_values Standalone = yes_value ∷ no_value ∷ []

-- a character as it is compared
abbrev pub said_character : Said → ℕ → ℕ
said_character Encoding c = small c
said_character Version c = c
said_character Standalone c = c

-- the rule that a value breaks by a character that leaves all that may be said
abbrev pub said_fault : Said → ℕ → ℕ → ℕ
said_fault Encoding quote c = if is_encoding_character c || c == quote then 9 else 3
said_fault Version quote c = 3
said_fault Standalone quote c = 3

unfoldable pub said_value_step : State → Said → ℕ → List ℕ → ℕ → Result State ℕ
said_value_step s said quote read c =
    if c == quote
    then (if list_any (bytes_eq read) (said_values said) then Ok (go s (AtDeclaration (Some said) false))
    else Err (said_fault said quote c))
    else (if list_any (begins (read ++ said_character said c ∷ [])) (said_values said)
    then Ok (go s (AtSaidValue said quote (read ++ said_character said c ∷ [])))
    else Err (said_fault said quote c))

unfoldable pub declaration_end_step : State → ℕ → Result State ℕ
declaration_end_step s c = if c == 62 then Ok (stand s (AtContent 0)) else Err 3

-- the step at a place
abbrev pub step_at : Place → State → ℕ → Result State ℕ
step_at (AtContent before) s c = content_step s before c
step_at AtOpened s c = opened_step s c
step_at AtBang s c = bang_step s c
step_at AtDash s c = dash_step s c
step_at (AtComment dashes) s c = comment_step s dashes c
step_at (AtSectionWord left) s c = section_word_step s left c
step_at (AtSection before) s c = section_step s before c
step_at AtQuestion s c = question_step s c
step_at (AtTarget target) s c = target_step s target c
step_at AtTargetEnd s c = target_end_step s c
step_at (AtInstruction mark) s c = instruction_step s mark c
step_at (AtTagName reading) s c = tag_name_step s reading c
step_at (AtTag tag spaced) s c = tag_step s tag spaced c
step_at (AtAttributeName tag reading) s c = attribute_name_step s tag reading c
step_at (AtNamed tag name) s c = named_step s tag name c
step_at (AtEquals tag name) s c = equals_step s tag name c
step_at (AtValue v) s c = value_step s v c
step_at (AtSlash tag) s c = slash_step s c
step_at AtEndTag s c = end_tag_step s c
step_at (AtEndName reading left) s c = end_name_step s reading left c
step_at AtEndSpace s c = end_space_step s c
step_at (AtReference within) s c = reference_step s within c
step_at (AtEntity within name) s c = entity_step s within name c
step_at (AtHash within) s c = hash_step s within c
step_at (AtHexadecimal within) s c = hexadecimal_step s within c
step_at (AtNumber within hexadecimal value) s c = number_step s within hexadecimal value c
step_at (AtDeclaration last spaced) s c = declaration_step s last spaced c
step_at (AtSaidWord said left) s c = said_word_step s said left c
step_at (AtSaid said) s c = said_step s said c
step_at (AtSaidEquals said) s c = said_equals_step s said c
step_at (AtSaidValue said quote read) s c = said_value_step s said quote read c
step_at AtDeclarationEnd s c = declaration_end_step s c

-- the state behind one character more, or the rule that it breaks
unfoldable pub step : State → ℕ → Result State ℕ
step s c = step_at s.place s c

-- between pieces of markup
abbrev pub is_between : Place → Bool
is_between (AtContent before) = true
is_between _ = false

abbrev pub is_outside : List Frame → Bool
is_outside [] = true
is_outside (frame ∷ frames) = false

-- the document may end there
unfoldable pub accepts : State → Bool
accepts s = is_between s.place && (is_outside s.frames && s.begun == 1)

-- what a place does with characters past ASCII; `Refuses` where none goes on
abbrev pub refuses : Beyond
refuses = Never [] 3 3

-- in a name as far as it was read
abbrev pub rows_in : Reading → Beyond
rows_in (First part) = Only high_name_rows 3
rows_in (Colon prefix) = Only high_start_rows 3
rows_in (Second prefix part) = Only high_name_rows 3

abbrev pub beyond_top : Ahead → Beyond
beyond_top MarkAhead = One 0xFEFF [] 10 10
beyond_top DeclarationAhead = Never [] 10 10
beyond_top NothingAhead = Never [] 10 10

abbrev pub beyond_content : List Frame → Ahead → Beyond
beyond_content [] ahead = beyond_top ahead
beyond_content (frame ∷ frames) ahead = All

abbrev pub beyond_opened : Option ℕ → Beyond
beyond_opened None = Only high_start_rows 3
beyond_opened (Some rule) = Never high_start_rows rule 3

abbrev pub beyond_comment : ℕ → Beyond
beyond_comment dashes = if dashes == 2 then refuses else All

abbrev pub beyond_tag : Bool → Beyond
beyond_tag true = Only high_start_rows 3
beyond_tag false = refuses

abbrev pub beyond_value : Option (List ℕ) → Beyond
beyond_value (Some fixed) = refuses
beyond_value None = All

-- where a name must go on as wanted
abbrev pub beyond_end : Reading → List ℕ → Beyond
beyond_end (First part) [] = Never high_name_rows 4 3
beyond_end (Colon prefix) [] = Never high_start_rows 4 3
beyond_end (Second prefix part) [] = Never high_name_rows 4 3
beyond_end (First part) (w ∷ left) = if nat_lt w 128 then Never high_name_rows 4 3 else One w high_name_rows 4 3
beyond_end (Colon prefix) (w ∷ left) = if nat_lt w 128 then Never high_start_rows 4 3 else One w high_start_rows 4 3
beyond_end (Second prefix part) (w ∷ left) = if nat_lt w 128 then Never high_name_rows 4 3 else One w high_name_rows 4 3

-- the first character of an end tag's name is wanted as one behind a colon is
abbrev pub beyond_end_tag : List ℕ → Beyond
beyond_end_tag wanted = beyond_end (Colon []) wanted

abbrev pub beyond_at : Place → State → Beyond
beyond_at (AtContent before) s = beyond_content s.frames s.ahead
beyond_at AtOpened s = beyond_opened (may_begin s.begun s.frames)
beyond_at (AtComment dashes) s = beyond_comment dashes
beyond_at (AtSection before) s = All
beyond_at AtQuestion s = Only high_start_rows 3
beyond_at (AtTarget target) s = Only high_name_rows 3
beyond_at (AtInstruction mark) s = All
beyond_at (AtTagName reading) s = rows_in reading
beyond_at (AtTag tag spaced) s = beyond_tag spaced
beyond_at (AtAttributeName tag reading) s = rows_in reading
beyond_at (AtValue v) s = beyond_value (fixed_value v.name)
beyond_at AtEndTag s = beyond_end_tag (wanted s.frames)
beyond_at (AtEndName reading left) s = beyond_end reading left
beyond_at (AtReference within) s = Never high_start_rows 6 3
beyond_at (AtEntity within name) s = Never high_name_rows 6 3
beyond_at _ s = refuses

unfoldable pub beyond : State → Beyond
beyond s = beyond_at s.place s
