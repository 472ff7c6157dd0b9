-- The states that the reader comes to.
use Rattle.std.proofs.Common.{◌≡◌, ℕ, ◌<◌, ◌≤◌, Bool, true, false, List, [], ◌∷◌, ◌++◌}
use Rattle.std.proofs.Common.{length, Option, Some, None}
use Rattle.std.specs.List.{list_any}
use Rattle.dfdl_layers.specs.Tellers.{Each}
use Rattle.dfdl_markup.specs.Grammar.{Name, is_quote, section_word, said_word}
use Rattle.dfdl_markup.specs.Values.{Attribute, same_name, bindings_of, same_expanded, have_same}
use Rattle.dfdl_markup.specs.Values.{names_of, declares}
use Rattle.dfdl_markup.specs.Rules.{IsPart, IsName, deepest}
use Rattle.dfdl_markup.specs.Machine.{Reading, StartTag, OpenValue, Within, InContent, InValue, Place}
use Rattle.dfdl_markup.specs.Machine.{AtContent, AtOpened, AtBang, AtDash, AtComment, AtSectionWord}
use Rattle.dfdl_markup.specs.Machine.{AtSection, AtQuestion, AtTarget, AtTargetEnd, AtInstruction}
use Rattle.dfdl_markup.specs.Machine.{AtTagName, AtTag, AtAttributeName, AtNamed, AtEquals, AtValue}
use Rattle.dfdl_markup.specs.Machine.{AtSlash, AtEndTag, AtEndName, AtEndSpace, AtReference, AtEntity}
use Rattle.dfdl_markup.specs.Machine.{AtHash, AtHexadecimal, AtNumber, AtDeclaration, AtSaidWord}
use Rattle.dfdl_markup.specs.Machine.{AtSaid, AtSaidEquals, AtSaidValue, AtDeclarationEnd, Ahead}
use Rattle.dfdl_markup.specs.Machine.{MarkAhead, DeclarationAhead, NothingAhead, Frame, State}
use Rattle.dfdl_markup.specs.Machine.{may_begin, have_clash, all_found, scope_of, is_given}
use Rattle.dfdl_markup.specs.Machine.{fixed_value, begins, begins_entity, said_values, wanted}
use Rattle.dfdl_markup.specs.Machine.{may_close}
use Rattle.dfdl_markup.proofs.Rest.{reading_characters, IsReading}

-- the open elements have names, and are so many at most
abbrev pub SoundFrames : List Frame → Type 0
SoundFrames frames = Each (λ frame. IsName frame.name) frames × (length frames ≤ deepest)

-- outside of the root it was read or not; inside it is begun
abbrev pub SoundRoots : ℕ → List Frame → Type 0
SoundRoots begun [] = begun ≤ 1
SoundRoots begun (frame ∷ frames) = begun ≡ 1

-- inside of the root
abbrev pub IsInside : List Frame → Type 0
IsInside [] = ⊥
IsInside (frame ∷ frames) = Unit {0}

-- what an attribute declares, if it does, may be declared
abbrev pub MayStand : Attribute → Type 0
MayStand attribute =
    may_close (declares attribute.name) (fixed_value attribute.name) attribute.value ≡ true

-- a start tag as far as it was read: its names are names, none is given twice so far, and what is
-- declared may be
pub record SoundTag (tag : StartTag) : Type 0 where
  pub name : IsName tag.name
  pub names : Each IsName (names_of tag.attributes)
  pub written : have_same same_name (names_of tag.attributes) ≡ false
  pub expanded : have_same (same_expanded (bindings_of tag.attributes)) (names_of tag.attributes) ≡ false
  pub binds : Each MayStand tag.attributes

-- an element may begin where its start tag is
abbrev pub MayBegin : ℕ → List Frame → Type 0
MayBegin begun frames = may_begin begun frames ≡ None

-- an attribute's name that is new
abbrev pub SoundName : StartTag → Name → Type 0
SoundName tag name = SoundTag tag × IsName name × (is_given tag name ≡ false)

-- a fixed value is kept so far
abbrev pub KeepsFixed : Option (List ℕ) → List ℕ → Type 0
KeepsFixed None text = Unit {0}
KeepsFixed (Some fixed) text = begins text fixed ≡ true

abbrev pub SoundValue : OpenValue → Type 0
SoundValue v = SoundName v.tag v.name × (is_quote v.quote ≡ true) × KeepsFixed (fixed_value v.name) v.text

-- where a reference may stand
abbrev pub SoundWithin : Within → ℕ → List Frame → Type 0
SoundWithin InContent begun frames = IsInside frames
SoundWithin (InValue v) begun frames = SoundValue v × (fixed_value v.name ≡ None) × MayBegin begun frames

-- the rest of an end tag's name is what is left of the one that is wanted
abbrev pub SoundEnd : Reading → List ℕ → List Frame → Type 0
SoundEnd reading left frames =
    IsInside frames × IsReading reading × (reading_characters reading ++ left ≡ wanted frames)

abbrev pub SoundAt : Place → ℕ → List Frame → Type 0
SoundAt (AtContent before) begun [] = before ≡ 0
SoundAt (AtContent before) begun (frame ∷ frames) = before ≤ 2
SoundAt AtOpened begun frames = Unit {0}
SoundAt AtBang begun frames = Unit {0}
SoundAt AtDash begun frames = Unit {0}
SoundAt (AtComment dashes) begun frames = dashes ≤ 2
SoundAt (AtSectionWord left) begun frames =
    IsInside frames × ((word : List ℕ) × (word ++ left ≡ section_word)) × (0 < length left)
SoundAt (AtSection before) begun frames = IsInside frames × (before ≤ 2)
SoundAt AtQuestion begun frames = Unit {0}
SoundAt (AtTarget target) begun frames = IsPart target
SoundAt AtTargetEnd begun frames = Unit {0}
SoundAt (AtInstruction mark) begun frames = Unit {0}
SoundAt (AtTagName reading) begun frames = IsReading reading × MayBegin begun frames
SoundAt (AtTag tag spaced) begun frames = SoundTag tag × MayBegin begun frames
SoundAt (AtAttributeName tag reading) begun frames =
    SoundTag tag × IsReading reading × MayBegin begun frames
SoundAt (AtNamed tag name) begun frames = SoundName tag name × MayBegin begun frames
SoundAt (AtEquals tag name) begun frames = SoundName tag name × MayBegin begun frames
SoundAt (AtValue v) begun frames = SoundValue v × MayBegin begun frames
SoundAt (AtSlash tag) begun frames =
    SoundTag tag × MayBegin begun frames × (have_clash (scope_of frames) tag.attributes ≡ false)
    × (all_found (scope_of frames) tag ≡ true)
SoundAt AtEndTag begun frames = IsInside frames
SoundAt (AtEndName reading left) begun frames = SoundEnd reading left frames
SoundAt AtEndSpace begun frames = IsInside frames
SoundAt (AtReference within) begun frames = SoundWithin within begun frames
SoundAt (AtEntity within name) begun frames =
    SoundWithin within begun frames × IsPart name × (begins_entity name ≡ true)
SoundAt (AtHash within) begun frames = SoundWithin within begun frames
SoundAt (AtHexadecimal within) begun frames = SoundWithin within begun frames
SoundAt (AtNumber within hexadecimal value) begun frames =
    SoundWithin within begun frames × (value ≤ 0x10FFFF)
SoundAt (AtDeclaration last spaced) begun frames = Unit {0}
SoundAt (AtSaidWord said left) begun frames = (word : List ℕ) × (word ++ left ≡ said_word said)
SoundAt (AtSaid said) begun frames = Unit {0}
SoundAt (AtSaidEquals said) begun frames = Unit {0}
SoundAt (AtSaidValue said quote read) begun frames =
    (list_any (begins read) (said_values said) ≡ true) × (is_quote quote ≡ true)
SoundAt AtDeclarationEnd begun frames = Unit {0}

-- the places of the XML declaration, and those before it
abbrev pub in_declaration : Place → Bool
in_declaration (AtDeclaration last spaced) = true
in_declaration (AtSaidWord said left) = true
in_declaration (AtSaid said) = true
in_declaration (AtSaidEquals said) = true
in_declaration (AtSaidValue said quote read) = true
in_declaration AtDeclarationEnd = true
in_declaration _ = false

abbrev pub before_declaration : Place → Bool
before_declaration (AtContent before) = true
before_declaration AtOpened = true
before_declaration AtQuestion = true
before_declaration (AtTarget target) = true
before_declaration place = in_declaration place

-- before all else nothing is begun, and only some places may be there
abbrev pub SoundAhead : Ahead → Place → ℕ → List Frame → Type 0
SoundAhead NothingAhead place begun frames = in_declaration place ≡ false
SoundAhead DeclarationAhead place begun frames =
    (before_declaration place ≡ true) × (begun ≡ 0) × (frames ≡ [])
SoundAhead MarkAhead place begun frames =
    (before_declaration place ≡ true) × (begun ≡ 0) × (frames ≡ [])

pub record Sound (s : State) : Type 0 where
  pub frames : SoundFrames s.frames
  pub roots : SoundRoots s.begun s.frames
  pub ahead : SoundAhead s.ahead s.place s.begun s.frames
  pub place : SoundAt s.place s.begun s.frames
