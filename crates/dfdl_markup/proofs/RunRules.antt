-- The machine tells rules from 3 to 12 alone.
use Rattle.std.proofs.Common.{ℕ, suc, ◌+◌, ◌*◌, ◌==◌, ◌<◌, ◌≤◌, ◌&&◌, ◌||◌, Bool, true, false}
use Rattle.std.proofs.Common.{if◌then◌else◌, List, [], ◌∷◌, ◌++◌, length, Option, Some, None}
use Rattle.std.proofs.Common.{Result, Ok}
use Rattle.std.proofs.Common.{Err, nat_le, nat_lt, arith}
use Rattle.std.specs.List.{list_any}
use Rattle.std.specs.Str.{bytes_eq}
use Rattle.dfdl_layers.specs.Tellers.{go_on, run}
use Rattle.dfdl_xml_chars.specs.Characters.{is_allowed, is_name_start, is_name_char}
use Rattle.dfdl_markup.specs.Grammar.{is_white, is_quote, Name, section_word, Said, Version}
use Rattle.dfdl_markup.specs.Grammar.{Encoding}
use Rattle.dfdl_markup.specs.Grammar.{Standalone, xml_word}
use Rattle.dfdl_markup.specs.Values.{is_digit, digit_value, base_of, entity, declares}
use Rattle.dfdl_markup.specs.Rules.{is_xml, is_encoding_character, deepest}
use Rattle.dfdl_markup.specs.Machine.{Reading, First, name_next, whole_name, StartTag, OpenValue}
use Rattle.dfdl_markup.specs.Machine.{Within, Place, AtContent, AtOpened, AtBang, AtDash, AtComment}
use Rattle.dfdl_markup.specs.Machine.{AtSectionWord, AtSection, AtQuestion, AtTarget, AtTargetEnd}
use Rattle.dfdl_markup.specs.Machine.{AtInstruction, AtTagName, AtTag, AtAttributeName, AtNamed}
use Rattle.dfdl_markup.specs.Machine.{AtEquals, AtValue, AtSlash, AtEndTag, AtEndName, AtEndSpace}
use Rattle.dfdl_markup.specs.Machine.{AtReference, AtEntity, AtHash, AtHexadecimal, AtNumber}
use Rattle.dfdl_markup.specs.Machine.{AtDeclaration, AtSaidWord, AtSaid, AtSaidEquals, AtSaidValue}
use Rattle.dfdl_markup.specs.Machine.{AtDeclarationEnd, Ahead, MarkAhead, DeclarationAhead}
use Rattle.dfdl_markup.specs.Machine.{NothingAhead, Frame, State, stand, scope_of, marked}
use Rattle.dfdl_markup.specs.Machine.{content_by, content_step, may_begin, begin_by, inside}
use Rattle.dfdl_markup.specs.Machine.{opened_step, bang_step, dash_step, comment_step}
use Rattle.dfdl_markup.specs.Machine.{section_word_step, section_step, question_step, may_declare}
use Rattle.dfdl_markup.specs.Machine.{target_ended, target_step, target_end_step, instruction_step}
use Rattle.dfdl_markup.specs.Machine.{have_clash, all_found, if_ends, entered, tag_step, tag_of}
use Rattle.dfdl_markup.specs.Machine.{tag_name_or, tag_name_step, is_given, behind_name}
use Rattle.dfdl_markup.specs.Machine.{attribute_name_or, attribute_name_step, named_step}
use Rattle.dfdl_markup.specs.Machine.{equals_step, begins, fixed_value, with_value, may_close}
use Rattle.dfdl_markup.specs.Machine.{has_sure_clash, value_ended, value_goes_on, value_step}
use Rattle.dfdl_markup.specs.Machine.{slash_step, end_next, wanted, end_tag_step, left_behind}
use Rattle.dfdl_markup.specs.Machine.{end_space_step, end_ended, end_name_or, end_name_step}
use Rattle.dfdl_markup.specs.Machine.{begins_entity, entity_next, reference_step, entity_ended}
use Rattle.dfdl_markup.specs.Machine.{entity_step, number_next, hash_step, hexadecimal_step}
use Rattle.dfdl_markup.specs.Machine.{number_step, said_next, said_begun, declaration_ending}
use Rattle.dfdl_markup.specs.Machine.{declaration_step, said_step, said_word_step, said_equals_step}
use Rattle.dfdl_markup.specs.Machine.{said_values, said_character, said_fault, said_value_step}
use Rattle.dfdl_markup.specs.Machine.{declaration_end_step, step_at, step}

-- an answer that tells no rule but these
abbrev pub TellsRule : Result State ℕ → Type 0
TellsRule (Ok t) = Unit {0}
TellsRule (Err m) = (3 ≤ m) × (m < 13)

either : (t : Bool) (x y : Result State ℕ) → TellsRule x → TellsRule y
    → TellsRule (if t then x else y)
either true x y first second = first
either false x y first second = second

content_tells : (frames : List Frame) (s : State) (before c : ℕ)
    → TellsRule (content_by frames s before c)
content_tells [] s before c =
    either (c == 60) _ _ tt
    (either (is_white c) _ _ tt (either (c == 0xFEFF) _ _ (by s.ahead) (omega arith, omega arith)))
  where
    by : (ahead : Ahead) → TellsRule (marked s ahead)
    by MarkAhead = tt
    by DeclarationAhead = (omega arith, omega arith)
    by NothingAhead = (omega arith, omega arith)
content_tells (frame ∷ frames) s before c =
    either (c == 60) _ _ tt
    (either (c == 38) _ _ tt (either (before == 2 && c == 62) _ _ (omega arith, omega arith) tt))

begin_tells : (begun : ℕ) (frames : List Frame) (s : State) (c : ℕ)
    → TellsRule (begin_by (may_begin begun frames) s c)
begin_tells begun [] s c = by (begun == 0)
  where
    by : (t : Bool) → TellsRule (begin_by (if t then None else Some 10) s c)
    by true = tt
    by false = (omega arith, omega arith)
begin_tells begun (frame ∷ frames) s c = by (nat_lt (suc (length frames)) deepest)
  where
    by : (t : Bool) → TellsRule (begin_by (if t then None else Some 11) s c)
    by true = tt
    by false = (omega arith, omega arith)

inside_tells : (frames : List Frame) (s : State) (place : Place) → TellsRule (inside frames s place)
inside_tells [] s place = (omega arith, omega arith)
inside_tells (frame ∷ frames) s place = tt

ends_tells : (s : State) (tag : StartTag) (next : State) → TellsRule (if_ends s tag next)
ends_tells s tag next =
    either (have_clash (scope_of s.frames) tag.attributes) _ _ (omega arith, omega arith)
    (either (all_found (scope_of s.frames) tag) _ _ tt (omega arith, omega arith))

tag_tells : (s : State) (tag : StartTag) (spaced : Bool) (c : ℕ)
    → TellsRule (tag_step s tag spaced c)
unfolding tag_step
tag_tells s tag spaced c =
    either (is_white c) _ _ tt (either (c == 62) _ _ (ends_tells s tag (entered s tag))
    (either (c == 47) _ _ (ends_tells s tag (stand s (AtSlash tag)))
    (either (spaced && is_name_start c) _ _ tt (omega arith, omega arith))))

tag_name_tells : (next : Option Reading) (whole : Option Name) (s : State) (c : ℕ)
    → TellsRule (tag_name_or next whole s c)
tag_name_tells (Some next) whole s c = tt
tag_name_tells None (Some name) s c = tag_tells s (tag_of name) false c
tag_name_tells None None s c = (omega arith, omega arith)

behind_tells : (s : State) (tag : StartTag) (name : Name) (c : ℕ)
    → TellsRule (behind_name s tag name c)
unfolding behind_name
behind_tells s tag name c =
    either (is_white c) _ _ (either (is_given tag name) _ _ (omega arith, omega arith) tt)
    (either (c == 61) _ _ (either (is_given tag name) _ _ (omega arith, omega arith) tt)
    (omega arith, omega arith))

attribute_tells : (next : Option Reading) (whole : Option Name) (s : State) (tag : StartTag) (c : ℕ)
    → TellsRule (attribute_name_or next whole s tag c)
attribute_tells (Some next) whole s tag c = tt
attribute_tells None (Some name) s tag c = behind_tells s tag name c
attribute_tells None None s tag c = (omega arith, omega arith)

value_tells : (f : Option (List ℕ)) (s : State) (v : OpenValue) (c : ℕ)
    → TellsRule (value_goes_on f s v c)
value_tells (Some fixed) s v c = either (begins (v.text ++ c ∷ []) fixed) _ _ tt
    (omega arith, omega arith)
value_tells None s v c = either (c == 60) _ _ (omega arith, omega arith)
    (either (c == 38) _ _ tt tt)

value_end_tells : (s : State) (v : OpenValue) → TellsRule (value_ended s v)
value_end_tells s v =
    either (may_close (declares v.name) (fixed_value v.name) v.text) _ _
    (either (has_sure_clash (declares v.name) (with_value v).attributes) _ _
    (omega arith, omega arith) tt) (omega arith, omega arith)

end_next_tells : (s : State) (reading : Reading) (left : List ℕ) (c : ℕ)
    → TellsRule (end_next s reading left c)
end_next_tells s reading [] c = (omega arith, omega arith)
end_next_tells s reading (w ∷ left) c = either (c == w) _ _ tt (omega arith, omega arith)

end_space_tells : (s : State) (c : ℕ) → TellsRule (end_space_step s c)
unfolding end_space_step
end_space_tells s c = either (is_white c) _ _ tt
    (either (c == 62) _ _ (by s.frames) (omega arith, omega arith))
  where
    by : (frames : List Frame) → TellsRule (left_behind s frames)
    by [] = (omega arith, omega arith)
    by (frame ∷ frames) = tt

ended_tells : (left : List ℕ) (s : State) (c : ℕ) → TellsRule (end_ended left s c)
ended_tells [] s c = end_space_tells s c
ended_tells (w ∷ left) s c = either (is_white c || c == 62) _ _ (omega arith, omega arith)
    (omega arith, omega arith)

end_name_tells : (next : Option Reading) (whole : Option Name) (s : State) (left : List ℕ) (c : ℕ)
    → TellsRule (end_name_or next whole s left c)
end_name_tells (Some next) whole s left c = end_next_tells s next left c
end_name_tells None (Some name) s left c = ended_tells left s c
end_name_tells None None s left c = (omega arith, omega arith)

entity_tells : (s : State) (within : Within) (name : List ℕ) → TellsRule (entity_next s within name)
entity_tells s within name = either (begins_entity name) _ _ tt (omega arith, omega arith)

entity_end_tells : (s : State) (within : Within) (o : Option ℕ)
    → TellsRule (entity_ended s within o)
entity_end_tells s within None = (omega arith, omega arith)
entity_end_tells s within (Some d) = tt

number_tells : (s : State) (within : Within) (hexadecimal : Bool) (value : ℕ)
    → TellsRule (number_next s within hexadecimal value)
number_tells s within hexadecimal value = either (nat_le value 0x10FFFF) _ _ tt
    (omega arith, omega arith)

said_tells : (s : State) (said : Said) (c : ℕ) → TellsRule (said_step s said c)
unfolding said_step
said_tells s said c = either (is_white c) _ _ tt
    (either (c == 61) _ _ tt (omega arith, omega arith))

fault_tells : (said : Said) (quote c : ℕ)
    → (3 ≤ said_fault said quote c) × (said_fault said quote c < 13)
fault_tells Version quote c = (omega arith, omega arith)
fault_tells Standalone quote c = (omega arith, omega arith)
fault_tells Encoding quote c = by (is_encoding_character c || c == quote)
  where
    by : (t : Bool) → (3 ≤ (if t then 9 else 3)) × ((if t then 9 else 3) < 13)
    by true = (omega arith, omega arith)
    by false = (omega arith, omega arith)

target_tells : (s : State) (target : List ℕ) → TellsRule (target_ended s target)
target_tells s target =
    either (is_xml target) _ _
    (either (may_declare s.ahead && bytes_eq target xml_word) _ _ tt (omega arith, omega arith)) tt

declaration_tells : (last : Option Said) (s : State) → TellsRule (declaration_ending last s)
declaration_tells None s = (omega arith, omega arith)
declaration_tells (Some said) s = tt

begun_tells : (said : Option Said) (s : State) → TellsRule (said_begun said s)
begun_tells None s = (omega arith, omega arith)
begun_tells (Some said) s = tt

step_tells : (place : Place) (s : State) (c : ℕ) → TellsRule (step_at place s c)
unfolding content_step opened_step bang_step dash_step comment_step section_word_step section_step
    question_step target_step target_end_step instruction_step tag_name_step attribute_name_step
    named_step equals_step value_step slash_step end_tag_step end_name_step reference_step
    entity_step hash_step hexadecimal_step number_step declaration_step said_word_step
    said_equals_step said_value_step declaration_end_step
step_tells (AtContent before) s c = content_tells s.frames s before c
step_tells AtOpened s c =
    either (is_name_start c) _ _ (begin_tells s.begun s.frames s c)
    (either (c == 47) _ _ (inside_tells s.frames s AtEndTag)
    (either (c == 33) _ _ tt (either (c == 63) _ _ tt (omega arith, omega arith))))
step_tells AtBang s c =
    either (c == 45) _ _ tt
    (either (c == 91) _ _ (inside_tells s.frames s (AtSectionWord section_word))
    (omega arith, omega arith))
step_tells AtDash s c = either (c == 45) _ _ tt (omega arith, omega arith)
step_tells (AtComment dashes) s c =
    either (dashes == 2) _ _ (either (c == 62) _ _ tt (omega arith, omega arith))
    (either (c == 45) _ _ tt tt)
step_tells (AtSectionWord []) s c = (omega arith, omega arith)
step_tells (AtSectionWord (w ∷ left)) s c = either (c == w) _ _ tt (omega arith, omega arith)
step_tells (AtSection before) s c = either (before == 2 && c == 62) _ _ tt tt
step_tells AtQuestion s c = either (is_name_start c) _ _ tt (omega arith, omega arith)
step_tells (AtTarget target) s c =
    either (is_name_char c) _ _ tt (either (is_white c) _ _ (target_tells s target)
    (either (c == 63) _ _ (either (is_xml target) _ _ (omega arith, omega arith) tt)
    (omega arith, omega arith)))
step_tells AtTargetEnd s c = either (c == 62) _ _ tt (omega arith, omega arith)
step_tells (AtInstruction mark) s c = either (mark && c == 62) _ _ tt tt
step_tells (AtTagName reading) s c = tag_name_tells (name_next reading c) (whole_name reading) s c
step_tells (AtTag tag spaced) s c = tag_tells s tag spaced c
step_tells (AtAttributeName tag reading) s c =
    attribute_tells (name_next reading c) (whole_name reading) s tag c
step_tells (AtNamed tag name) s c = either (is_white c) _ _ tt
    (either (c == 61) _ _ tt (omega arith, omega arith))
step_tells (AtEquals tag name) s c = either (is_white c) _ _ tt
    (either (is_quote c) _ _ tt (omega arith, omega arith))
step_tells (AtValue v) s c =
    either (c == v.quote) _ _ (value_end_tells s v) (value_tells (fixed_value v.name) s v c)
step_tells (AtSlash tag) s c = either (c == 62) _ _ tt (omega arith, omega arith)
step_tells AtEndTag s c =
    either (is_name_start c) _ _ (end_next_tells s (First (c ∷ [])) (wanted s.frames) c)
    (omega arith, omega arith)
step_tells (AtEndName reading left) s c =
    end_name_tells (name_next reading c) (whole_name reading) s left c
step_tells AtEndSpace s c = end_space_tells s c
step_tells (AtReference within) s c =
    either (is_name_start c) _ _ (entity_tells s within (c ∷ []))
    (either (c == 35) _ _ tt (omega arith, omega arith))
step_tells (AtEntity within name) s c =
    either (is_name_char c) _ _ (entity_tells s within (name ++ c ∷ []))
    (either (c == 59) _ _ (entity_end_tells s within (entity name)) (omega arith, omega arith))
step_tells (AtHash within) s c =
    either (is_digit false c) _ _ (number_tells s within false (digit_value c))
    (either (c == 120) _ _ tt (omega arith, omega arith))
step_tells (AtHexadecimal within) s c =
    either (is_digit true c) _ _ (number_tells s within true (digit_value c))
    (omega arith, omega arith)
step_tells (AtNumber within hexadecimal value) s c =
    either (is_digit hexadecimal c) _ _
    (number_tells s within hexadecimal (value * base_of hexadecimal + digit_value c))
    (either (c == 59) _ _ (either (is_allowed value) _ _ tt (omega arith, omega arith))
    (omega arith, omega arith))
step_tells (AtDeclaration last spaced) s c =
    either (is_white c) _ _ tt (either (c == 63) _ _ (declaration_tells last s)
    (either spaced _ _ (begun_tells (said_next last c) s) (omega arith, omega arith)))
step_tells (AtSaidWord said []) s c = said_tells s said c
step_tells (AtSaidWord said (w ∷ left)) s c = either (c == w) _ _ tt (omega arith, omega arith)
step_tells (AtSaid said) s c = said_tells s said c
step_tells (AtSaidEquals said) s c = either (is_white c) _ _ tt
    (either (is_quote c) _ _ tt (omega arith, omega arith))
step_tells (AtSaidValue said quote read) s c =
    either (c == quote) _ _
    (either (list_any (bytes_eq read) (said_values said)) _ _ tt (fault_tells said quote c))
    (either (list_any (begins (read ++ said_character said c ∷ [])) (said_values said)) _ _ tt
    (fault_tells said quote c))
step_tells AtDeclarationEnd s c = either (c == 62) _ _ tt (omega arith, omega arith)

-- over any text
pub run_tells : (text : List ℕ) (s : State) → TellsRule (run step s text)
unfolding step
run_tells [] s = tt
run_tells (c ∷ text) s = by (step s c) (step_tells s.place s c) (λ t. run_tells text t)
  where
    by : (answer : Result State ℕ) → TellsRule answer → ((t : State) → TellsRule (run step t text))
        → TellsRule (go_on (λ t. run step t text) answer)
    by (Ok t) tells more = more t
    by (Err m) tells more = tells
