-- What each place does with a character past ASCII is what is said of it.
use Rattle.std.proofs.Common.{◌≡◌, ℕ, suc, ◌≤◌, ◌==◌, Bool, true, false, List, [], ◌∷◌, Option}
use Rattle.std.proofs.Common.{Some, None, refl, arith, nat_lt, length}
use Rattle.std.proofs.lemmas.Bool.{cond_both}
use Rattle.std.specs.Char.{IsScalar}
use Rattle.dfdl_xml_chars.specs.Characters.{is_allowed, char_rows}
use Rattle.dfdl_xml_chars.specs.Beyond.{Beyond, All, Does, FitsBehind}
use Rattle.dfdl_xml_chars.proofs.Tables.{start_rows_allowed, name_rows_allowed, no_rows_allowed}
use Rattle.dfdl_markup.specs.Rules.{deepest}
use Rattle.dfdl_markup.specs.Machine.{Reading, First, Colon, Second, Place, AtContent, AtOpened}
use Rattle.dfdl_markup.specs.Machine.{AtBang, AtDash, AtComment, AtSectionWord, AtSection}
use Rattle.dfdl_markup.specs.Machine.{AtQuestion, AtTarget, AtTargetEnd, AtInstruction, AtTagName}
use Rattle.dfdl_markup.specs.Machine.{AtTag, AtAttributeName, AtNamed, AtEquals, AtValue, AtSlash}
use Rattle.dfdl_markup.specs.Machine.{AtEndTag, AtEndName, AtEndSpace, AtReference, AtEntity}
use Rattle.dfdl_markup.specs.Machine.{AtHash, AtHexadecimal, AtNumber, AtDeclaration, AtSaidWord}
use Rattle.dfdl_markup.specs.Machine.{AtSaid, AtSaidEquals, AtSaidValue, AtDeclarationEnd, Ahead}
use Rattle.dfdl_markup.specs.Machine.{MarkAhead, DeclarationAhead, NothingAhead, Frame, State}
use Rattle.dfdl_markup.specs.Machine.{may_begin, fixed_value, step_at, step, refuses, rows_in}
use Rattle.dfdl_markup.specs.Machine.{beyond_content, beyond_opened, beyond_comment, beyond_tag}
use Rattle.dfdl_markup.specs.Machine.{beyond_value, beyond_at, beyond}
use Rattle.dfdl_markup.proofs.Sound.{Sound}
use Rattle.dfdl_markup.proofs.Moves.{at}
use Rattle.dfdl_markup.proofs.ForesightPieces.{reference_does, entity_does, hash_does}
use Rattle.dfdl_markup.proofs.ForesightPieces.{hexadecimal_does, number_does, declaration_does}
use Rattle.dfdl_markup.proofs.ForesightPieces.{said_does, said_word_does, said_equals_does}
use Rattle.dfdl_markup.proofs.ForesightPieces.{said_value_does, declaration_end_does}
use Rattle.dfdl_markup.proofs.ForesightContent.{content_does, opened_does, bang_does, dash_does}
use Rattle.dfdl_markup.proofs.ForesightContent.{comment_does, section_word_does, section_does}
use Rattle.dfdl_markup.proofs.ForesightContent.{question_does, target_does, target_end_does}
use Rattle.dfdl_markup.proofs.ForesightContent.{instruction_does}
use Rattle.dfdl_markup.proofs.ForesightTags.{tag_name_does, tag_does, attribute_name_does}
use Rattle.dfdl_markup.proofs.ForesightTags.{named_does, equals_does, value_does, slash_does}
use Rattle.dfdl_markup.proofs.ForesightEnds.{end_name_fits, end_tag_fits, end_tag_does}
use Rattle.dfdl_markup.proofs.ForesightEnds.{end_space_does, end_name_does}

-- what it does, place by place
does_at : (place : Place) (ahead : Ahead) (begun : ℕ) (frames : List Frame) (c : ℕ)
    → Sound (at ahead place begun frames) → 128 ≤ c
    → Does (beyond_at place (at ahead place begun frames)) c
    (step_at place (at ahead place begun frames) c)
does_at (AtContent before) ahead begun frames c sound high =
    content_does (at ahead (AtContent before) begun frames) c high before
does_at AtOpened ahead begun frames c sound high =
    opened_does (at ahead AtOpened begun frames) c high
does_at AtBang ahead begun frames c sound high = bang_does (at ahead AtBang begun frames) c high
does_at AtDash ahead begun frames c sound high = dash_does (at ahead AtDash begun frames) c high
does_at (AtComment dashes) ahead begun frames c sound high =
    comment_does (at ahead (AtComment dashes) begun frames) c high dashes
does_at (AtSectionWord left) ahead begun frames c sound high =
    section_word_does (at ahead (AtSectionWord left) begun frames) c high left sound.place.1
does_at (AtSection before) ahead begun frames c sound high =
    section_does (at ahead (AtSection before) begun frames) c high before
does_at AtQuestion ahead begun frames c sound high =
    question_does (at ahead AtQuestion begun frames) c high
does_at (AtTarget target) ahead begun frames c sound high =
    target_does (at ahead (AtTarget target) begun frames) c high target
does_at AtTargetEnd ahead begun frames c sound high =
    target_end_does (at ahead AtTargetEnd begun frames) c high
does_at (AtInstruction mark) ahead begun frames c sound high =
    instruction_does (at ahead (AtInstruction mark) begun frames) c high mark
does_at (AtTagName reading) ahead begun frames c sound high =
    tag_name_does (at ahead (AtTagName reading) begun frames) c high reading
does_at (AtTag tag spaced) ahead begun frames c sound high =
    tag_does (at ahead (AtTag tag spaced) begun frames) c high tag spaced
does_at (AtAttributeName tag reading) ahead begun frames c sound high =
    attribute_name_does (at ahead (AtAttributeName tag reading) begun frames) c high tag reading
does_at (AtNamed tag name) ahead begun frames c sound high =
    named_does (at ahead (AtNamed tag name) begun frames) c high tag name
does_at (AtEquals tag name) ahead begun frames c sound high =
    equals_does (at ahead (AtEquals tag name) begun frames) c high tag name
does_at (AtValue v) ahead begun frames c sound high =
    value_does (at ahead (AtValue v) begun frames) c high v sound.place.0.1
does_at (AtSlash tag) ahead begun frames c sound high =
    slash_does (at ahead (AtSlash tag) begun frames) c high
does_at AtEndTag ahead begun frames c sound high =
    end_tag_does (at ahead AtEndTag begun frames) c high sound.frames
does_at (AtEndName reading left) ahead begun frames c sound high =
    end_name_does (at ahead (AtEndName reading left) begun frames) c high reading left sound.frames
    sound.place
does_at AtEndSpace ahead begun frames c sound high =
    end_space_does (at ahead AtEndSpace begun frames) c high
does_at (AtReference within) ahead begun frames c sound high =
    reference_does (at ahead (AtReference within) begun frames) c high within
does_at (AtEntity within name) ahead begun frames c sound high =
    entity_does (at ahead (AtEntity within name) begun frames) c high within name
does_at (AtHash within) ahead begun frames c sound high =
    hash_does (at ahead (AtHash within) begun frames) c high within
does_at (AtHexadecimal within) ahead begun frames c sound high =
    hexadecimal_does (at ahead (AtHexadecimal within) begun frames) c high within
does_at (AtNumber within hexadecimal value) ahead begun frames c sound high =
    number_does (at ahead
    (AtNumber within hexadecimal value) begun frames) c high within hexadecimal
    value
does_at (AtDeclaration last spaced) ahead begun frames c sound high =
    declaration_does (at ahead (AtDeclaration last spaced) begun frames) c high last spaced
does_at (AtSaidWord said left) ahead begun frames c sound high =
    said_word_does (at ahead (AtSaidWord said left) begun frames) c high said left sound.place
does_at (AtSaid said) ahead begun frames c sound high =
    said_does (at ahead (AtSaid said) begun frames) c high said
does_at (AtSaidEquals said) ahead begun frames c sound high =
    said_equals_does (at ahead (AtSaidEquals said) begun frames) c high said
does_at (AtSaidValue said quote read) ahead begun frames c sound high =
    said_value_does (at ahead (AtSaidValue said quote read) begun frames) c high said quote read
    sound.place.1
does_at AtDeclarationEnd ahead begun frames c sound high =
    declaration_end_does (at ahead AtDeclarationEnd begun frames) c high

-- a character past ASCII does what its place says
pub does : (s : State) (c : ℕ) → Sound s → 128 ≤ c → IsScalar c → is_allowed c ≡ true
    → Does (beyond s) c (step s c)
unfolding step beyond
does s c sound high scalar allowed = does_at s.place s.ahead s.begun s.frames c sound high

-- the rules that are told stand behind the one that characters are allowed

refuses_fits : FitsBehind 2 refuses
refuses_fits = (no_rows_allowed, omega arith, omega arith)

mark_allowed : is_allowed 0xFEFF ≡ true
unfolding is_allowed char_rows
mark_allowed = refl

content_fits : (frames : List Frame) (ahead : Ahead) → FitsBehind 2 (beyond_content frames ahead)
content_fits [] MarkAhead = (no_rows_allowed, mark_allowed, omega arith, omega arith)
content_fits [] DeclarationAhead = (no_rows_allowed, omega arith, omega arith)
content_fits [] NothingAhead = (no_rows_allowed, omega arith, omega arith)
content_fits (frame ∷ frames) ahead = tt

opened_by : (rule : ℕ) → 3 ≤ rule → FitsBehind 2 (beyond_opened (Some rule))
opened_by rule least = (start_rows_allowed, omega arith, least)

opened_fits : (begun : ℕ) (frames : List Frame) → FitsBehind 2
    (beyond_opened (may_begin begun frames))
opened_fits begun [] =
    cond_both (begun == 0) None (Some 10) (λ (o : Option ℕ). FitsBehind 2 (beyond_opened o))
    (λ _. (start_rows_allowed, omega arith)) (λ _. opened_by 10 (omega arith))
opened_fits begun (frame ∷ frames) =
    cond_both (nat_lt (suc (length frames)) deepest) None (Some 11)
    (λ (o : Option ℕ). FitsBehind 2 (beyond_opened o)) (λ _. (start_rows_allowed, omega arith))
    (λ _. opened_by 11 (omega arith))

comment_fits : (dashes : ℕ) → FitsBehind 2 (beyond_comment dashes)
comment_fits dashes =
    cond_both (dashes == 2) refuses All (λ (b : Beyond). FitsBehind 2 b) (λ _. refuses_fits)
    (λ _. tt)

rows_fit : (reading : Reading) → FitsBehind 2 (rows_in reading)
rows_fit (First part) = (name_rows_allowed, omega arith)
rows_fit (Colon prefix) = (start_rows_allowed, omega arith)
rows_fit (Second prefix part) = (name_rows_allowed, omega arith)

tag_fits : (spaced : Bool) → FitsBehind 2 (beyond_tag spaced)
tag_fits true = (start_rows_allowed, omega arith)
tag_fits false = refuses_fits

value_fits : (fixed : Option (List ℕ)) → FitsBehind 2 (beyond_value fixed)
value_fits None = tt
value_fits (Some fixed) = refuses_fits

fits_at : (place : Place) (ahead : Ahead) (begun : ℕ) (frames : List Frame)
    → Sound (at ahead place begun frames)
    → FitsBehind 2 (beyond_at place (at ahead place begun frames))
fits_at (AtContent before) ahead begun frames sound = content_fits frames ahead
fits_at AtOpened ahead begun frames sound = opened_fits begun frames
fits_at AtBang ahead begun frames sound = refuses_fits
fits_at AtDash ahead begun frames sound = refuses_fits
fits_at (AtComment dashes) ahead begun frames sound = comment_fits dashes
fits_at (AtSectionWord left) ahead begun frames sound = refuses_fits
fits_at (AtSection before) ahead begun frames sound = tt
fits_at AtQuestion ahead begun frames sound = (start_rows_allowed, omega arith)
fits_at (AtTarget target) ahead begun frames sound = (name_rows_allowed, omega arith)
fits_at AtTargetEnd ahead begun frames sound = refuses_fits
fits_at (AtInstruction mark) ahead begun frames sound = tt
fits_at (AtTagName reading) ahead begun frames sound = rows_fit reading
fits_at (AtTag tag spaced) ahead begun frames sound = tag_fits spaced
fits_at (AtAttributeName tag reading) ahead begun frames sound = rows_fit reading
fits_at (AtNamed tag name) ahead begun frames sound = refuses_fits
fits_at (AtEquals tag name) ahead begun frames sound = refuses_fits
fits_at (AtValue v) ahead begun frames sound = value_fits (fixed_value v.name)
fits_at (AtSlash tag) ahead begun frames sound = refuses_fits
fits_at AtEndTag ahead begun frames sound = end_tag_fits frames sound.frames
fits_at (AtEndName reading left) ahead begun frames sound =
    end_name_fits frames reading left sound.frames sound.place
fits_at AtEndSpace ahead begun frames sound = refuses_fits
fits_at (AtReference within) ahead begun frames sound =
    (start_rows_allowed, omega arith, omega arith)
fits_at (AtEntity within name) ahead begun frames sound =
    (name_rows_allowed, omega arith, omega arith)
fits_at (AtHash within) ahead begun frames sound = refuses_fits
fits_at (AtHexadecimal within) ahead begun frames sound = refuses_fits
fits_at (AtNumber within hexadecimal value) ahead begun frames sound = refuses_fits
fits_at (AtDeclaration last spaced) ahead begun frames sound = refuses_fits
fits_at (AtSaidWord said left) ahead begun frames sound = refuses_fits
fits_at (AtSaid said) ahead begun frames sound = refuses_fits
fits_at (AtSaidEquals said) ahead begun frames sound = refuses_fits
fits_at (AtSaidValue said quote read) ahead begun frames sound = refuses_fits
fits_at AtDeclarationEnd ahead begun frames sound = refuses_fits

pub fits : (s : State) → Sound s → FitsBehind 2 (beyond s)
unfolding beyond
fits s sound = fits_at s.place s.ahead s.begun s.frames sound
