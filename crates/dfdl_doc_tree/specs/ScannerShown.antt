-- Mirror for the prover: the state of the machine that a scanner stands for.
use Rattle.std.specs.Prelude.{◌≡◌, ℕ, List, Option, Some, None, Result, Ok, Err, drop, ◌==◌}
use Rattle.std.specs.Prelude.{if◌then◌else◌}
use Rattle.std.specs.Box.{box_value}
use Rattle.dfdl_markup.specs.Grammar.{section_word, said_word}
use Rattle.dfdl_xml_chars.specs.Characters.{is_allowed}
use Rattle.dfdl_markup.specs.Values.{entity, or_zero}
use Rattle.dfdl_markup.specs.Machine as machine
use Rattle.dfdl_markup.specs.Machine.{State}
use Rattle.dfdl_markup.specs.Building as building
use Rattle.dfdl_xml_names.specs.Shown.{name_of}
use Rattle.dfdl_doc_tree.specs.Shown.{rule_number, run_number, ahead_seen, said_seen, last_seen}
use Rattle.dfdl_doc_tree.specs.declared.effect.Effect.{Effect}
use Rattle.dfdl_doc_tree.specs.declared.effect.Effect.TheVariants as effect
use Rattle.dfdl_doc_tree.specs.declared.rule.Refusal.{Refusal}
use Rattle.dfdl_doc_tree.specs.declared.rule.Refusal.TheVariants.{Broken, OutOfMemory}
use Rattle.dfdl_doc_tree.specs.declared.mark.Within.{Within}
use Rattle.dfdl_doc_tree.specs.declared.mark.Within.TheVariants as within
use Rattle.dfdl_doc_tree.specs.declared.mark.Mark.{Mark}
use Rattle.dfdl_doc_tree.specs.declared.mark.Mark.TheVariants as mark
use Rattle.dfdl_doc_tree.specs.declared.scanner.Scanner.{Scanner}

-- the value that is begun
abbrev pub value_seen : Scanner → machine.OpenValue
value_seen s = record {
  tag = s.tag;
  name = name_of s.attribute;
  quote = s.quote;
  text = s.value;
  behind_cr = s.behind_cr;
}

-- where a reference stands
abbrev pub within_seen : Within → Scanner → machine.Within
within_seen within.Content s = machine.InContent
within_seen within.Value s = machine.InValue (value_seen s)

-- the place of a mark, with what is being read
abbrev pub place_seen : Mark → Scanner → machine.Place
place_seen (mark.Content before) s = machine.AtContent (run_number before)
place_seen mark.Opened s = machine.AtOpened
place_seen mark.Bang s = machine.AtBang
place_seen mark.Dash s = machine.AtDash
place_seen (mark.Comment dashes) s = machine.AtComment (run_number dashes)
place_seen (mark.SectionWord read) s = machine.AtSectionWord (drop read section_word)
place_seen (mark.Section before) s = machine.AtSection (run_number before)
place_seen mark.Question s = machine.AtQuestion
place_seen mark.Target s = machine.AtTarget s.word.items
place_seen mark.TargetEnd s = machine.AtTargetEnd
place_seen (mark.Instruction ends) s = machine.AtInstruction ends
place_seen mark.TagName s = machine.AtTagName s.reading
place_seen (mark.Tag spaced) s = machine.AtTag s.tag spaced
place_seen mark.AttributeName s = machine.AtAttributeName s.tag s.reading
place_seen mark.Named s = machine.AtNamed s.tag (name_of s.attribute)
place_seen mark.Equals s = machine.AtEquals s.tag (name_of s.attribute)
place_seen mark.Value s = machine.AtValue (value_seen s)
place_seen mark.Slash s = machine.AtSlash s.tag
place_seen mark.EndTag s = machine.AtEndTag
place_seen (mark.EndName read) s = machine.AtEndName s.reading (drop read s.wanted.items)
place_seen mark.EndSpace s = machine.AtEndSpace
place_seen (mark.Reference within) s = machine.AtReference (within_seen within s)
place_seen (mark.Entity within) s = machine.AtEntity (within_seen within s) s.word.items
place_seen (mark.Hash within) s = machine.AtHash (within_seen within s)
place_seen (mark.Hexadecimal within) s = machine.AtHexadecimal (within_seen within s)
place_seen (mark.Number within hexadecimal value) s =
    machine.AtNumber (within_seen within s) hexadecimal value
place_seen (mark.Declaration last spaced) s = machine.AtDeclaration (last_seen last) spaced
place_seen (mark.SaidWord word read) s =
    machine.AtSaidWord (said_seen word) (drop read (said_word (said_seen word)))
place_seen (mark.SaidName word) s = machine.AtSaid (said_seen word)
place_seen (mark.SaidEquals word) s = machine.AtSaidEquals (said_seen word)
place_seen (mark.SaidValue word) s = machine.AtSaidValue (said_seen word) s.quote s.word.items
place_seen mark.DeclarationEnd s = machine.AtDeclarationEnd

-- the state of a scanner
abbrev pub state_seen : Scanner → State
state_seen s = record {
  ahead = ahead_seen s.ahead;
  place = place_seen s.mark s;
  begun = s.roots;
  frames = s.frames;
}

-- what a character does to the tree
abbrev pub effect_seen : Effect → building.Effect
effect_seen effect.Stays = building.Stays
effect_seen effect.Opens = building.Opens
effect_seen effect.Closes = building.Closes
effect_seen (effect.Reads held c) = building.Reads (run_number held) c
effect_seen (effect.Refers c) = building.Refers c
effect_seen (effect.Enters tag) = building.Enters (box_value tag)
effect_seen (effect.Adds tag) = building.Adds (box_value tag)
effect_seen effect.Leaves = building.Leaves

-- what a step of the scanner answers: want of memory says nothing
abbrev pub Answers : Result State ℕ → building.Effect → Result Effect Refusal → State → Type 0
Answers next effect (Ok done) s = (next ≡ Ok s) × (effect ≡ effect_seen done)
Answers next effect (Err (Broken rule)) s = next ≡ Err (rule_number rule)
Answers next effect (Err OutOfMemory) s = Unit {0}

-- what a character does to the tree inside of the root, between pieces of markup
abbrev pub inner_effect : ℕ → building.Effect
inner_effect c =
    if c == 60 then building.Opens else (if c == 38 then building.Stays else building.Reads 0 c)

-- what a character does to the tree in an entity's name, and behind the digits of a number
abbrev pub entity_effect : machine.Within → List ℕ → ℕ → building.Effect
entity_effect within name c =
    if c == 59 then building.refers_within within (or_zero (entity name)) else building.Stays

abbrev pub number_effect : machine.Within → ℕ → ℕ → building.Effect
number_effect within value c =
    if c == 59 then building.refers_within within value else building.Stays

-- the state behind a reference by this number
abbrev pub number_ended : State → machine.Within → ℕ → Result State ℕ
number_ended s within value =
    if is_allowed value then Ok (machine.referred_to s within value) else Err 12

-- what a character does to the tree in a start tag
abbrev pub open_effect : machine.StartTag → ℕ → building.Effect
open_effect tag c = if c == 62 then building.Enters tag else building.Stays

-- the rule that a tag breaks where it ends, if it breaks one
abbrev pub tag_fault : List machine.Frame → machine.StartTag → Option ℕ
tag_fault frames tag =
    if machine.have_clash (machine.scope_of frames) tag.attributes then Some 5
    else (if machine.all_found (machine.scope_of frames) tag then None else Some 7)

-- what a character does to the tree in an end tag
abbrev pub close_effect : ℕ → building.Effect
close_effect c = if c == 62 then building.Leaves else building.Stays
