-- Mirror for the prover: the state that a reader stands for.
use Rattle.std.specs.Prelude.{ℕ, List, Bool, true, false, Option, Some, None}
use Rattle.std.specs.Prelude.{if◌then◌else◌, not, nat_lt, ◌&&◌}
use Rattle.dfdl_xml_chars.specs.Characters.{meets, begins, high_name_rows, high_start_rows}
use Rattle.dfdl_markup.specs.Grammar as grammar
use Rattle.dfdl_markup.specs.Grammar.{section_word, said_word}
use Rattle.dfdl_markup.specs.Machine as machine
use Rattle.dfdl_markup.specs.Machine.{State}
use Rattle.dfdl_xml_names.specs.Shown.{name_of}
use Rattle.dfdl_xml_names.specs.declared.name.Name.{Name}
use Rattle.dfdl_doc_tree.specs.declared.rule.Rule.{Rule}
use Rattle.dfdl_doc_tree.specs.declared.rule.Rule.TheVariants.{Utf8, Allowed, Syntax, EndTag, Attribute, Entity, Prefix, Encoding, Root, Depth, Referred, End}
use Rattle.dfdl_doc_tree.specs.declared.reading.Part.{Part}
use Rattle.dfdl_doc_tree.specs.declared.reading.Part.TheVariants.{First, Colon, Second}
use Rattle.dfdl_doc_tree.specs.declared.mark.Run.{Run}
use Rattle.dfdl_doc_tree.specs.declared.mark.Run.TheVariants as run
use Rattle.dfdl_doc_tree.specs.declared.mark.Ahead.{Ahead}
use Rattle.dfdl_doc_tree.specs.declared.mark.Ahead.TheVariants as ahead
use Rattle.dfdl_doc_tree.specs.declared.said.Said.{Said}
use Rattle.dfdl_doc_tree.specs.declared.said.Said.TheVariants as said

-- the number of a rule
abbrev pub rule_number : Rule → ℕ
rule_number Utf8 = 1
rule_number Allowed = 2
rule_number Syntax = 3
rule_number EndTag = 4
rule_number Attribute = 5
rule_number Entity = 6
rule_number Prefix = 7
rule_number Encoding = 9
rule_number Root = 10
rule_number Depth = 11
rule_number Referred = 12
rule_number End = 13

-- the number of a rule, if one is broken
abbrev pub fault_number : Option Rule → Option ℕ
fault_number None = None
fault_number (Some rule) = Some (rule_number rule)

-- a name as far as it was read, by the part that is read
abbrev pub reading_seen : Part → List ℕ → List ℕ → machine.Reading
reading_seen First prefix part = machine.First part
reading_seen Colon prefix part = machine.Colon prefix
reading_seen Second prefix part = machine.Second prefix part

-- what was gone on to, if it went on
abbrev pub goes_on : Bool → machine.Reading → Option machine.Reading
goes_on true reading = Some reading
goes_on false reading = None

-- a name, if there is one
abbrev pub name_seen : Option Name → Option grammar.Name
name_seen None = None
name_seen (Some name) = Some (name_of name)

-- how many of the same character stand right before
abbrev pub run_number : Run → ℕ
run_number run.None = 0
run_number run.One = 1
run_number run.Two = 2

abbrev pub ahead_seen : Ahead → machine.Ahead
ahead_seen ahead.Mark = machine.MarkAhead
ahead_seen ahead.Declaration = machine.DeclarationAhead
ahead_seen ahead.Nothing = machine.NothingAhead

abbrev pub said_seen : Said → grammar.Said
said_seen said.Version = grammar.Version
said_seen said.Encoding = grammar.Encoding
said_seen said.Standalone = grammar.Standalone

abbrev pub last_seen : Option Said → Option grammar.Said
last_seen None = None
last_seen (Some word) = Some (said_seen word)

-- some character that begins with these bytes goes on in a name as far as it was read
abbrev pub meets_in : machine.Reading → List ℕ → Bool
meets_in (machine.First part) bytes = meets high_name_rows bytes
meets_in (machine.Colon prefix) bytes = meets high_start_rows bytes
meets_in (machine.Second prefix part) bytes = meets high_name_rows bytes

-- the rule that a character past ASCII breaks in the name of an end tag that goes on by this one
abbrev pub end_could : Option ℕ → Bool → List ℕ → Option ℕ
end_could None met bytes = Some (if met then 4 else 3)
end_could (Some w) met bytes =
    if not (nat_lt w 128) && begins bytes w then None else Some (if met then 4 else 3)
