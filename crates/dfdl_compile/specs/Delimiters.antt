-- The initiators, terminators and separators of the components of a schema: their literals in the tables, one list of each for each
-- element of its documents, and the framing and the separators that name these by their numbers ('Framing', 'Sequence Groups').
use Rattle.std.specs.Prelude.{ℕ, [], Bool, false, Option, None, Some, option_map}
use Rattle.dfdl_forms.specs.declared.encoding.Encoding.TheVariants.{Utf8}
use Rattle.dfdl_checks.specs.declared.delimiters.Delimiting.{Delimiting}
use Rattle.dfdl_checks.specs.declared.delimiters.Separating.{Separating}
use Rattle.dfdl_rows.specs.declared.component.Separated.{Separated}
use Rattle.dfdl_terms.specs.declared.delimiters.Delimiter.{Delimiter}
use Rattle.dfdl_terms.specs.declared.delimiters.Delimiters.{Delimiters}
use Rattle.dfdl_terms.specs.declared.framing.Framing.{Framing}
use Rattle.dfdl_breaches.specs.declared.judgement.Judgement.{Judgement}
use Rattle.dfdl_compile.specs.declared.stating.StatedAround.{StatedAround}
use Rattle.dfdl_compile.specs.Statements.{before_by, behind_by, openings_by, settings_by}

-- the list that stands for no delimiter
abbrev pub no_list : Delimiters
no_list = record { literals = []; encoding = Utf8; fold = false }

-- the literals of a delimiter, or the list that stands for none
abbrev pub list_if : Option Delimiting → Delimiters
list_if None = no_list
list_if (Some delimiter) = delimiter.list

-- the literals of the initiator of an element of which this is told
abbrev pub initiator_list_by : Judgement → Delimiters
initiator_list_by judgement = list_if judgement.markup.initiator

-- the literals of the terminator of an element of which this is told
abbrev pub terminator_list_by : Judgement → Delimiters
terminator_list_by judgement = list_if judgement.markup.terminator

-- the literals of a separator, or the list that stands for none
abbrev pub separator_list_if : Option Separating → Delimiters
separator_list_if None = no_list
separator_list_if (Some separator) = separator.list

-- the same of an element of which this is told
abbrev pub separator_list_by : Judgement → Delimiters
separator_list_by judgement = separator_list_if judgement.markup.separator

-- separators whose literals have this number
abbrev pub separated_by : ℕ → Separating → Separated
separated_by number separator = record { list = number; position = separator.position; policy = separator.policy }

-- a delimiter whose literals have this number
abbrev pub delimiter_by : ℕ → Delimiting → Delimiter
delimiter_by number delimiter = record { list = number; in_nil = delimiter.in_nil; in_empty = delimiter.in_empty; resolves = delimiter.resolves }

-- those of a component of which this is told, where its first one has this number, and it sets variables before all else or behind all
abbrev pub stated_around : Bool → ℕ → Judgement → StatedAround
stated_around is_first first judgement = record {
  before = before_by first judgement;
  openings = openings_by is_first first judgement;
  settings = settings_by is_first first judgement;
  behind = behind_by is_first first judgement;
}

-- what frames the content of a component of which this is told, around which these statements stand, and the literals of whose initiator and
-- terminator have these numbers
abbrev pub framing_with : StatedAround → ℕ → ℕ → Judgement → Framing
framing_with stated initiator terminator judgement = record judgement.framing {
  before = stated.before;
  openings = stated.openings;
  settings = stated.settings;
  behind = stated.behind;
  initiator = option_map (delimiter_by initiator) judgement.markup.initiator;
  terminator = option_map (delimiter_by terminator) judgement.markup.terminator;
}

-- the same, where its first statement has this number, and it sets variables before all else or behind all
abbrev pub framing_by : Bool → ℕ → ℕ → ℕ → Judgement → Framing
framing_by is_first first initiator terminator judgement =
    framing_with (stated_around is_first first judgement) initiator terminator judgement
