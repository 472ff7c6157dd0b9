-- The rows around the content of a component: those of tests of patterns, before all others, of what sets variables where it begins, of fill,
-- of its initiator and of its terminator, which has the number of the list of the separators that stand in the content, if some do. They and the
-- content's row are one group, in the order of the data; what there is none of has no row ('Framing', 'DFDL Schema Component Model'). Where a
-- sequence or a choice opens instances of variables, a row for each stands around all of these but the tests, the first one outermost, and the
-- tests are in a group with that. Elements open none, and set variables at their end alone. The statements behind a component have no row here:
-- an element's own row has them, and of a sequence or choice one row around all others.
use Rattle.std.specs.Prelude.{ℕ, zero, suc, ◌+◌, ◌-◌, Bool, ◌||◌, nat_lt, List, [], ◌∷◌, ◌++◌, length, Option, None, Some, is_some, if◌then◌else◌}
use Rattle.dfdl_terms.specs.declared.delimiters.Delimiter.{Delimiter}
use Rattle.dfdl_terms.specs.Framing.{no_fill}
use Rattle.dfdl_terms.specs.declared.framing.Framing.{Framing}
use Rattle.dfdl_terms.specs.declared.row.Row.{Row}
use Rattle.dfdl_terms.specs.declared.row.Row.TheVariants.{Group, Skip, Align, Initiator, Terminator, Statement, Concluded, Instance}
use Rattle.dfdl_terms.specs.declared.statement.Statements.{Statements}

-- there is a test of a pattern, what sets a variable, a skip, an alignment to more than one bit, an initiator or a terminator
abbrev pub has_framing : Framing → Bool
has_framing f =
    nat_lt 0 f.before.count || nat_lt 0 f.settings.count || nat_lt 0 f.leading_skip || nat_lt 1 f.alignment || is_some f.initiator
    || is_some f.terminator || nat_lt 0 f.trailing_skip

-- so many statements, of which the first has this number
unfoldable pub statements_from : ℕ → ℕ → List Row
statements_from first zero = []
statements_from first (suc count) = Statement first ∷ statements_from (first + 1) count

-- statements, one after the other
abbrev pub statement_rows : Statements → List Row
statement_rows statements = statements_from statements.first statements.count

-- a skip of so many bits, where they are some
abbrev pub skip_rows : ℕ → List Row
skip_rows bits = if nat_lt 0 bits then Skip bits ∷ [] else []

-- an alignment to so many bits, where they are more than one
abbrev pub align_rows : ℕ → List Row
align_rows bits = if nat_lt 1 bits then Align bits ∷ [] else []

-- an initiator, where there is one
abbrev pub initiator_rows : Option Delimiter → List Row
initiator_rows None = []
initiator_rows (Some delimiter) = Initiator delimiter ∷ []

-- a terminator, where there is one, behind a content with separators of this list, or with none
abbrev pub terminator_rows : Option Delimiter → Option ℕ → List Row
terminator_rows None separators = []
terminator_rows (Some delimiter) separators = Terminator delimiter separators ∷ []

-- fill before a content and its initiator, in the order of the data
abbrev pub fill_rows : Framing → List Row
fill_rows f = skip_rows f.leading_skip ++ (align_rows f.alignment ++ initiator_rows f.initiator)

-- the rows before a content, in the order of the data: tests stand before all others, and behind them what sets variables
abbrev pub rows_before : Framing → List Row
rows_before f = statement_rows f.before ++ (statement_rows f.settings ++ fill_rows f)

-- the rows behind a content, in the order of the data
abbrev pub rows_behind : Framing → Option ℕ → List Row
rows_behind f separators = terminator_rows f.terminator separators ++ skip_rows f.trailing_skip

-- the numbers of rows of which the first one has this number
abbrev pub numbers : List Row → ℕ → List ℕ
numbers [] first = []
numbers (row ∷ rows) first = first ∷ numbers rows (first + 1)

-- the rows around a content and the row of the content in the order of the data, where those around it are numbered from a number on
abbrev pub in_group : Framing → Option ℕ → ℕ → ℕ → List ℕ
in_group f separators content first =
    numbers (rows_before f) first ++ content ∷ numbers (rows_behind f separators) (first + length (rows_before f))

-- the rows that frame the row of a content, numbered from a number on: those before it and behind it, and the group of all
unfoldable pub framed : Framing → Option ℕ → ℕ → ℕ → List Row
framed f separators content first =
    if has_framing f then rows_before f ++ (rows_behind f separators ++ Group (in_group f separators content first) ∷ []) else []

-- the number of the row that stands for the content with what frames it
unfoldable pub framed_row : Framing → Option ℕ → ℕ → ℕ → ℕ
framed_row f separators content first =
    if has_framing f then first + length (rows_before f) + length (rows_behind f separators) else content

-- how many rows frame a content
unfoldable pub framing_size : Framing → Option ℕ → ℕ
framing_size f separators = if has_framing f then length (rows_before f) + length (rows_behind f separators) + 1 else 0

-- So many instances around the row of a content, the innermost one first, of which the row has this number. The statement of the outermost one
-- has the first number, and so on inwards.
unfoldable pub instances_from : ℕ → ℕ → ℕ → ℕ → List Row
instances_from first zero content from = []
instances_from first (suc count) content from = Instance (first + count) content ∷ instances_from first count from (from + 1)

-- the rows of the instances that these statements open around the row of a content, from a number on
abbrev pub instance_rows : Statements → ℕ → ℕ → List Row
instance_rows openings content from = instances_from openings.first openings.count content from

-- the number of the row of the outermost of so many instances, that of the content where there is none
unfoldable pub outermost : ℕ → ℕ → ℕ → ℕ
outermost zero content from = content
outermost (suc count) content from = outermost count from (from + 1)

-- what frames a content but for its tests of patterns
abbrev pub untested : Framing → Framing
untested f = record {
  before = no_fill.before;
  openings = f.openings;
  settings = f.settings;
  leading_skip = f.leading_skip;
  alignment = f.alignment;
  initiator = f.initiator;
  terminator = f.terminator;
  trailing_skip = f.trailing_skip;
  behind = f.behind;
}

-- the tests of patterns alone
abbrev pub tests_alone : Framing → Framing
tests_alone f = record {
  before = f.before;
  openings = no_fill.openings;
  settings = no_fill.settings;
  leading_skip = 0;
  alignment = 1;
  initiator = None;
  terminator = None;
  trailing_skip = 0;
  behind = no_fill.behind;
}

-- the number of the row of the outermost instance around a content with what frames it, from a number on
abbrev pub opened_row : Framing → Option ℕ → ℕ → ℕ → ℕ
opened_row f separators content first =
    outermost f.openings.count (framed_row (untested f) separators content first) (first + framing_size (untested f) separators)

-- the rows around the row of a content inside of which instances are open, from a number on: what frames it, the instances, and the tests
abbrev pub with_instances : Framing → Option ℕ → ℕ → ℕ → List Row
with_instances f separators content first =
    framed (untested f) separators content first
    ++ (instance_rows f.openings (framed_row (untested f) separators content first) (first + framing_size (untested f) separators)
    ++ framed (tests_alone f) None (opened_row f separators content first) (first + framing_size (untested f) separators + f.openings.count))

-- how many they are
abbrev pub instances_size : Framing → Option ℕ → ℕ
instances_size f separators = framing_size (untested f) separators + f.openings.count + framing_size (tests_alone f) None

-- the rows around the row of the content of a sequence or choice, from a number on
unfoldable pub opened : Framing → Option ℕ → ℕ → ℕ → List Row
opened f separators content first = if nat_lt 0 f.openings.count then with_instances f separators content first else framed f separators content first

-- how many they are
unfoldable pub opened_size : Framing → Option ℕ → ℕ
opened_size f separators = if nat_lt 0 f.openings.count then instances_size f separators else framing_size f separators

-- the row around all others of a sequence or choice, behind which these statements are done, where there are some
abbrev pub conclusion : Statements → ℕ → List Row
conclusion behind body = if nat_lt 0 behind.count then Concluded behind body ∷ [] else []

-- how many rows it is
abbrev pub conclusion_size : Statements → ℕ
conclusion_size behind = if nat_lt 0 behind.count then 1 else 0

-- rows from a number on, of which the last is in the row behind which these statements are done, where there are some
abbrev pub concluded : Statements → List Row → ℕ → List Row
concluded behind rows first = rows ++ conclusion behind (first + length rows - 1)
