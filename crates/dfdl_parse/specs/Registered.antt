-- Mirror for the prover: the lists of the tables that the machine's register holds, and those that the machine names.
use Rattle.std.specs.Prelude.{◌≡◌, ℕ, ◌<◌, List, length, map, All}
use Rattle.dfdl_delims.specs.Registers.{Holds}
use Rattle.dfdl_terms.specs.declared.delimiters.Delimiters.{Delimiters}
use Rattle.dfdl_terms.specs.Arrays.{item_marks}
use Rattle.dfdl_terms.specs.Rows.{Table}
use Rattle.dfdl_grammar.specs.Delimiters.{opened}
use Rattle.dfdl_parse.specs.declared.frame.Focus.{Focus}
use Rattle.dfdl_parse.specs.declared.frame.Focus.TheVariants.{Enter, Pass, PassRest, Sized, Seek, LookIn, LookBehind, Count, Leave}
use Rattle.dfdl_parse.specs.declared.parser.Parser.{Parser}
use Rattle.dfdl_parse.specs.Moves.{Machine}
use Rattle.dfdl_parse.specs.Searches.{put_behind}
use Rattle.dfdl_parse.specs.Shown.{shown}

-- the register holds these lists of the tables, and the numbers that are open name some of them
abbrev pub HasOpen : List Delimiters → Parser → Type 0
HasOpen delimiters p = Holds p.markup (map opened delimiters) × All (λ n. n < length delimiters) p.lists

-- what is done next seeks texts of some of so many lists, if any
abbrev pub SeeksWithin : ℕ → Focus → Type 0
SeeksWithin count (Enter id) = Unit {0}
SeeksWithin count (Pass to) = Unit {0}
SeeksWithin count (PassRest bit outer) = Unit {0}
SeeksWithin count (Sized prim size) = Unit {0}
SeeksWithin count (Seek sought) = All (λ n. n < count) (put_behind sought)
SeeksWithin count (LookIn slot) = Unit {0}
SeeksWithin count (LookBehind slot bit) = Unit {0}
SeeksWithin count (Count slot question) = Unit {0}
SeeksWithin count (Leave end) = Unit {0}

-- the lists that are open, and those that are sought, are some of so many
pub record ListsWithin (count : ℕ) (m : Machine) : Type 0 where
  pub sought : SeeksWithin count m.focus
  pub open_lists : All (λ n. n < count) m.state.lists

-- the register holds the lists of the tables, list n of them as list n, the machine names no others, and the rows are marked whose elements
-- are items
pub record IsRegistered (table : Table) (p : Parser) : Type 0 where
  pub holds : Holds p.markup (map opened table.delimiters)
  pub within : ListsWithin (length table.delimiters) (shown p)
  pub marked : p.items ≡ item_marks table.rows
