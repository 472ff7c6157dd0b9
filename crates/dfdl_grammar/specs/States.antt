-- What is known while data are parsed. 'Parsing Algorithm'.
use Rattle.std.specs.Prelude.{ℕ, ◌/◌, Bool, true, false, List, [], ◌∷◌, if◌then◌else◌}
use Rattle.std.specs.List.{count_by}
use Rattle.dfdl_vars.specs.Kept.{Kept, opened}
use Rattle.dfdl_terms.specs.Rows.{Table}
use Rattle.dfdl_terms.specs.declared.row.Row.{Row}
use Rattle.dfdl_terms.specs.declared.row.Row.TheVariants.{Instance}
use Rattle.dfdl_region.specs.declared.node.Node.{Node}
use Rattle.dfdl_grammar.specs.declared.instead.Instead.{Instead}
use Rattle.dfdl_grammar.specs.declared.instead.Instead.TheVariants.{Nothing}
use Rattle.dfdl_grammar.specs.declared.limits.Limits.{Limits}
use Rattle.dfdl_grammar.specs.declared.mark.Mark.{Mark}

-- the data and the limits
pub record Input : Type 0 where
  pub bytes : List ℕ
  pub limits : Limits

-- The bit that comes next, the bit at which the innermost box ends, the elements that have begun, the bytes of the strings and
-- hexBinary values among them, the number of the innermost element that is open, what its content is read by in place of its own
-- primitive, the lists of the tables whose texts end a content, those of the outermost component first, how many of them stand
-- outside of the innermost box and end nothing in it, the open marks with the innermost first, and what is kept of the variables.
pub record State : Type 0 where
  pub at : ℕ
  pub stop : ℕ
  pub nodes : List Node
  pub text : List ℕ
  pub inside : ℕ
  pub instead : Instead
  pub lists : List ℕ
  pub hidden : ℕ
  pub marks : List Mark
  pub variables : Kept

-- the bit at which a box would end that is around everything (profile)
abbrev pub no_box : ℕ
no_box = 18446744073709551615

-- whether a row opens an instance of a variable
abbrev pub is_instance : Row → Bool
is_instance (Instance statement body) = true
is_instance _ = false

-- how many rows do so; rows nest, so no more such instances are open at once
unfoldable pub instances_within : List Row → ℕ
instances_within rows = count_by is_instance rows

-- the state at the front of the data: each variable begins with its default, and no instance is open but those of the definitions
abbrev pub front : Table → State
front table = record {
  at = 0;
  stop = no_box;
  nodes = [];
  text = [];
  inside = 0;
  instead = Nothing;
  lists = [];
  hidden = 0;
  marks = [];
  variables = opened table.variables [] (instances_within table.rows);
}

-- the bit of the outermost mark that isn't resolved, or another bit where there is none
abbrev pub held_from : List Mark → ℕ → ℕ
held_from [] at = at
held_from (mark ∷ outer) at = held_from outer (if mark.is_resolved then at else mark.at)

-- the first byte that is still needed where this bit comes next
abbrev pub anchor_at : State → ℕ → ℕ
anchor_at s bit = held_from s.marks bit / 8

-- the first byte that is still needed
abbrev pub anchor : State → ℕ
anchor s = anchor_at s s.at
