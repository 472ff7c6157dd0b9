-- The meaning of each row, by that of the rows inside it, which stand below it. 'DFDL Data Syntax Grammar'.
use Rattle.std.specs.Prelude.{ℕ, zero, suc, nat_eq, true, List, [], ◌∷◌, length, Option, Some, None, slice_get, replicate, if◌then◌else◌}
use Rattle.dfdl_terms.specs.declared.row.Row.{Row}
use Rattle.dfdl_terms.specs.declared.row.Row.TheVariants.{Leaf, Elem, Group, Skip, Align, Initiator, Terminator, Separator, Scope, Boxed, PrefixedLeaf, PrefixedBox, MeasuredLeaf, MeasuredBox, Repeat, Counted, Optional, Choice as ChoiceRow, Dispatch, Statement, Concluded, Hidden, Spanned, Instance, Separated}
use Rattle.dfdl_terms.specs.Rows.{Table}
use Rattle.dfdl_grammar.specs.declared.end.End.TheVariants.{Done}
use Rattle.dfdl_looks.specs.Tallies.{one_row}
use Rattle.dfdl_grammar.specs.States.{Input, State}
use Rattle.dfdl_grammar.specs.Outcomes.{Outcome, ended, spend, then_do}
use Rattle.dfdl_grammar.specs.Leaves.{leaf, nil_values, read_by}
use Rattle.dfdl_grammar.specs.Framing.{align, skip}
use Rattle.dfdl_grammar.specs.Delimiters.{initiator, scoped, separator, terminator}
use Rattle.dfdl_grammar.specs.Boxes.{boxed}
use Rattle.dfdl_grammar.specs.Spans.{spanned}
use Rattle.dfdl_grammar.specs.Elements.{element, has_elements}
use Rattle.dfdl_grammar.specs.Prefixes.{prefixed_box, prefixed_leaf}
use Rattle.dfdl_grammar.specs.Questions.{counted, dispatched, measured_box, measured_leaf}
use Rattle.dfdl_grammar.specs.Choices.{choice}
use Rattle.dfdl_grammar.specs.Occurrences.{occurrences, occurring}
use Rattle.dfdl_paths.specs.declared.place.Start.TheVariants.{At, Inside}
use Rattle.dfdl_grammar.specs.Statements.{concluded, statement}
use Rattle.dfdl_grammar.specs.Instances.{instanced}
use Rattle.dfdl_grammar.specs.Slots.{separated}

-- rows one after another
abbrev pub group : (ℕ → State → Outcome) → List ℕ → State → Outcome
group child [] s = ended Done s
group child (id ∷ ids) s = then_do (child id s) (group child ids)

-- the meaning of a row of this number, where child is that of the rows inside it; of no row it is nothing
abbrev pub row : Input → Table → (ℕ → State → Outcome) → ℕ → Option Row → State → Outcome
row input table child id None s = ended Done s
row input table child id (Some (Leaf prim)) s =
    leaf input table.delimiters (nil_values table.primitives s.instead) (slice_get table.primitives (read_by table.primitives s.instead prim)) s
row input table child id (Some (Elem name simple tried behind body)) s =
    concluded input.limits table (At (length s.nodes)) behind (element input id (has_elements simple) tried (child body) s)
row input table child id (Some (Group children)) s = group child children s
row input table child id (Some (Skip bits)) s = skip input bits s
row input table child id (Some (Align bits)) s = align input bits s
row input table child id (Some (Initiator delimiter)) s = initiator input table.delimiters delimiter s
row input table child id (Some (Terminator delimiter separators)) s = terminator input table.delimiters delimiter separators s
row input table child id (Some Separator) s = separator input table.delimiters s
row input table child id (Some (Scope list body)) s = scoped list (child body) s
row input table child id (Some (Boxed bits body)) s = boxed input bits (child body) s
row input table child id (Some (PrefixedLeaf prefix prim)) s =
    prefixed_leaf input table.delimiters (slice_get table.primitives prefix.prim) prefix (nil_values table.primitives s.instead)
    (slice_get table.primitives (read_by table.primitives s.instead prim)) s
row input table child id (Some (PrefixedBox prefix body)) s =
    prefixed_box input table.delimiters (slice_get table.primitives prefix.prim) prefix (child body) s
row input table child id (Some (MeasuredLeaf measure prim)) s =
    measured_leaf input table measure (nil_values table.primitives s.instead) (slice_get table.primitives (read_by table.primitives s.instead prim)) s
row input table child id (Some (MeasuredBox measure body)) s = measured_box input table measure (child body) s
row input table child id (Some (Repeat count body)) s = group child (replicate count body) s
row input table child id (Some (Counted question body)) s = counted table (group child) question body s
row input table child id (Some (Optional most item initiated body)) s = occurrences (occurring true (child body)) initiated most s
row input table child id (Some (ChoiceRow branches initiated)) s = choice child initiated branches s
row input table child id (Some (Dispatch question keys)) s = dispatched table child question keys s
row input table child id (Some (Statement number)) s = statement input table number s
row input table child id (Some (Concluded behind body)) s = concluded input.limits table (Inside s.inside) behind (child body s)
row input table child id (Some (Hidden body)) s = child body s
row input table child id (Some (Spanned body)) s = spanned (child body) s
row input table child id (Some (Instance statement body)) s = instanced table statement (child body) s
row input table child id (Some (Separated policy position initiated slots)) s =
    separated (record { input = input; table = table; child = child; position = position; initiated = initiated }) policy slots s

-- the row of this number of the table, with its cost
abbrev pub row_at : Input → Table → (ℕ → State → Outcome) → ℕ → State → Outcome
row_at input table child id s = spend one_row (row input table child id (slice_get table.rows id) s)

-- the meaning of the rows below a number
unfoldable pub below : Input → Table → ℕ → ℕ → State → Outcome
below input table zero id s = ended Done s
below input table (suc n) id s = if nat_eq id n then row_at input table (below input table n) n s else below input table n id s

-- the meaning of the row of a number
unfoldable pub meaning : Input → Table → ℕ → State → Outcome
meaning input table id s = row_at input table (below input table id) id s
