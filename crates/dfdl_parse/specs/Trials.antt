-- The steps of an element, by its representations.
use Rattle.std.specs.Prelude.{ℕ, nat_lt, Bool, false, List, [], ◌∷◌, length, Option, Some, None, if◌then◌else◌}
use Rattle.dfdl_bits.specs.Window.{Held}
use Rattle.dfdl_report.specs.declared.cause.LimitCause.TheVariants.{Nodes}
use Rattle.dfdl_report.specs.declared.cause.ParseCause.TheVariants.{RequiredEmpty}
use Rattle.dfdl_terms.specs.declared.row.Row.{Row}
use Rattle.dfdl_terms.specs.declared.row.Row.TheVariants.{Leaf, Elem, Group, Skip, Align, Initiator, Terminator, Separator, Scope, Boxed, PrefixedLeaf, PrefixedBox, MeasuredLeaf, MeasuredBox, Repeat, Counted, Optional, Choice, Dispatch, Statement, Concluded, Hidden, Spanned, Instance, Separated}
use Rattle.dfdl_terms.specs.declared.representations.Representations.{Representations}
use Rattle.dfdl_looks.specs.Tallies.{Tally, nothing, one_row, plus}
use Rattle.dfdl_grammar.specs.declared.end.End.{End}
use Rattle.dfdl_grammar.specs.declared.end.End.TheVariants.{Done, Failed, Stopped}
use Rattle.dfdl_grammar.specs.declared.end.Halt.TheVariants.{Limit}
use Rattle.dfdl_grammar.specs.declared.instead.Instead.{Instead}
use Rattle.dfdl_grammar.specs.declared.instead.Instead.TheVariants.{Nothing, Nil, Empty}
use Rattle.dfdl_grammar.specs.declared.mark.Mark.{Mark}
use Rattle.dfdl_grammar.specs.States.{State}
use Rattle.dfdl_grammar.specs.Marks.{back, closed, marked}
use Rattle.dfdl_grammar.specs.Representations.{is_occurrence, representations_in}
use Rattle.dfdl_grammar.specs.Elements.{begun, has_elements}
use Rattle.dfdl_parse.specs.declared.frame.Frame.{Frame}
use Rattle.dfdl_parse.specs.declared.frame.Frame.TheVariants.{Element, Trial}
use Rattle.dfdl_parse.specs.declared.frame.Next.{Next}
use Rattle.dfdl_parse.specs.declared.frame.Next.TheVariants as next
use Rattle.dfdl_parse.specs.declared.frame.Focus.TheVariants.{Enter, Leave}
use Rattle.dfdl_parse.specs.declared.frame.Parts.{Parts}
use Rattle.dfdl_parse.specs.Moves.{Move, pass}

-- what the row of an element says of it, or of an occurrence of it that is tried
abbrev pub parts_of : Bool → Option Row → Option Parts
parts_of occurrence None = None
parts_of occurrence (Some (Leaf prim)) = None
parts_of occurrence (Some (Elem name simple tried statements body)) = Some (record {
  complex = has_elements simple;
  tried = representations_in occurrence tried;
  body = body;
  occurrence = occurrence;
})
parts_of occurrence (Some (Group children)) = None
parts_of occurrence (Some (Skip bits)) = None
parts_of occurrence (Some (Align bits)) = None
parts_of occurrence (Some (Initiator delimiter)) = None
parts_of occurrence (Some (Terminator delimiter separators)) = None
parts_of occurrence (Some Separator) = None
parts_of occurrence (Some (Scope list body)) = None
parts_of occurrence (Some (Boxed bits body)) = None
parts_of occurrence (Some (PrefixedLeaf prefix prim)) = None
parts_of occurrence (Some (PrefixedBox prefix body)) = None
parts_of occurrence (Some (MeasuredLeaf measure prim)) = None
parts_of occurrence (Some (MeasuredBox measure body)) = None
parts_of occurrence (Some (Repeat count body)) = None
parts_of occurrence (Some (Counted question body)) = None
parts_of occurrence (Some (Optional most item initiated body)) = None
parts_of occurrence (Some (Choice branches initiated)) = None
parts_of occurrence (Some (Dispatch question keys)) = None
parts_of occurrence (Some (Statement number)) = None
parts_of occurrence (Some (Concluded statements body)) = None
parts_of occurrence (Some (Hidden body)) = None
parts_of occurrence (Some (Spanned body)) = None
parts_of occurrence (Some (Instance statement body)) = None
parts_of occurrence (Some (Separated policy position initiated slots)) = None

-- the same of the element that begins, where content is read by this
abbrev pub parts_here : Instead → Bool → Representations → ℕ → Parts
parts_here instead complex tried body = record {
  complex = complex;
  tried = representations_in (is_occurrence instead) tried;
  body = body;
  occurrence = is_occurrence instead;
}

-- the cost of an element's row and of its first representation
abbrev pub two_rows : Tally
two_rows = plus one_row one_row

-- one representation of an element begins, where there are fewer elements than most
abbrev pub attempt : Tally → ℕ → Held → ℕ → Parts → Instead → List Frame → State → Move
attempt cost most held id parts instead k s =
    if nat_lt (length s.nodes) most
    then pass cost held (Enter parts.body) (Element s.inside parts.complex ∷ k) (begun id instead s)
    else pass cost held (Leave (Stopped (Limit Nodes) most)) k s

-- the normal representation begins, as the last one
abbrev pub try_normal : Tally → ℕ → Held → ℕ → Parts → List Frame → State → Move
try_normal cost most held id parts k s = attempt cost most held id parts Nothing (Trial id parts.occurrence next.Nothing ∷ k) s

-- the empty representation begins, where there is one, and else the normal one
abbrev pub try_empty : Tally → ℕ → Held → ℕ → Parts → Option ℕ → List Frame → State → Move
try_empty cost most held id parts None k s = try_normal cost most held id parts k s
try_empty cost most held id parts (Some prim) k s = attempt cost most held id parts (Empty prim) (Trial id parts.occurrence next.Normal ∷ k) s

-- the nil representation begins, where there is one, and else another one
abbrev pub try_nil : Tally → ℕ → Held → ℕ → Parts → Option ℕ → List Frame → State → Move
try_nil cost most held id parts None k s = try_empty cost most held id parts parts.tried.empty k s
try_nil cost most held id parts (Some prim) k s = attempt cost most held id parts (Nil prim) (Trial id parts.occurrence next.Empty ∷ k) s

-- an element begins: with a mark, where it has several representations
abbrev pub enter_element : ℕ → Held → ℕ → Parts → List Frame → State → Move
enter_element most held id parts k s =
    if parts.tried.are_several
    then try_nil two_rows most held id parts parts.tried.nil k (marked s)
    else attempt two_rows most held id parts Nothing k s

-- an element that has no value to take fails at the first of these marks, where it began, and is open again
abbrev pub refused : List Mark → Held → List Frame → State → Move
refused [] held k s = pass nothing held (Leave Done) k s
refused (mark ∷ outer) held k s = pass nothing held (Leave (Failed RequiredEmpty mark.at)) k (closed (record s { inside = mark.nodes }))

-- this is the empty representation of an element that has no value to take
abbrev pub is_refused : Option Parts → Next → Bool
is_refused None follows = false
is_refused (Some parts) next.Empty = false
is_refused (Some parts) next.Normal = parts.tried.refuses_empty
is_refused (Some parts) next.Nothing = false

-- a representation is done: the mark is closed, or the element fails
abbrev pub trial_done : Held → Option Parts → Next → List Frame → State → Move
trial_done held parts follows k s = if is_refused parts follows then refused s.marks held k s else pass nothing held (Leave Done) k (closed s)

-- a representation has failed at this end: the next one begins at the mark, or the mark is closed
abbrev pub retry : ℕ → Held → ℕ → Option Parts → Next → End → List Frame → State → Move
retry most held id None follows end k s = pass nothing held (Leave end) k (closed s)
retry most held id (Some parts) next.Empty end k s = try_empty one_row most held id parts parts.tried.empty k (back s)
retry most held id (Some parts) next.Normal end k s = try_normal one_row most held id parts k (back s)
retry most held id (Some parts) next.Nothing end k s = pass nothing held (Leave end) k (closed s)
