-- The representations of an element: nil, empty and normal, which are tried in this order from the same place. 'DFDL Data Syntax
-- Grammar'.
use Rattle.std.specs.Prelude.{ℕ, Bool, true, false, List, [], ◌∷◌, Option, Some, None, if◌then◌else◌}
use Rattle.dfdl_terms.specs.declared.representations.Representations.{Representations}
use Rattle.dfdl_grammar.specs.declared.end.End.{End}
use Rattle.dfdl_grammar.specs.declared.end.End.TheVariants.{Done, Failed, Stopped}
use Rattle.dfdl_report.specs.declared.cause.ParseCause.TheVariants.{RequiredEmpty}
use Rattle.dfdl_grammar.specs.declared.instead.Instead.{Instead}
use Rattle.dfdl_grammar.specs.declared.instead.Instead.TheVariants.{Nothing, Nil, Empty, Tried}
use Rattle.dfdl_grammar.specs.declared.mark.Mark.{Mark}
use Rattle.dfdl_grammar.specs.States.{State}
use Rattle.dfdl_grammar.specs.Outcomes.{Outcome, spend}
use Rattle.dfdl_grammar.specs.Marks.{back, closed, marked}

-- a representation: the outcome of the element whose content is read by this in place of its own primitive
abbrev pub Attempt : Type 0
Attempt = Instead → State → Outcome

-- after this end of the last representation: the mark is closed
abbrev pub the_last : End → Outcome → Outcome
the_last Done o = record o { state = closed o.state }
the_last (Failed cause bit) o = record o { state = closed o.state }
the_last (Stopped cause quantity) o = o

-- after this end of a representation: where it fails, another one follows from the mark
abbrev pub or_else : End → Outcome → (State → Outcome) → Outcome
or_else Done o next = record o { state = closed o.state }
or_else (Failed cause bit) o next = spend o.tally (next (back o.state))
or_else (Stopped cause quantity) o next = o

-- an element that has no value to take fails at the first of these marks, where it began, and is open again
abbrev pub refused_among : List Mark → Outcome → Outcome
refused_among [] o = o
refused_among (mark ∷ outer) o =
    record o { end = Failed RequiredEmpty mark.at; state = closed (record o.state { inside = mark.nodes }) }

-- after this end of the empty representation of an element that has no value to take: where it is found, the element fails
abbrev pub refuse : End → Outcome → (State → Outcome) → Outcome
refuse Done o next = refused_among o.state.marks o
refuse (Failed cause bit) o next = or_else (Failed cause bit) o next
refuse (Stopped cause quantity) o next = o

-- after this end of the empty representation: the element fails where it is found and refused, and else as after every other one
abbrev pub after_empty : Bool → Outcome → (State → Outcome) → Outcome
after_empty refuses o next = if refuses then refuse o.end o next else or_else o.end o next

-- the normal representation, as the last one
abbrev pub then_normal : Attempt → State → Outcome
then_normal attempt s = let o : Outcome = attempt Nothing s in the_last o.end o

-- the empty representation, where there is one, and then the normal one
abbrev pub then_empty : Bool → Option ℕ → Attempt → State → Outcome
then_empty refuses None attempt s = then_normal attempt s
then_empty refuses (Some prim) attempt s = let o : Outcome = attempt (Empty prim) s in after_empty refuses o (then_normal attempt)

-- the nil representation, where there is one, and then the others
abbrev pub then_nil : Representations → Option ℕ → Attempt → State → Outcome
then_nil tried None attempt s = then_empty tried.refuses_empty tried.empty attempt s
then_nil tried (Some prim) attempt s =
    let o : Outcome = attempt (Nil prim) s in or_else o.end o (then_empty tried.refuses_empty tried.empty attempt)

-- these representations: where they are several, a mark is open meanwhile
abbrev pub represented_by : Representations → Attempt → State → Outcome
represented_by tried attempt s = if tried.are_several then then_nil tried tried.nil attempt (marked s) else attempt Nothing s

-- the element that begins next is an occurrence that is tried
abbrev pub is_occurrence : Instead → Bool
is_occurrence Nothing = false
is_occurrence (Nil prim) = false
is_occurrence (Empty prim) = false
is_occurrence Tried = true

-- the representations of an element, or of an occurrence of it that is tried, which never takes a default
abbrev pub representations_in : Bool → Representations → Representations
representations_in true tried = record tried {
  empty = tried.where_tried.empty;
  refuses_empty = tried.where_tried.refuses_empty;
  are_several = tried.where_tried.are_several;
}
representations_in false tried = tried

-- an element by its representations
abbrev pub represented : Representations → Attempt → State → Outcome
represented tried attempt s = represented_by (representations_in (is_occurrence s.instead) tried) attempt s
