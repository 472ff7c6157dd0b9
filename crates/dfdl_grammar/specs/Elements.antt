-- An element of the infoset begins, and ends. 'The DFDL Information Set'.
use Rattle.std.specs.Prelude.{ℕ, Bool, true, false, nat_lt, [], ◌∷◌, ◌++◌, length, Option, Some, None, if◌then◌else◌}
use Rattle.dfdl_forms.specs.declared.simple.Simple.{Simple}
use Rattle.dfdl_report.specs.declared.cause.LimitCause.TheVariants.{Nodes}
use Rattle.dfdl_region.specs.declared.node.Content.TheVariants.{Begun, Complex}
use Rattle.dfdl_region.specs.Nodes.{with_content}
use Rattle.dfdl_grammar.specs.declared.end.End.{End}
use Rattle.dfdl_grammar.specs.declared.end.End.TheVariants.{Done, Failed, Stopped}
use Rattle.dfdl_grammar.specs.declared.end.Halt.TheVariants.{Limit}
use Rattle.dfdl_grammar.specs.declared.instead.Instead.{Instead}
use Rattle.dfdl_grammar.specs.declared.instead.Instead.TheVariants.{Nothing}
use Rattle.dfdl_grammar.specs.States.{Input, State}
use Rattle.dfdl_looks.specs.Tallies.{one_row}
use Rattle.dfdl_terms.specs.declared.representations.Representations.{Representations}
use Rattle.dfdl_grammar.specs.Outcomes.{Outcome, ended, spend}
use Rattle.dfdl_grammar.specs.Representations.{represented}

-- whether an element has elements: it has no simple type
abbrev pub has_elements : Option Simple → Bool
has_elements None = true
has_elements (Some simple) = false

-- the element of this row begins inside of the innermost open one, and is that then; its content is read by this in place of its
-- own primitive
abbrev pub begun : ℕ → Instead → State → State
begun id instead s = record s {
  nodes = s.nodes ++ record { element = id; parent = s.inside; content = Begun; lengths = None } ∷ [];
  inside = length s.nodes;
  instead = instead;
}

-- the innermost open element ends, and the outer one is that again
abbrev pub left : ℕ → Bool → State → State
left outer complex s = record s {
  nodes = if complex then with_content s.nodes s.inside Complex else s.nodes;
  inside = outer;
  instead = Nothing;
}

-- after this end of an outcome: the element ends where it is done, and else stays open
abbrev pub close : End → ℕ → Bool → Outcome → Outcome
close Done outer complex o = record o { state = left outer complex o.state }
close (Failed cause bit) outer complex o = o
close (Stopped cause quantity) outer complex o = o

-- one representation of an element with what is in it, where there are fewer elements than there may be; its cost is that of a row
abbrev pub attempted : Input → ℕ → Bool → (State → Outcome) → Instead → State → Outcome
attempted input id complex body instead s = spend one_row (
    if nat_lt (length s.nodes) input.limits.nodes
    then (let o : Outcome = body (begun id instead s) in close o.end s.inside complex o)
    else ended (Stopped (Limit Nodes) input.limits.nodes) s)

-- an element with what is in it, by its representations
abbrev pub element : Input → ℕ → Bool → Representations → (State → Outcome) → State → Outcome
element input id complex tried body s = represented tried (attempted input id complex body) s
