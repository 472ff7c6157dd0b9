-- Mirror for the prover: what a pass over a tree's nodes keeps of the operands that have no node so far, the last one first.
use Rattle.std.specs.Prelude.{ℕ, List, [], ◌∷◌}
use Rattle.dfdl_expression_tree.specs.declared.node.Node.{Node}
use Rattle.dfdl_expression_tree.specs.declared.node.Node.TheVariants as node
use Rattle.dfdl_expression_types.specs.declared.statics.Statics.{Statics}
use Rattle.dfdl_expression_types.specs.declared.note.Note.{Note as Noted}
use Rattle.dfdl_expression_types.specs.declared.note.Shape.TheVariants as shape
use Rattle.dfdl_expression_types.specs.Notes.{note, no_fault, leaf_note, unary_note, binary_note, choice_note}
use Rattle.dfdl_expression_types.specs.TypeSets.{every}

abbrev pub nothing : Noted
nothing = note (shape.Value every) no_fault

abbrev pub first : List Noted → Noted
first [] = nothing
first (n ∷ notes) = n

abbrev pub rest : List Noted → List Noted
rest [] = []
rest (n ∷ notes) = notes

-- what is kept behind a node
abbrev pub step : Statics → List ℕ → Node → List Noted → List Noted
step s text (node.Leaf l) notes = leaf_note s text l ∷ notes
step s text (node.Unary u a) notes = unary_note s text u (first notes) ∷ rest notes
step s text (node.Binary b l r) notes = binary_note s b (first (rest notes)) (first notes) ∷ rest (rest notes)
step s text (node.Choice t a b) notes =
    choice_note s (first (rest (rest notes))) (first (rest notes)) (first notes) ∷ rest (rest (rest notes))

abbrev pub run : Statics → List ℕ → List Node → List Noted → List Noted
run s text [] notes = notes
run s text (n ∷ nodes) notes = run s text nodes (step s text n notes)
