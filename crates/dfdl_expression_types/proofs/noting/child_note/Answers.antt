use Rattle.std.proofs.Common.{ap, ◌∙◌}
use Rattle.dfdl_expression_types.specs.Declarations.{name_number}
use Rattle.dfdl_expression_types.specs.Notes.{path_note}
use Rattle.dfdl_expression_types.specs.Paths.{children_of}
use Rattle.dfdl_expression_types.proofs.noting.child_note.Goals as goal

pub returns : goal.returns
returns c =
    c.path_note.ensures
    ∙ ap (λ ps. path_note ps c.args.faults)
    (c.in_ok-found.ensures
    ∙ ap (λ n. children_of c.args.statics.now n c.args.places.now) (c.name_number.ensures ∙ ap (name_number c.args.statics.now) c.local_of.ensures))
