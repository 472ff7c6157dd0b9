use Rattle.std.proofs.Common.{◌≡◌, drop, filter}
use Rattle.dfdl_markup.specs.Trees.{node_at}
use Rattle.dfdl_properties.specs.Forms.{is_one}
use Rattle.dfdl_properties.specs.Own.{is_annotation}
use Rattle.dfdl_references.specs.References.{first_found}
use Rattle.dfdl_references.specs.Writers.{writer_in_annotation, writer_in_annotations}
use Rattle.dfdl_references.proofs.writing.writer_in_annotations.Given as goal

-- among what is left the same is found as among all
abbrev pub invariant-loop-child : goal.invariant-loop-child
invariant-loop-child l =
    first_found (writer_in_annotation l.tree l.name) (filter (is_one l.tree is_annotation) (drop l.child-index (node_at l.tree l.component).children))
    ≡ writer_in_annotations l.tree l.name l.component
