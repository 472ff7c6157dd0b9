use Rattle.std.proofs.Common.{◌≡◌, drop, filter}
use Rattle.dfdl_markup.specs.Trees.{node_at}
use Rattle.dfdl_components.specs.Sites.{nodes_of}
use Rattle.dfdl_properties.specs.Forms.{is_one}
use Rattle.dfdl_properties.specs.Own.{is_annotation}
use Rattle.dfdl_references.specs.References.{first_found, format_in_annotation, format_in_annotations}
use Rattle.dfdl_references.proofs.referring.format_in_annotations.Given as goal

-- among what is left the same is found as among all
abbrev pub invariant-loop-child : goal.invariant-loop-child
invariant-loop-child l =
    first_found (format_in_annotation l.schema l.document)
    (filter (is_one (nodes_of l.schema l.document) is_annotation) (drop l.child-index (node_at (nodes_of l.schema l.document) l.fn.own.element).children))
    ≡ format_in_annotations l.schema l.fn.own
