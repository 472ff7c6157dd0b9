use Rattle.std.proofs.Common.{◌≡◌, map}
use Rattle.dfdl_compile.specs.Delimiters.{initiator_list_by, separator_list_by, terminator_list_by}
use Rattle.dfdl_written.specs.Noting.{stated_by}
use Rattle.dfdl_compile.specs.Primitives.{empty_primitive_by, nil_primitive_by, prefix_primitive_by, primitive_by, tried_primitive_by}
use Rattle.dfdl_compile.specs.Whole.{writing_by}
use Rattle.dfdl_compile.proofs.primitives.lists_of.Given as goal

abbrev pub invariant-loop-judgement : goal.invariant-loop-judgement
invariant-loop-judgement l =
    (l.lists.own.items ≡ map primitive_by l.yielded) × (l.lists.prefixes.items ≡ map prefix_primitive_by l.yielded)
    × (l.lists.nils.items ≡ map nil_primitive_by l.yielded) × (l.lists.empties.items ≡ map empty_primitive_by l.yielded)
    × (l.lists.tried.items ≡ map tried_primitive_by l.yielded)
    × (l.lists.initiators.items ≡ map initiator_list_by l.yielded) × (l.lists.terminators.items ≡ map terminator_list_by l.yielded)
    × (l.lists.separators.items ≡ map separator_list_by l.yielded)
    × (l.lists.stated.items ≡ map stated_by l.yielded)
    × (l.lists.writings.items ≡ map writing_by l.yielded)
