use Rattle.std.proofs.Common.{rules}
use Rattle.std.proofs.lemmas.List.Sorted.{IsPartitionPoint-from_clause}
use Rattle.dfdl_variables.specs.declared.variable.Declared.{Declared}
use Rattle.dfdl_variables.specs.Ordered.{stands_before}
use Rattle.dfdl_variables.proofs.Ordered.{are_parted}
use Rattle.dfdl_variables.proofs.numbering.count_before.Goals as goal

pub returns-clause-divided : goal.returns-clause-divided
returns-clause-divided c =
    IsPartitionPoint-from_clause (λ (v : Declared). stands_before v.site c.args.site) c.args.variables.now c.partition_point.result
    c.partition_point.ensures.partitioned (are_parted c.args.variables.now c.args.site c.requires) (λ a r f k. search rules)
