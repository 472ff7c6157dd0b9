use Rattle.std.proofs.Common.{rules, inl, inr, arith}
use Rattle.std.proofs.lemmas.Grind.{common_steps}
use Rattle.dfdl_edge.proofs.memory_files.MemoryFilesFiles.load.Goals as goal
use Rattle.dfdl_edge.proofs.memory_files.MemoryFilesFiles.load.Goals.{then-not-listed+in_default}
use Rattle.dfdl_edge.proofs.memory_files.MemoryFilesFiles.load.Goals.{else-not-listed}

-- a load fails that is listed, or whose file is missing
pub returns-in-Ok-clause-only : goal.returns-in-Ok-clause-only
returns-in-Ok-clause-only c = λ _. elim c.if-not-listed.branch [
  | then-not-listed+in_default w ↦ inr (grind (arith, common_steps))
  | else-not-listed w ↦ inl (search rules)
]
