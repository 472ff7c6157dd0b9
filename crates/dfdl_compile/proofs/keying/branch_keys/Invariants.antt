use Rattle.std.proofs.Common.{◌≡◌, ◌++◌, drop}
use Rattle.dfdl_compile.specs.Components.{branch_keys}
use Rattle.dfdl_compile.specs.Keying.{keys_at_number}
use Rattle.dfdl_compile.proofs.keying.branch_keys.Given as goal

-- the keys of the branches so far, and those of the branches that are left
abbrev pub invariant-loop-at : goal.invariant-loop-at
invariant-loop-at l = l.made.items ++ branch_keys (keys_at_number l.schema l.judgements) l.at (drop l.at l.branches)
    ≡ branch_keys (keys_at_number l.schema l.judgements) 0 l.branches
