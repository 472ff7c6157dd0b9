-- What a load of a file answers.
use Rattle.std.specs.Prelude.{Bool, Option, Some, None, Result, Ok, Err, ◌≡◌, ℕ, List, ◌<◌, ◌≤◌}
use Rattle.std.specs.Prelude.{length, Vec}
use Rattle.std.specs.declared.alloc.Global.{Global}
use Rattle.dfdl_edge.specs.declared.loading.LoadFault.{LoadFault}
use Rattle.dfdl_edge.specs.declared.loading.LoadFault.TheVariants.{Failed, TooLarge, OutOfMemory}

-- Where the bytes are told and the load has not failed, the file is too large exactly where it is
-- longer than `most`, and the size is its length.
abbrev pub IsTooLargeExactly : Option (List ℕ) → ℕ → Result (Vec ℕ Global) LoadFault → Type 0
IsTooLargeExactly None most result = Unit {0}
IsTooLargeExactly (Some all) most (Err Failed) = Unit {0}
IsTooLargeExactly (Some all) most (Err (TooLarge size)) = (most < length all) × (size ≡ length all)
IsTooLargeExactly (Some all) most (Err OutOfMemory) = length all ≤ most
IsTooLargeExactly (Some all) most (Ok bytes) = length all ≤ most

-- what is counted of the files of the system: the loads that were asked for, and those that failed
pub record FileCounts : Type 0 where
  pub loads : ℕ
  pub failed : ℕ

-- What is seen of files: the bytes of the file of a name, where they are told; whether it is told
-- that there is none of the name; the name last failed, if any did, where that is told; how many
-- loads were asked for, and how many failed.
pub record FilesSeen : Type 0 where
  pub content : List ℕ → Option (List ℕ)
  pub is_missing : List ℕ → Bool
  pub last_failed : Option (Option (List ℕ))
  pub loads : ℕ
  pub faults : ℕ
