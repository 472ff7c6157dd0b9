-- What contracts see of the implementations in memory.
use Rattle.std.specs.Prelude.{Bool, ℕ, ◌-◌, ◌%◌, ◌^◌, max, List, [], ◌∷◌, length, slice_index}
use Rattle.std.specs.Prelude.{Option, option_map, Contains}
use Rattle.std.specs.List.{find}
use Rattle.std.specs.Str.{bytes_eq}
use Rattle.dfdl_edge.specs.Faults.{one_more}

-- the calls of one implementation: the numbers, from 1 on, of those that are to fail, how many were
-- made, and how many failed
pub record CallCount : Type 0 where
  pub failing : List ℕ
  pub made : ℕ
  pub failed : ℕ

-- the number of the next call
abbrev pub next_call : CallCount → ℕ
next_call calls = one_more calls.made

-- the next call is to fail
abbrev pub IsToFail : CallCount → Type 0
IsToFail calls = Contains calls.failing (next_call calls)

-- the count after one more call that did not fail
abbrev pub after_call : CallCount → CallCount
after_call calls = record calls { made = next_call calls }

-- the count after one more call that failed
abbrev pub after_fault : CallCount → CallCount
after_fault calls = record calls { made = next_call calls; failed = one_more calls.failed }

-- a source: the bytes that are left, the greatest lengths of its reads in turn, and its reads
pub record SourceInMemory : Type 0 where
  pub rest : List ℕ
  pub cuts : List ℕ
  pub calls : CallCount

-- How many bytes read number `call` gives at most. The cuts come in turn, over and over; each
-- counts as 1 at least.
abbrev pub cut_at : List ℕ → ℕ → ℕ
cut_at [] call = 2 ^ 64 - 1
cut_at (cut ∷ cuts) call = max (slice_index (cut ∷ cuts) ((call - 1) % length (cut ∷ cuts))) 1

-- a sink: the bytes that it has taken, whether there was no memory for the piece of its last write,
-- and its writes
pub record SinkInMemory : Type 0 where
  pub bytes : List ℕ
  pub short : Bool
  pub calls : CallCount

-- files: their names and bytes, the name last failed, and their loads
pub record FilesInMemory : Type 0 where
  pub files : List (List ℕ × List ℕ)
  pub last : Option (List ℕ)
  pub calls : CallCount

-- the bytes of the first file of this name
abbrev pub bytes_of : List (List ℕ × List ℕ) → List ℕ → Option (List ℕ)
bytes_of files name = option_map (λ file. file.1) (find (λ file. bytes_eq file.0 name) files)

-- patterns: the text last refused, and their builds
pub record PatternsInMemory : Type 0 where
  pub last : Option (List ℕ)
  pub calls : CallCount
