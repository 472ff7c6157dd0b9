-- Looking a file up among the pairs that contracts see.
use Rattle.std.proofs.Common.{◌≡◌, ℕ, List, [], ◌∷◌, map, option_map, string_bytes, refl, arith}
use Rattle.std.specs.List.{find}
use Rattle.std.specs.Str.{bytes_eq}
use Rattle.dfdl_edge.specs.declared.memory_files.MemoryFile.{MemoryFile}
use Rattle.dfdl_edge.specs.Memory.{bytes_of}

-- the bytes of a file, by the search in the files themselves
pub bytes_of_map : (files : List MemoryFile) (name : List ℕ) →
    bytes_of (map (λ file. (string_bytes file.name, file.bytes.items)) files) name
    ≡ option_map (λ file. file.bytes.items) (find (λ file. bytes_eq (string_bytes file.name) name) files)
bytes_of_map [] name = refl
bytes_of_map (file ∷ files) name = grind (arith, bytes_of_map files name)
