-- What a place does with a part of a character, as a test.
use Rattle.std.proofs.Common.{◌≡◌, ℕ, ◌&&◌, if◌then◌else◌, Bool, true, false, List, [], ◌∷◌, Option, Some, None, is_some, is_none, refl}
use Rattle.dfdl_xml_chars.specs.Characters.{Row, meets, high_start_rows}
use Rattle.dfdl_xml_chars.specs.Beyond.{Only, could_by}
use Rattle.dfdl_expression_text.specs.Machine.{At, beyond_names}

pub only_could : (rows : List Row) (rule : ℕ) (bytes : List ℕ) → is_none (could_by (Only rows rule) bytes) ≡ meets rows bytes
only_could rows rule bytes = elim (meets rows bytes) as (λ b. is_none (if b then None else Some rule) ≡ b) [ true ↦ refl | false ↦ refl ]

pub names_could : (o : Option At) (bytes : List ℕ) → is_none (could_by (beyond_names o) bytes) ≡ (is_some o && meets high_start_rows bytes)
names_could None bytes = refl
names_could (Some at) bytes = only_could high_start_rows 3 bytes
