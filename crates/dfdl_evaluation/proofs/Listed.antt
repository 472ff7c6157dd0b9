-- The lists of delimiters that numbers name.
use Rattle.std.proofs.Common.{◌≡◌, ℕ, suc, ◌<◌, All, List, [], ◌∷◌, length, map, get_or, slice_get, Option, Some, refl, ap, ◌∙◌, arith}
use Rattle.std.proofs.lemmas.Option.{slice_get-get_or}
use Rattle.dfdl_delims.specs.Lists.{Opened}
use Rattle.dfdl_delims.specs.Opening.{Names}
use Rattle.dfdl_delims.specs.Registers.{Holds, Register}
use Rattle.dfdl_grammar.specs.Delimiters.{lists_of, no_literals, opened}
use Rattle.dfdl_terms.specs.declared.delimiters.Delimiters.{Delimiters}

sizes : (ds : List Delimiters) → length (map opened ds) ≡ length ds
sizes [] = refl
sizes (d ∷ ds) = ap suc (sizes ds)

-- those that numbers name in the register
named : (delimiters : List Delimiters) (numbers : List ℕ) → All (λ n. n < length delimiters) numbers
    → map (slice_get (map opened delimiters)) numbers ≡ map Some (lists_of delimiters numbers)
named delimiters [] all = refl
named delimiters (n ∷ numbers) all =
    let less : n < length (map opened delimiters) = omega (arith, sizes delimiters, all 0 n (omega arith)) in
    let one : slice_get (map opened delimiters) n ≡ Some (get_or (map opened delimiters) n no_literals) =
    slice_get-get_or (map opened delimiters) n no_literals less in
    ap (λ (o : Option Opened). o ∷ map (slice_get (map opened delimiters)) numbers) one
    ∙ ap (λ (os : List (Option Opened)). Some (get_or (map opened delimiters) n no_literals) ∷ os)
    (named delimiters numbers (λ i d few. all (suc i) d (omega arith)))

-- so those are open
pub are_named : (register : Register) (delimiters : List Delimiters) (numbers : List ℕ) → Holds register (map opened delimiters)
    → All (λ n. n < length delimiters) numbers → Names register numbers (lists_of delimiters numbers)
are_named register delimiters numbers holds all = record { all = map opened delimiters; holds = holds; named = named delimiters numbers all }
