-- There are no more variables than elements.
use Rattle.std.proofs.Common.{◌≡◌, ◌+◌, ◌<◌, ◌≤◌, ◌^◌, Bool, true, false, List}
use Rattle.std.proofs.Common.{[], ◌∷◌, ◌++◌, length, subst, sym, arith, length-append, if◌then◌else◌}
use Rattle.std.specs.List.{flat_map}
use Rattle.dfdl_documents.specs.Documents.{SchemaDocument}
use Rattle.dfdl_components.specs.declared.site.Site.{Site}
use Rattle.dfdl_components.specs.Recursion.{count_of}
use Rattle.dfdl_components.specs.Sites.{role_of}
use Rattle.dfdl_chains.specs.declared.numbers.Numbers.{Numbers}
use Rattle.dfdl_chains.specs.Everywhere.{all_sites}
use Rattle.dfdl_chains.specs.Shown.{AreNumbers}
use Rattle.dfdl_chains.proofs.Numbering.{length_all}
use Rattle.dfdl_variables.specs.declared.variable.Declared.{Declared}
use Rattle.dfdl_variables.specs.Variables.{declared_at, declared_if, is_definition, variables_of}

-- an element defines one variable at most
one_at_most : (documents : List SchemaDocument) (own : Site) → length (declared_if documents own) ≤ 1
one_at_most documents own = by_test (is_definition (role_of documents own))
  where
    by_test : (test : Bool) → length (if test then declared_at documents own ∷ [] else []) ≤ 1
    by_test true = omega arith
    by_test false = omega arith

-- some elements define no more variables than they are
at_most : (documents : List SchemaDocument) (sites : List Site) → length (flat_map (declared_if documents) sites) ≤ length sites
at_most documents [] = omega arith
at_most documents (own ∷ sites) =
    let here : length (declared_if documents own) ≤ 1 = one_at_most documents own in
    let others : length (flat_map (declared_if documents) sites) ≤ length sites = at_most documents sites in
    let all : length (declared_if documents own ++ flat_map (declared_if documents) sites)
    ≡ length (declared_if documents own) + length (flat_map (declared_if documents) sites)
    = length-append (declared_if documents own) (flat_map (declared_if documents) sites) in
    omega (arith, here, others, all)

-- all variables of a schema
pub few_variables : (documents : List SchemaDocument) (numbers : Numbers) (variables : List Declared) → AreNumbers documents numbers
    → variables ≡ variables_of documents → length variables < 2 ^ 32
unfolding variables_of
few_variables documents numbers variables are is =
    let most : length (flat_map (declared_if documents) (all_sites documents)) ≤ length (all_sites documents)
    = at_most documents (all_sites documents) in
    let counted : length (all_sites documents) ≡ count_of documents = length_all documents in
    let same : numbers.count ≡ count_of documents = are.count in
    let few : numbers.count < 2 ^ 32 = are.few in
    subst (λ (s : List Declared). length s < 2 ^ 32) (sym is) (omega (arith, most, counted, same, few))
