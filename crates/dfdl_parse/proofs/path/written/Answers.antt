use Rattle.std.proofs.Common.{◌≡◌, ◌++◌, ◌∷◌, [], ℕ, List, slice_get, string_bytes, length, refl, ap, sym, ◌∙◌, arith, rules}
use Rattle.dfdl_grammar.specs.Paths.{node_name, place_text}
use Rattle.dfdl_parse.specs.Named.{named}
use Rattle.dfdl_parse.proofs.Paths.{none-named, put-step}
use Rattle.dfdl_parse.proofs.path.written.Goals as goal

length_zero : (numbers : List ℕ) → length numbers ≡ 0 → numbers ≡ []
length_zero [] none = refl
length_zero (number ∷ rest) none = absurd (omega arith)

pub names-preserved : goal.names-preserved
names-preserved c =
    let t = c.args.terms.now in
    let nodes = c.args.nodes.now in
    let number = c.in-Some.number in
    let rest : List ℕ = named t nodes c.pop.new.self.items in
    let name : List ℕ = node_name t (slice_get nodes number) in
    let place : List ℕ = place_text t nodes number (slice_get nodes number) in
    ap (λ (text : List ℕ). text ++ rest) (c.in_ok-push_place-in-Some.ensures t c.requires)
    ∙ ap (λ (text : List ℕ). (text ++ place) ++ rest) c.in_ok-push_name-in-Some.ensures
    ∙ ap (λ (text : List ℕ). ((text ++ name) ++ place) ++ rest) c.in_ok-push_str-in-Some.ensures.bytes
    ∙ put-step t nodes (string_bytes c.names.text) c.pop.new.self.items number
    ∙ ap (λ (numbers : List ℕ). string_bytes c.names.text ++ named t nodes numbers) (sym c.in-Some.ensures.items)
    ∙ c.names.invariant

pub returns-in-None : goal.returns-in-None
returns-in-None c =
    let none : length c.names.numbers.items ≡ 0 = search (rules, c.in-None.ensures.cases) in
    sym (none-named c.args.terms.now c.args.nodes.now (string_bytes c.names.text) c.names.numbers.items (length_zero c.names.numbers.items none))
    ∙ c.names.invariant
