use Rattle.std.proofs.Common.{◌≡◌, ℕ, zero, suc, ◌<◌, List, [], ◌∷◌, length, get_or, arith, refl, ◌∙◌}
use Rattle.dfdl_components.specs.Recursion.{start_of, count_of, number_of}
use Rattle.dfdl_chains.proofs.Numbering.{number_below}
use Rattle.dfdl_chains.proofs.numbers.Numbers.number.Goals as goal

-- the element of a list, whatever stands for one past its end
first : (xs : List ℕ) (i d e : ℕ) → i < length xs → get_or xs i d ≡ get_or xs i e
first [] i d e less = absurd (omega (arith, less))
first (x ∷ xs) zero d e less = refl
first (x ∷ xs) (suc i) d e less = first xs i d e (omega (arith, less))

pub overflow_add-result : goal.overflow_add-result
overflow_add-result c =
    let low : number_of c.args.schema.now c.args.site < count_of c.args.schema.now = number_below c.args.schema.now c.args.site c.requires.site in
    let start : c.index.result.now ≡ start_of c.args.schema.now c.args.site.document =
    c.index.ensures ∙ (first c.args.self.now.starts.items c.args.site.document c.index.result.now 0 (omega (arith, c.requires.numbers.documents_counted, c.requires.site.0)) ∙ c.requires.numbers.starts c.args.site.document c.requires.site.0) in
    omega (arith, low, start, c.requires.numbers.count, c.requires.numbers.few)
