-- A row that stands below another has its own meaning there.
use Rattle.std.proofs.Common.{◌≡◌, ℕ, zero, suc, ◌<◌, Bool, true, false, cond, nat_eq, refl, ap, arith}
use Rattle.std.proofs.lemmas.Bool.Decides.{nat_tests}
use Rattle.dfdl_terms.specs.Rows.{Table}
use Rattle.dfdl_grammar.specs.States.{Input, State}
use Rattle.dfdl_grammar.specs.Rows.{below, meaning, row_at}

here : (input : Input) (table : Table) (id n : ℕ) (s : State) (test : Bool) → nat_eq id n ≡ test → id < suc n
    → (id < n → below input table n id s ≡ meaning input table id s)
    → cond test (row_at input table (below input table n) n s) (below input table n id s) ≡ meaning input table id s
unfolding meaning
here input table id n s true is less rest =
    let same : n ≡ id = grind (arith, nat_tests) in
    ap (λ (j : ℕ). row_at input table (below input table j) j s) same
here input table id n s false is less rest = rest (grind (arith, nat_tests))

pub below-meaning : (input : Input) (table : Table) (n id : ℕ) (s : State) → id < n → below input table n id s ≡ meaning input table id s
unfolding below
below-meaning input table zero id s less = absurd (omega arith)
below-meaning input table (suc n) id s less = here input table id n s _ refl less (below-meaning input table n id s)
