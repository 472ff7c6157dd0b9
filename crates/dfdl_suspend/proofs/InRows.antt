-- Tables of equations, as rows are given and pushed.
use Rattle.std.proofs.Common.{◌≡◌, ℕ, ◌+◌, ◌<◌, ◌≤◌, true, Some, List, [], ◌∷◌, ◌++◌, length, set, sym, ap, subst, ◌∙◌, arith, inl, inr}
use Rattle.std.specs.List.{slice_get, IsDistinct}
use Rattle.std.proofs.lemmas.Bool.{cases_eq, cases_lt}
use Rattle.std.proofs.lemmas.List.{length_push}
use Rattle.std.proofs.lemmas.Option.{slice_get_within}
use Rattle.dfdl_suspend.specs.Asks.{is_in, waiting}
use Rattle.dfdl_suspend.specs.Boards.{Boarded, Fits}
use Rattle.dfdl_suspend.specs.Events.{Brings}
use Rattle.dfdl_suspend.specs.Formulas.{equation_or, equation_in, NamesWithin, AreWithin, rows_beyond}
use Rattle.dfdl_suspend.specs.declared.table.Formula.{Formula}
use Rattle.dfdl_suspend.specs.declared.table.Formula.TheVariants.{Event, Plain, Fault, Same, Sum}
use Rattle.dfdl_suspend.proofs.Places.{get_set_other, get_append_old, get_push_cases}
use Rattle.dfdl_suspend.proofs.Readies.{in_cons, in_front}

pub within_more : (n m : ℕ) (formula : Formula) → n ≤ m → NamesWithin n formula → NamesWithin m formula
within_more n m Event less is = tt
within_more n m (Plain number) less is = tt
within_more n m (Fault cause) less is = tt
within_more n m (Same other) less is = omega arith
within_more n m (Sum first second) less is = (let p = is.0 in omega arith, let p = is.1 in omega arith)

pub within_push : (rows : List Formula) (formula : Formula) → AreWithin rows → NamesWithin (length rows + 1) formula → AreWithin (rows ++ formula ∷ [])
within_push rows formula are is = λ cell other e. elim (get_push_cases rows formula other cell e) [
  | inl old ↦ within_more (length rows) (length (rows ++ formula ∷ [])) other (let more = length_push rows formula in omega arith) (are cell other old)
  | inr new ↦ subst (λ f. NamesWithin (length (rows ++ formula ∷ [])) f) new.1 (subst (λ (n : ℕ). NamesWithin n formula) (sym (length_push rows formula)) is)
]

none_in : {P : Type 0} (cell : ℕ) → is_in cell [] ≡ true → P
none_in cell e = absurd (cc)

pub given_brings : (rows : List Formula) (cell : ℕ) (formula : Formula) → slice_get rows cell ≡ Some Event → (board : Boarded) → Fits (length board.marks) (equation_in rows) board
    → length board.ready ≡ 0 → length board.marks ≡ length rows → Brings (equation_in rows) (equation_in (set rows cell formula)) (cell ∷ []) board
unfolding IsDistinct
given_brings rows cell formula event board fits idle long =
    let low : cell < length rows = slice_get_within rows cell Event event in
    let waits : equation_in rows cell ≡ waiting cell = ap (equation_or cell) event in
    record {
      fits = fits;
      idle = idle;
      same = λ c. elim (cases_eq c cell) [
        | inl is ↦ inr (ap (λ k. equation_in rows k) is ∙ (waits ∙ ap (λ k. waiting k) (sym is)), λ inside. in_front c cell [] is)
        | inr apart ↦ inl (ap (equation_or c) (get_set_other rows cell c formula apart))
      ];
      apart = (tt, tt);
      waited = λ c e. elim (in_cons c cell [] e) [
        | inl is ↦ (omega (arith, low, long, is), ap (λ k. equation_in rows k) is ∙ (waits ∙ ap (λ k. waiting k) (sym is)))
        | inr none ↦ none_in c none
      ];
    }

pub pushed_brings : (rows : List Formula) (formula : Formula) (board : Boarded) → Fits (length board.marks) (equation_in rows) board
    → length board.ready ≡ 0 → length board.marks ≡ length rows → Brings (equation_in rows) (equation_in (rows ++ formula ∷ [])) [] board
unfolding IsDistinct
pushed_brings rows formula board fits idle long = record {
  fits = fits;
  idle = idle;
  same = λ c. elim (cases_lt c (length rows)) [
    | inl low ↦ inl (ap (equation_or c) (get_append_old rows (formula ∷ []) c low))
    | inr past ↦ inr (rows_beyond rows c past, λ inside. absurd (omega (arith, past, inside, long)))
  ];
  apart = tt;
  waited = λ c e. none_in c e;
}
