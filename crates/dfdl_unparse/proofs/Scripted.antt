-- What a line does to a document in memory.
use Rattle.std.proofs.Common.{◌≡◌, ℕ, zero, suc, ◌<◌, ◌≤◌, Bool, true, false, ◌||◌, eqb, Option, Some, None, List, [], ◌∷◌, ◌++◌, length, set, refl, sym, ap, ◌∙◌, arith, inl, inr, length-append, length-set}
use Rattle.std.specs.List.{IsDistinct, slice_get}
use Rattle.std.proofs.lemmas.Bool.{cases_eq, cases_lt}
use Rattle.std.proofs.lemmas.Bool.Decides.{eqb_tells}
use Rattle.std.proofs.lemmas.Option.{slice_get_within}
use Rattle.dfdl_splice.specs.Bits.{bits_from}
use Rattle.dfdl_forms.specs.declared.order.BitOrder.TheVariants.{MostFirst}
use Rattle.dfdl_suspend.specs.Asks.{Asks, at, is_in, waiting}
use Rattle.dfdl_suspend.specs.Formulas.{Tabled, equation_in, equation_or, rows_beyond}
use Rattle.dfdl_suspend.specs.declared.known.Held.{Held}
use Rattle.dfdl_suspend.specs.declared.table.Formula.{Formula}
use Rattle.dfdl_suspend.specs.declared.table.Formula.TheVariants.{Event}
use Rattle.dfdl_unparse.specs.Documents.{Comes, Lays}
use Rattle.dfdl_unparse.specs.Scripts.{last_byte, pieces_of, width_by}
use Rattle.dfdl_unparse.proofs.Places.{get_set_other}

get_append_old : {X : Type 0} (xs ys : List X) (i : ℕ) → i < length xs → slice_get (xs ++ ys) i ≡ slice_get xs i
get_append_old [] ys i within = absurd (omega arith)
get_append_old (x ∷ xs) ys zero within = refl
get_append_old (x ∷ xs) ys (suc i) within = get_append_old xs ys i (omega arith)

none_in : (cell : ℕ) → is_in cell [] ≡ true → ⊥
none_in cell e = cc

distinct_none : IsDistinct eqb []
unfolding IsDistinct
distinct_none = tt

distinct_one : (cell : ℕ) → IsDistinct eqb (cell ∷ [])
unfolding IsDistinct
distinct_one cell = (tt, tt)

-- one row more
pub comes_add : (rows : List Formula) (formula : Formula) → Comes (length rows) (equation_in rows) (equation_in (rows ++ formula ∷ [])) []
comes_add rows formula = record {
  same = λ cell. elim (cases_lt cell (length rows)) [
    | inl low ↦ inl (ap (equation_or cell) (get_append_old rows (formula ∷ []) cell low))
    | inr past ↦ inr (rows_beyond rows cell past, λ low. absurd (omega arith))
  ];
  apart = distinct_none;
  waited = λ cell e. absurd (none_in cell e);
}

-- an unknown that waited
pub comes_give : (rows : List Formula) (cell : ℕ) (formula : Formula) → slice_get rows cell ≡ Some Event
    → Comes (length rows) (equation_in rows) (equation_in (set rows cell formula)) (cell ∷ [])
comes_give rows cell formula waits = record {
  same = λ other. elim (cases_eq other cell) [
    | inl same ↦ inr (ap (λ (c : ℕ). equation_in rows c) same ∙ (ap (equation_or cell) waits ∙ ap (λ (c : ℕ). waiting c) (sym same)), λ low. here other same)
    | inr apart ↦ inl (ap (equation_or other) (get_set_other rows cell other formula apart))
  ];
  apart = distinct_one cell;
  waited = λ other e. let same : other ≡ cell = only other e in (
    omega (arith, slice_get_within rows cell Event waits),
    ap (λ (c : ℕ). equation_in rows c) same ∙ (ap (equation_or cell) waits ∙ ap (λ (c : ℕ). waiting c) (sym same)),
  );
}
  where
    here : (other : ℕ) → other ≡ cell → is_in other (cell ∷ []) ≡ true
    here other same = elim (eqb_tells other cell) [ inl e ↦ ap (λ (b : Bool). b || false) e.0 | inr e ↦ absurd (e.1 same) ]

    only : (other : ℕ) → is_in other (cell ∷ []) ≡ true → other ≡ cell
    only other e = elim (eqb_tells other cell) [ inl same ↦ same.1 | inr apart ↦ absurd (false_true (sym (ap (λ (b : Bool). b || false) apart.0) ∙ e)) ]
      where
        false_true : false ≡ true → ⊥
        false_true f = cc

pub lays_add : (equation : ℕ → Asks Held) (old new : Tabled) (widths : List ℕ) (formula : Formula) (width : ℕ) → length old.rows ≤ length widths
    → new.rows ≡ old.rows ++ formula ∷ [] → Lays (length old.rows) equation (pieces_of old widths) (pieces_of new (widths ++ width ∷ []))
lays_add equation old new widths formula width wide is = record {
  more = omega (arith, ap (λ (rows : List Formula). length rows) is, length-append old.rows (formula ∷ []));
  order = refl;
  cells = λ piece within. refl;
  fresh = λ piece low high. low;
  bits = λ room known piece reached within some. ap (λ (o : Option ℕ). bits_from MostFirst (last_byte (at known piece) ∷ []) 0 (width_by o))
      (get_append_old widths (width ∷ []) piece (omega (arith, wide)));
}

pub lays_give : (equation : ℕ → Asks Held) (old new : Tabled) (widths : List ℕ) (cell : ℕ) (formula : Formula)
    → new.rows ≡ set old.rows cell formula → Lays (length old.rows) equation (pieces_of old widths) (pieces_of new widths)
lays_give equation old new widths cell formula is = record {
  more = omega (arith, ap (λ (rows : List Formula). length rows) is, length-set old.rows cell formula);
  order = refl;
  cells = λ piece within. refl;
  fresh = λ piece low high. low;
  bits = λ room known piece reached within some. refl;
}

pub width_few : (o : Option ℕ) → width_by o ≤ 8
width_few None = omega arith
width_few (Some width) = omega arith
