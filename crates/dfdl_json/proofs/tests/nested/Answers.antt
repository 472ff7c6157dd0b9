use Rattle.std.proofs.Common.{◌≡◌, ℕ, false, List, [], ◌∷◌, Option, None, All, ap, ◌∙◌, length, lit<}
use Rattle.std.proofs.lemmas.List.Elements.{All-cons, All-nil}
use Rattle.dfdl_forms.specs.declared.simple.Simple.{Simple}
use Rattle.dfdl_terms.specs.declared.representations.Representations.{Representations}
use Rattle.dfdl_terms.specs.declared.statement.Statements.{Statements}
use Rattle.dfdl_terms.specs.declared.row.Row.{Row}
use Rattle.dfdl_terms.specs.declared.row.Row.TheVariants.{Elem}
use Rattle.dfdl_terms.specs.Rows.{HasElementLast, IsPrimitive, NamesWithin, Table, table_of}
use Rattle.dfdl_terms.specs.Tables.{Named}
use Rattle.dfdl_json.proofs.tests.nested.Goals as goal

abbrev no_trials : Representations
no_trials = record {
  nil = None;
  empty = None;
  refuses_empty = false;
  are_several = false;
  where_tried = record { empty = None; refuses_empty = false; are_several = false };
}

abbrev none_behind : Statements
none_behind = record { first = 0; count = 0 }

-- what is said of a list is said of an equal one
all_at : {A : Type 0} (P : A → Type 0) (xs ys : List A) → xs ≡ ys → All P ys → All P xs
all_at P xs ys same all = rw same all

last_there : (t : Table) (rows : List Row) (named : Named) (q0 q1 q2 q3 q4 q5 q6 q7 q8 q9 q10 q11 r : Row) (x : List ℕ) (s : Option Simple) (i : ℕ)
    → t ≡ table_of rows named → rows ≡ q0 ∷ q1 ∷ q2 ∷ q3 ∷ q4 ∷ q5 ∷ q6 ∷ q7 ∷ q8 ∷ q9 ∷ q10 ∷ q11 ∷ r ∷ [] → r ≡ Elem x s no_trials none_behind i → HasElementLast t
last_there t rows named q0 q1 q2 q3 q4 q5 q6 q7 q8 q9 q10 q11 r x s i t_is rows_are r_is = rw (t_is, rows_are, r_is) tt

all_thirteen : (P : Row → Type 0) (a b c d e f g h i j k l m : Row) → P a → P b → P c → P d → P e → P f → P g → P h → P i → P j → P k → P l → P m
    → All P (a ∷ b ∷ c ∷ d ∷ e ∷ f ∷ g ∷ h ∷ i ∷ j ∷ k ∷ l ∷ m ∷ [])
all_thirteen P a b c d e f g h i j k l m at_a at_b at_c at_d at_e at_f at_g at_h at_i at_j at_k at_l at_m =
    All-cons P a (b ∷ c ∷ d ∷ e ∷ f ∷ g ∷ h ∷ i ∷ j ∷ k ∷ l ∷ m ∷ []) at_a (All-cons P b (c ∷ d ∷ e ∷ f ∷ g ∷ h ∷ i ∷ j ∷ k ∷ l ∷ m ∷ []) at_b
    (All-cons P c (d ∷ e ∷ f ∷ g ∷ h ∷ i ∷ j ∷ k ∷ l ∷ m ∷ []) at_c (All-cons P d (e ∷ f ∷ g ∷ h ∷ i ∷ j ∷ k ∷ l ∷ m ∷ []) at_d
    (All-cons P e (f ∷ g ∷ h ∷ i ∷ j ∷ k ∷ l ∷ m ∷ []) at_e (All-cons P f (g ∷ h ∷ i ∷ j ∷ k ∷ l ∷ m ∷ []) at_f
    (All-cons P g (h ∷ i ∷ j ∷ k ∷ l ∷ m ∷ []) at_g (All-cons P h (i ∷ j ∷ k ∷ l ∷ m ∷ []) at_h
    (All-cons P i (j ∷ k ∷ l ∷ m ∷ []) at_i (All-cons P j (k ∷ l ∷ m ∷ []) at_j
    (All-cons P k (l ∷ m ∷ []) at_k (All-cons P l (m ∷ []) at_l
    (All-cons P m [] at_m (All-nil P)))))))))))))

pub build-requires-clause-named : goal.build-requires-clause-named
build-requires-clause-named c =
    let P : Row → Type 0 = NamesWithin c.new-tables.result in
    let one : length c.new-tables.result.primitives ≡ 1 = ap (λ (n : Named). length n.primitives) c.new-tables.ensures ∙ ap length c.in_ok-forms.ensures.items in
    all_at P c.in_ok-rows.rows.items _ c.in_ok-rows.ensures.items
    (all_thirteen P _ _ _ _ _ _ _ _ _ _ _ _ _ (rw one (lit< tt)) (c.in_ok-numbers.ensures.x c.new-tables.result) (c.in_ok-numbers.ensures.y c.new-tables.result)
    (c.in_ok-groups.ensures.of_y c.new-tables.result) (c.in_ok-groups.ensures.of_a c.new-tables.result) tt (c.in_ok-element.ensures.within c.new-tables.result)
    (rw one (lit< tt, lit< tt)) (c.in_ok-numbers.ensures.b c.new-tables.result) tt (c.in_ok-groups.ensures.of_r c.new-tables.result) (rw one (lit< tt))
    (c.in_ok-element-2.ensures.within c.new-tables.result))

pub build-requires-clause-bounded : goal.build-requires-clause-bounded
build-requires-clause-bounded c =
    all_at IsPrimitive c.new-tables.result.primitives (c.form.result ∷ []) (ap (λ (n : Named). n.primitives) c.new-tables.ensures ∙ c.in_ok-forms.ensures.items)
    (All-cons IsPrimitive c.form.result [] c.form.ensures (All-nil IsPrimitive))

pub returns : goal.returns
returns c = last_there _ c.in_ok-rows.rows.items _ _ _ _ _ _ _ _ _ _ _ _ _ _ _ _ _ c.in_ok-build.ensures.ok c.in_ok-rows.ensures.items c.in_ok-element-2.ensures.row
