-- One step of the loops over rows and statements.
use Rattle.std.proofs.Common.{◌≡◌, ℕ, suc, ◌+◌, ◌-◌, ◌<◌, ◌≤◌, List, [], ◌∷◌, ◌++◌, Option, Some, None, Result, Ok, Err, OnOk, slice_get, sym, subst, ap, ◌∙◌, append_assoc, append-nil, arith}
use Rattle.dfdl_expression_types.specs.declared.statics.Place.{Place}
use Rattle.dfdl_statements.specs.declared.standing.Standing.{Standing}
use Rattle.dfdl_terms.specs.declared.row.Row.{Row}
use Rattle.dfdl_statements.specs.declared.rows.Instance.{Instance}
use Rattle.dfdl_statements.specs.declared.written.Written.{Written}
use Rattle.dfdl_statements.specs.Children.{instance_in}
use Rattle.dfdl_statements.specs.Standing.{around_at, begun_by, begun_with, grouped, row_place, standing_of, standings_from}

pub on_ok : {A E : Type 0} (result : Result A E) (P Q : Type 0) → OnOk result P → (P → Q) → OnOk result Q
on_ok (Ok v) P Q holds follows = follows holds
on_ok (Err e) P Q holds follows = tt

pub one_standing : (xs ys : List Standing) (first step count : ℕ) (place : Place) → step < count → ys ≡ xs ++ (standing_of (first + step) place ∷ [])
    → ys ++ standings_from (first + (step + 1)) (count - (step + 1)) place ≡ xs ++ standings_from (first + step) (count - step) place
one_standing xs ys first step count place low same =
    let n : count - step ≡ suc (count - (step + 1)) = omega (arith, low) in
    let a : first + (step + 1) ≡ suc (first + step) = omega arith in
    let others = standings_from (suc (first + step)) (count - (step + 1)) place in
    subst (λ k. ys ++ standings_from (first + (step + 1)) (count - (step + 1)) place ≡ xs ++ standings_from (first + step) k place) (sym n)
    (subst (λ b. ys ++ standings_from b (count - (step + 1)) place ≡ xs ++ (standing_of (first + step) place ∷ others)) (sym a)
    (subst (λ zs. zs ++ others ≡ xs ++ (standing_of (first + step) place ∷ others)) (sym same)
    (append_assoc xs (standing_of (first + step) place ∷ []) others)))

module _ (rows : List Row) (written : List Written) (arounds : List (Option ℕ)) (xs whole : List Standing) (count counter row : ℕ)
    (same : xs ++ begun_by rows written arounds (count - counter) row ≡ whole) where
  -- one instance more that is opened
  pub begun_more : (ys : List Standing) (i : Instance) → counter < count → Some i ≡ instance_in (slice_get rows row)
      → ys ≡ xs ++ (standing_of i.statement (row_place (slice_get written i.statement) (around_at arounds row)) ∷ [])
      → ys ++ begun_by rows written arounds (count - (counter + 1)) i.body ≡ whole
  begun_more ys i low is grown =
      let n : suc (count - (counter + 1)) ≡ count - counter = omega (arith, low) in
      let one = standing_of i.statement (row_place (slice_get written i.statement) (around_at arounds row)) in
      let others = begun_by rows written arounds (count - (counter + 1)) i.body in
      ap (λ zs. zs ++ others) grown
      ∙ (append_assoc xs (one ∷ []) others
      ∙ (ap (λ o. xs ++ begun_with rows written arounds (begun_by rows written arounds (count - (counter + 1))) row o) is
      ∙ (ap (λ k. xs ++ begun_by rows written arounds k row) n ∙ same)))

  -- the group inside of all of them
  pub begun_last : (ys : List Standing) → counter < count → None ≡ instance_in (slice_get rows row) → ys ≡ xs ++ grouped rows written arounds row → ys ≡ whole
  begun_last ys low is grown =
      let n : suc (count - (counter + 1)) ≡ count - counter = omega (arith, low) in
      grown
      ∙ (ap (λ o. xs ++ begun_with rows written arounds (begun_by rows written arounds (count - (counter + 1))) row o) is
      ∙ (ap (λ k. xs ++ begun_by rows written arounds k row) n ∙ same))

  -- no row is left
  pub begun_end : count ≤ counter → xs ≡ whole
  begun_end past =
      let n : 0 ≡ count - counter = omega (arith, past) in
      sym (append-nil xs) ∙ (ap (λ k. xs ++ begun_by rows written arounds k row) n ∙ same)
