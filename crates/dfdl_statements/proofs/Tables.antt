-- One step of the loops that make tables of rows.
use Rattle.std.proofs.Common.{◌≡◌, ℕ, ◌+◌, ◌<◌, List, [], ◌∷◌, ◌++◌, Option, Some, length, get_or, map, slice_get, refl, sym, ap, subst, ◌∙◌, arith, add-one}
use Rattle.std.proofs.lemmas.List.{map-append}
use Rattle.std.proofs.lemmas.Option.{slice_get_read}
use Rattle.dfdl_terms.specs.declared.row.Row.{Row}
use Rattle.dfdl_expression_types.specs.declared.statics.Element.{Element}
use Rattle.dfdl_statements.specs.Children.{children_in, content_in, name_in}
use Rattle.dfdl_statements.specs.Elements.{Declaration, arounds_by, declarations_of, declaration_shown, declared_by, name_numbers_of, number_of, outermost, told_by, tops_of, turned}

-- a list with one item more, which is made of the list so far
pub one_more : {X : Type 0} (xs ys zs : List X) (x y : X) → ys ≡ xs ++ (x ∷ []) → xs ≡ zs → x ≡ y → ys ≡ zs ++ (y ∷ [])
one_more xs ys zs x y grown same is = cc

-- the row of a number, and the one that is so far from the last
pub there : (rows : List Row) (count n : ℕ) (row : Row) → count ≡ length rows → n < count → row ≡ get_or rows n row → slice_get rows n ≡ Some row
there rows count n row same low is = slice_get_read rows count n row same low is

pub there_turned : (rows : List Row) (count n : ℕ) (row : Row) → count ≡ length rows → n < count → row ≡ get_or rows (turned count n) row
    → slice_get rows (turned count n) ≡ Some row
there_turned rows count n row same low is = slice_get_read rows count (turned count n) row same (omega (arith, low)) is

pub turned_back : (count n : ℕ) → n < count → n ≡ turned count (turned count n)
turned_back count n low = omega (arith, low)

module _ (rows : List Row) (n : ℕ) (row : Row) where
  around_counted : (old new : List (Option ℕ)) → slice_get rows (turned (length rows) n) ≡ Some row → old ≡ arounds_by rows n
      → new ≡ told_by (length rows) (turned (length rows) n) (Some row) old → new ≡ arounds_by rows (n + 1)
  around_counted old new there same is =
      rw add-one
      (is ∙ (ap (λ t. told_by (length rows) (turned (length rows) n) (Some row) t) same
      ∙ ap (λ r. told_by (length rows) (turned (length rows) n) r (arounds_by rows n)) (sym there)))

  pub around_told : (count : ℕ) (old new : List (Option ℕ)) → count ≡ length rows → slice_get rows (turned count n) ≡ Some row
      → old ≡ arounds_by rows n → new ≡ told_by count (turned count n) (Some row) old → new ≡ arounds_by rows (n + 1)
  around_told count old new counted there same is =
      around_counted old new (subst (λ k. slice_get rows (turned k n) ≡ Some row) counted there) same
      (subst (λ k. new ≡ told_by k (turned k n) (Some row) old) counted is)

  top_counted : (old new : List (List ℕ)) (top : List ℕ) → slice_get rows n ≡ Some row → old ≡ tops_of rows n
      → top ≡ outermost (length rows) n (content_in (Some row)) (children_in (Some row)) old → new ≡ old ++ (top ∷ []) → new ≡ tops_of rows (n + 1)
  top_counted old new top there same is grown =
      rw add-one
      (one_more old new (tops_of rows n) top _ grown same
      (is ∙ (ap (λ t. outermost (length rows) n (content_in (Some row)) (children_in (Some row)) t) same
      ∙ ap (λ r. outermost (length rows) n (content_in r) (children_in r) (tops_of rows n)) (sym there))))

  pub top_put : (old new seen : List (List ℕ)) (top : List ℕ) → slice_get rows n ≡ Some row → old ≡ tops_of rows n → seen ≡ old
      → top ≡ outermost (length rows) n (content_in (Some row)) (children_in (Some row)) seen → new ≡ old ++ (top ∷ []) → new ≡ tops_of rows (n + 1)
  top_put old new seen top there same sees is grown =
      top_counted old new top there same
      (subst (λ t. top ≡ outermost (length rows) n (content_in (Some row)) (children_in (Some row)) t) sees is) grown

  pub number_put : (old new : List (Option ℕ)) (name : Option (List ℕ)) (number : Option ℕ) → slice_get rows n ≡ Some row → old ≡ name_numbers_of rows n
      → name ≡ name_in (Some row) → number ≡ number_of rows name → new ≡ old ++ (number ∷ []) → new ≡ name_numbers_of rows (n + 1)
  number_put old new name number there same is found grown =
      rw add-one
      (one_more old new (name_numbers_of rows n) number _ grown same
      (found ∙ (ap (number_of rows) is ∙ ap (λ r. number_of rows (name_in r)) (sym there))))

  element_counted : (old new : List Declaration) (d : Declaration) → slice_get rows (turned (length rows) n) ≡ Some row → old ≡ declarations_of rows n
      → d ≡ declared_by rows (turned (length rows) n) (Some row) → new ≡ old ++ (d ∷ []) → new ≡ declarations_of rows (n + 1)
  element_counted old new d there same is grown =
      rw add-one
      (one_more old new (declarations_of rows n) d _ grown same
      (is ∙ ap (λ r. declared_by rows (turned (length rows) n) r) (sym there)))

  pub element_put : (count : ℕ) (old new : List Declaration) (d : Declaration) → count ≡ length rows → slice_get rows (turned count n) ≡ Some row
      → old ≡ declarations_of rows n → d ≡ declared_by rows (turned count n) (Some row) → new ≡ old ++ (d ∷ []) → new ≡ declarations_of rows (n + 1)
  element_put count old new d counted there same is grown =
      element_counted old new d (subst (λ k. slice_get rows (turned k n) ≡ Some row) counted there) same
      (subst (λ k. d ≡ declared_by rows (turned k n) (Some row)) counted is) grown

mapped_more : (xs ys : List Element) (e : Element) → ys ≡ xs ++ (e ∷ []) → map declaration_shown ys ≡ map declaration_shown xs ++ (declaration_shown e ∷ [])
mapped_more xs ys e grown = ap (map declaration_shown) grown ∙ map-append declaration_shown xs (e ∷ [])

pub declared_put : (rows : List Row) (n : ℕ) (row : Row) (old new : List Element) (e : Element) → slice_get rows (turned (length rows) n) ≡ Some row
    → map declaration_shown old ≡ declarations_of rows n → declaration_shown e ≡ declared_by rows (turned (length rows) n) (Some row)
    → new ≡ old ++ (e ∷ []) → map declaration_shown new ≡ declarations_of rows (n + 1)
declared_put rows n row old new e there same is grown =
    element_put rows n row (length rows) (map declaration_shown old) (map declaration_shown new) (declaration_shown e) refl there same is (mapped_more old new e grown)
