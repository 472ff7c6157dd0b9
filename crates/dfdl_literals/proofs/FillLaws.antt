-- What is found of one piece tells what the text of a fill byte is read as.
use Rattle.std.proofs.Common.{◌≡◌, ℕ, List, [], ◌∷◌, Option, Some, None, Bool, true, false, refl, ap, ◌∙◌, option_map}
use Rattle.std.specs.List.{list_any}
use Rattle.dfdl_forms.specs.declared.literals.Piece.{Piece}
use Rattle.dfdl_literals.specs.Lists.{is_divider}
use Rattle.dfdl_literals.specs.Fills.{fill_told, fill_reading}
use Rattle.dfdl_literals.specs.FillSteps.{fill_found}
use Rattle.dfdl_literals.specs.SingleSteps.{found_text}
use Rattle.dfdl_literals.specs.Readings.{literals_reading}
use Rattle.dfdl_literals.proofs.SingleLaws.{found_in, found_same}

by_list : (spaced : Bool) (list : List (List Piece)) → fill_found spaced (Some (found_in list)) ≡ fill_told spaced (Some list)
by_list true [] = refl
by_list true ([] ∷ []) = refl
by_list true ((piece ∷ []) ∷ []) = refl
by_list true ((piece ∷ next ∷ pieces) ∷ []) = refl
by_list true (literal ∷ next ∷ list) = refl
by_list false [] = refl
by_list false ([] ∷ []) = refl
by_list false ((piece ∷ []) ∷ []) = refl
by_list false ((piece ∷ next ∷ pieces) ∷ []) = refl
by_list false (literal ∷ next ∷ list) = refl

by_reading : (spaced : Bool) (o : Option (List (List Piece))) → fill_found spaced (option_map found_in o) ≡ fill_told spaced o
by_reading spaced None = refl
by_reading spaced (Some list) = by_list spaced list

pub found_reading : (text : List ℕ) → fill_found (list_any is_divider text) (found_text false text) ≡ fill_reading text
unfolding fill_reading
found_reading text =
    ap (λ o. fill_found (list_any is_divider text) o) (found_same false text) ∙ by_reading (list_any is_divider text) (literals_reading false text)
