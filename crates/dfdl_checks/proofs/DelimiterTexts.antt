-- What the texts of delimiters come to.
use Rattle.std.proofs.Common.{◌≡◌, ap, subst, ◌∙◌, ℕ, List, [], ◌∷◌, Option, Some, Bool, true, false, if◌then◌else◌, arith}
use Rattle.dfdl_forms.specs.declared.literals.Piece.{Piece}
use Rattle.dfdl_literals.specs.Faults.{IsEmptyList, IsFaultOf}
use Rattle.dfdl_literals.specs.Lists.{Reads, matches_nothing}
use Rattle.dfdl_literals.specs.Readings.{literals_reading}
use Rattle.dfdl_literals.specs.declared.LiteralFault.{LiteralFault}
use Rattle.dfdl_literals.specs.declared.LiteralFault.TheVariants.{MatchesNothing}
use Rattle.dfdl_checks.specs.Delimiters.{delimiter_by}
use Rattle.dfdl_checks.specs.declared.delimiters.DelimiterText.TheVariants.{Literals, Empty}

-- literals of which one can match nothing come to an empty text
empty-text : (o : Option (List (List Piece))) (list : List (List Piece)) → o ≡ Some list → matches_nothing list ≡ true → delimiter_by o ≡ Empty
empty-text o [] is matching = grind (arith, matching)
empty-text o (first ∷ others) is matching =
    ap delimiter_by is ∙ ap (λ (b : Bool). if b then Empty else Literals (first ∷ others)) matching

-- a text in which a literal can match nothing comes to an empty text, where lists are read as one
pub nothing-read : (text : List ℕ) (fault : LiteralFault) → ((list : List (List Piece)) → Reads false list text → literals_reading false text ≡ Some list)
    → fault ≡ MatchesNothing → IsFaultOf false text fault → delimiter_by (literals_reading false text) ≡ Empty
nothing-read text fault read is of =
    let empty : IsEmptyList false text = subst (λ f. IsFaultOf false text f) is of in
    empty-text (literals_reading false text) empty.1 (read empty.1 empty.2) empty.3
