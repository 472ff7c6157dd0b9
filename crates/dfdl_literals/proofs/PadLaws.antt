-- Each text of a pad character stands for what it is read as.
use Rattle.std.proofs.Common.{◌≡◌, ℕ, List, [], ◌∷◌, Option, Some, None, Bool, true, false, refl, sym, ap, subst, ◌∙◌, option_map}
use Rattle.std.specs.List.{list_any}
use Rattle.dfdl_forms.specs.declared.literals.Piece.{Piece}
use Rattle.dfdl_forms.specs.declared.literals.Piece.TheVariants.{Char, Byte, NewLine, Space, Spaces, MaybeSpaces, Nothing}
use Rattle.dfdl_literals.specs.declared.single.Found.{Found}
use Rattle.dfdl_literals.specs.declared.single.Found.TheVariants.{Blank, One, More}
use Rattle.dfdl_literals.specs.declared.pad.PadCharacter.{PadCharacter}
use Rattle.dfdl_literals.specs.declared.pad.PadCharacter.TheVariants.{Character, Malformed, Other}
use Rattle.dfdl_literals.specs.Lists.{is_divider, Reads}
use Rattle.dfdl_literals.specs.Pads.{IsCharacter, StandsFor}
use Rattle.dfdl_literals.specs.PadSteps.{pad_found, pad_piece, pad_reading}
use Rattle.dfdl_literals.specs.Readings.{literals_reading}
use Rattle.dfdl_literals.proofs.ReadingLaws.{none_is, reading_reads}
use Rattle.dfdl_literals.proofs.SingleLaws.{found_in, found_literal, found_same}

pub piece_of : (l : List Piece) (p : Piece) → found_literal l ≡ One p → l ≡ p ∷ []
piece_of [] p is = let no_it : ⊥ = cc in absurd no_it
piece_of (q ∷ []) p is = let same : q ≡ p = cc in ap (λ x. x ∷ []) same
piece_of (q ∷ next ∷ l) p is = let no_it : ⊥ = cc in absurd no_it

pub literal_of : (list : List (List Piece)) (p : Piece) → found_in list ≡ One p → list ≡ (p ∷ []) ∷ []
literal_of [] p is = let no_it : ⊥ = cc in absurd no_it
literal_of (l ∷ []) p is = ap (λ x. x ∷ []) (piece_of l p is)
literal_of (l ∷ next ∷ list) p is = let no_it : ⊥ = cc in absurd no_it

one_found : (text : List ℕ) (list : List (List Piece)) (c : ℕ) → Reads true list text → IsCharacter text c → One (Char c) ≡ found_in list
one_found text list c reads is = ap found_in (reads.only ((Char c ∷ []) ∷ []) is.0.spells)

blank_one : (p : Piece) → One p ≡ Blank → ⊥
blank_one p is = cc

more_one : (p : Piece) → One p ≡ More → ⊥
more_one p is = cc

piece_one : (p q : Piece) → One p ≡ One q → p ≡ q
piece_one p q is = cc

both_tests : (b : Bool) → b ≡ true → b ≡ false → ⊥
both_tests b is other = cc

-- a literal of one piece that is no character
one_other : (text : List ℕ) (list : List (List Piece)) (p : Piece) → Reads true list text → found_in list ≡ One p
    → ((c : ℕ) → Char c ≡ p → ⊥) → StandsFor text Other
one_other text list p reads is other =
    ((list, reads.spells), λ c one. other c (piece_one (Char c) p (one_found text list c reads one ∙ is)))

by_piece : (text : List ℕ) (list : List (List Piece)) (p : Piece) → Reads true list text → found_in list ≡ One p
    → list_any is_divider text ≡ false → StandsFor text (pad_piece p)
by_piece text list (Char d) reads is none = (subst (λ l. Reads true l text) (literal_of list (Char d) is) reads, none)
by_piece text list (Byte b) reads is none = one_other text list (Byte b) reads is (λ c same. cc)
by_piece text list NewLine reads is none = one_other text list NewLine reads is (λ c same. cc)
by_piece text list Space reads is none = one_other text list Space reads is (λ c same. cc)
by_piece text list Spaces reads is none = one_other text list Spaces reads is (λ c same. cc)
by_piece text list MaybeSpaces reads is none = one_other text list MaybeSpaces reads is (λ c same. cc)
by_piece text list Nothing reads is none = one_other text list Nothing reads is (λ c same. cc)

by_found : (text : List ℕ) (list : List (List Piece)) (f : Found) (spaced : Bool) → Reads true list text → found_in list ≡ f
    → list_any is_divider text ≡ spaced → StandsFor text (pad_found spaced (Some f))
by_found text list Blank spaced reads is spaces = ((list, reads.spells), λ c one. blank_one (Char c) (one_found text list c reads one ∙ is))
by_found text list (One p) true reads is spaces = ((list, reads.spells), λ c one. both_tests (list_any is_divider text) spaces one.1)
by_found text list (One p) false reads is spaces = by_piece text list p reads is spaces
by_found text list More spaced reads is spaces = ((list, reads.spells), λ c one. more_one (Char c) (one_found text list c reads one ∙ is))

by_reading : (text : List ℕ) (o : Option (List (List Piece))) → literals_reading true text ≡ o
    → StandsFor text (pad_found (list_any is_divider text) (option_map found_in o))
by_reading text None is = (none_is true text).0 is
by_reading text (Some list) is =
    by_found text list (found_in list) (list_any is_divider text) (reading_reads true text list is) refl refl

pub reading_stands : (text : List ℕ) → StandsFor text (pad_reading text)
reading_stands text =
    subst (λ o. StandsFor text (pad_found (list_any is_divider text) o)) (sym (found_same true text))
    (by_reading text (literals_reading true text) refl)

same_character : (c d : ℕ) → (Char d ∷ []) ∷ [] ≡ (Char c ∷ []) ∷ [] → c ≡ d
same_character c d is = cc

pub stands_for_one : (text : List ℕ) (p q : PadCharacter) → StandsFor text p → StandsFor text q → p ≡ q
stands_for_one text (Character c) (Character d) first second = ap Character (same_character c d (first.0.only ((Char d ∷ []) ∷ []) second.0.spells))
stands_for_one text (Character c) Malformed first second = absurd (second ((Char c ∷ []) ∷ [], first.0.spells))
stands_for_one text (Character c) Other first second = absurd (second.1 c first)
stands_for_one text Malformed (Character d) first second = absurd (first ((Char d ∷ []) ∷ [], second.0.spells))
stands_for_one text Malformed Malformed first second = refl
stands_for_one text Malformed Other first second = absurd (first second.0)
stands_for_one text Other (Character d) first second = absurd (first.1 d second)
stands_for_one text Other Malformed first second = absurd (second first.0)
stands_for_one text Other Other first second = refl
