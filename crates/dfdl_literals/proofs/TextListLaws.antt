-- Each text stands for what its literals are as texts.
use Rattle.std.proofs.Common.{◌≡◌, ℕ, ◌<◌, List, [], ◌∷◌, length, map, Option, Some, None, Bool, true, false, cond, Result, Ok, Err, inl, inr, refl, sym, ap, subst, ◌∙◌, arith}
use Rattle.std.proofs.lemmas.Bool.{and_parts, cond-true, cond-false}
use Rattle.std.specs.List.{list_all}
use Rattle.std.specs.Result.{IfOk}
use Rattle.dfdl_machines.specs.Machines.{run}
use Rattle.dfdl_forms.specs.declared.literals.Piece.{Piece}
use Rattle.dfdl_forms.specs.declared.literals.Piece.TheVariants.{Char, Byte, NewLine, Space, Spaces, MaybeSpaces, Nothing}
use Rattle.dfdl_literals.specs.declared.text_lists.TextList.{TextList}
use Rattle.dfdl_literals.specs.declared.text_lists.TextList.TheVariants.{Texts, Malformed, Other}
use Rattle.dfdl_literals.specs.Lists.{IsList, Reads, Spells, closed, is_character}
use Rattle.dfdl_literals.specs.Steps.{State, start, step, accepts}
use Rattle.dfdl_literals.specs.TextLists.{AreOther, StandsForTexts}
use Rattle.dfdl_literals.specs.TextSteps.{character_of, texts_of, texts_whole, texts_reading}
use Rattle.dfdl_literals.proofs.Reader.{full_run, reads_only, refused, stuck_run}

-- literals of characters alone

char_of : (piece : Piece) → is_character piece ≡ true → Char (character_of piece) ≡ piece
char_of (Char c) is = refl
char_of (Byte b) is = let no_it : ⊥ = cc in absurd no_it
char_of NewLine is = let no_it : ⊥ = cc in absurd no_it
char_of Space is = let no_it : ⊥ = cc in absurd no_it
char_of Spaces is = let no_it : ⊥ = cc in absurd no_it
char_of MaybeSpaces is = let no_it : ⊥ = cc in absurd no_it
char_of Nothing is = let no_it : ⊥ = cc in absurd no_it

plain_literal : (pieces : List Piece) → list_all is_character pieces ≡ true → map Char (map character_of pieces) ≡ pieces
plain_literal [] is = refl
plain_literal (piece ∷ pieces) is =
    let parts = and_parts (is_character piece) (list_all is_character pieces) is in
    ap (λ p. p ∷ map Char (map character_of pieces)) (char_of piece parts.0) ∙ ap (λ l. piece ∷ l) (plain_literal pieces parts.1)

plain_list : (list : List (List Piece)) → list_all (list_all is_character) list ≡ true → map (map Char) (map (map character_of) list) ≡ list
plain_list [] is = refl
plain_list (literal ∷ list) is =
    let parts = and_parts (list_all is_character literal) (list_all (list_all is_character) list) is in
    ap (λ l. l ∷ map (map Char) (map (map character_of) list)) (plain_literal literal parts.0) ∙ ap (λ l. literal ∷ l) (plain_list list parts.1)

text_plain : (text : List ℕ) → list_all is_character (map Char text) ≡ true
text_plain [] = refl
text_plain (c ∷ text) = text_plain text

texts_plain : (texts : List (List ℕ)) → list_all (list_all is_character) (map (map Char) texts) ≡ true
texts_plain [] = refl
texts_plain (text ∷ texts) = rw (text_plain text) (texts_plain texts)

text_back : (text : List ℕ) → map character_of (map Char text) ≡ text
text_back [] = refl
text_back (c ∷ text) = ap (λ l. c ∷ l) (text_back text)

texts_back : (texts : List (List ℕ)) → map (map character_of) (map (map Char) texts) ≡ texts
texts_back [] = refl
texts_back (text ∷ texts) = ap (λ l. l ∷ map (map character_of) (map (map Char) texts)) (text_back text) ∙ ap (λ l. text ∷ l) (texts_back texts)

pub of_texts : (texts : List (List ℕ)) → 0 < length texts → texts_of (map (map Char) texts) ≡ Texts texts
of_texts [] some = absurd (omega arith)
of_texts (text ∷ texts) some = cond-true _ _ _ (texts_plain (text ∷ texts)) ∙ ap Texts (texts_back (text ∷ texts))

pub of_other : (list : List (List Piece)) → AreOther list → texts_of list ≡ Other
of_other [] other = refl
of_other (literal ∷ list) (inl none) = let no_it : ⊥ = cc in absurd no_it
of_other (literal ∷ list) (inr other) = cond-false _ _ _ other

-- what is read is what the text stands for

not_empty : (text : List ℕ) (texts : List (List ℕ)) → 0 < length (text ∷ texts)
not_empty text texts = omega arith

pub list_stands : (text : List ℕ) (list : List (List Piece)) → Reads false list text → StandsForTexts text (texts_of list)
list_stands text [] reads = ([], reads, inl refl)
list_stands text (literal ∷ list) reads = by (list_all (list_all is_character) (literal ∷ list)) refl
  where
    by : (b : Bool) → list_all (list_all is_character) (literal ∷ list) ≡ b
        → StandsForTexts text (cond b (Texts (map (map character_of) (literal ∷ list))) Other)
    by true is =
        (subst (λ l. Reads false l text) (sym (plain_list (literal ∷ list) is)) reads, not_empty (map character_of literal) (map (map character_of) list))
    by false is = (literal ∷ list, reads, inr is)

pub reading_stands : (text : List ℕ) → StandsForTexts text (texts_reading text)
reading_stands text = by (run (step false) start text) refl
  where
    end : (s : State) (b : Bool) → run (step false) start text ≡ Some s → accepts s ≡ b
        → StandsForTexts text (cond b (texts_of (closed s.ended s.open_pieces)) Malformed)
    end s true is whole = list_stands text (closed s.ended s.open_pieces) (reads_only false s text is whole)
    end s false is whole = refused false text s is whole

    by : (o : Option State) → run (step false) start text ≡ o → StandsForTexts text (texts_whole o)
    by None is = stuck_run false text is
    by (Some s) is = end s (accepts s) is refl

-- and it is the only one

pub list_reading : (text : List ℕ) (list : List (List Piece)) → Spells false list text → texts_reading text ≡ texts_of list
list_reading text list spells =
    ap texts_whole (ap (λ l. run (step false) start l) (sym spells.spelled) ∙ full_run false spells.written spells.fits) ∙ ap texts_of spells.means

pub none_reading : (text : List ℕ) → (IsList false text → ⊥) → texts_reading text ≡ Malformed
none_reading text none = by (run (step false) start text) refl
  where
    end : (s : State) (b : Bool) → run (step false) start text ≡ Some s → accepts s ≡ b
        → cond b (texts_of (closed s.ended s.open_pieces)) Malformed ≡ Malformed
    end s true is whole = absurd (none (closed s.ended s.open_pieces, (reads_only false s text is whole).spells))
    end s false is whole = refl

    by : (o : Option State) → run (step false) start text ≡ o → texts_whole o ≡ Malformed
    by None is = refl
    by (Some s) is = end s (accepts s) is refl

pub stands_for_one : (text : List ℕ) (list : TextList) → StandsForTexts text list → list ≡ texts_reading text
stands_for_one text (Texts texts) stands = sym (list_reading text (map (map Char) texts) stands.0.spells ∙ of_texts texts stands.1)
stands_for_one text Malformed stands = sym (none_reading text stands)
stands_for_one text Other stands = sym (list_reading text stands.0 stands.1.spells ∙ of_other stands.0 stands.2)

-- what is made of the literals read

pub result_stands : {E : Type 0} (text : List ℕ) (list : List (List Piece)) (result : Result TextList E) → Reads false list text
    → IfOk result (λ l. l ≡ texts_of list) → IfOk result (λ l. StandsForTexts text l)
result_stands text list (Ok l) reads is = subst (λ x. StandsForTexts text x) (sym is) (list_stands text list reads)
result_stands text list (Err e) reads is = tt

pub result_reading : {E : Type 0} (text : List ℕ) (list : List (List Piece)) (result : Result TextList E) → Reads false list text
    → IfOk result (λ l. l ≡ texts_of list) → IfOk result (λ l. l ≡ texts_reading text)
result_reading text list (Ok l) reads is = is ∙ sym (list_reading text list reads.spells)
result_reading text list (Err e) reads is = tt
