-- How marks move over the pieces of a literal.
use Rattle.std.proofs.Common.{◌≡◌, ℕ, zero, suc, ◌+◌, ◌-◌, ◌<◌, ◌≤◌, List, [], ◌∷◌, length, set, get_or, drop, Some, Bool, true, false, ◌&&◌, ◌||◌, ◌==◌, refl, sym, ap, ◌∙◌, arith}
use mathlib.Core.Path.{fun_ext}
use Rattle.std.proofs.lemmas.Bool.Decides.{nat_tests}
use Rattle.std.proofs.lemmas.List.{drop-drop, drop_more, drop_all, length-drop}
use Rattle.dfdl_forms.specs.declared.encoding.Encoding.{Encoding}
use Rattle.dfdl_forms.specs.declared.literals.Piece.{Piece}
use Rattle.dfdl_forms.specs.declared.literals.Piece.TheVariants.{Char, Byte, NewLine, Space, Spaces, MaybeSpaces, Nothing}
use Rattle.dfdl_literal_texts.specs.Texts.{after_any, after_one, after_piece, cases_of, is_none, is_text, line_breaks, spaces}
use Rattle.dfdl_literal_texts.specs.Places.{at_front, front_of, goes, piece_front, rest_at, some_front, some_marked, taken_at}
use Rattle.dfdl_literal_texts.proofs.Marks.{mark_on}
use Rattle.dfdl_literal_texts.proofs.Ends.{after_front, after_some}

shifted : (is_rest : List ℕ → Bool) (bytes : List ℕ) (k n : ℕ) → is_rest (drop n (drop k bytes)) ≡ rest_at is_rest bytes (k + n)
unfolding rest_at
shifted is_rest bytes k n = ap is_rest (drop-drop n k bytes)

-- one of these texts at a place
texts_at : (encoding : Encoding) (texts : List (List ℕ)) (is_rest : List ℕ → Bool) (bytes : List ℕ) (k : ℕ)
    → after_one encoding texts is_rest (drop k bytes) ≡ some_front encoding texts (drop k bytes) (λ n. rest_at is_rest bytes (k + n))
texts_at encoding texts is_rest bytes k =
    after_some encoding texts (drop k bytes) is_rest ∙ ap (λ (f : ℕ → Bool). some_front encoding texts (drop k bytes) f) (fun_ext (λ n. shifted is_rest bytes k n))

-- a text of one piece at a place
pub piece_at : (encoding : Encoding) (fold : Bool) (piece : Piece) (is_rest : List ℕ → Bool) (bytes : List ℕ) (k : ℕ)
    → (piece ≡ Spaces → ⊥) → (piece ≡ MaybeSpaces → ⊥) → (piece ≡ Nothing → ⊥)
    → taken_at encoding fold piece is_rest bytes k ≡ rest_at (after_piece encoding fold piece is_rest) bytes k
unfolding after_piece piece_front taken_at rest_at
piece_at encoding fold (Char c) is_rest bytes k first second third = sym (texts_at encoding (cases_of fold c) is_rest bytes k)
piece_at encoding fold (Byte b) is_rest bytes k first second third =
    sym (after_front (Some (b ∷ [])) (drop k bytes) is_rest
    ∙ ap (λ (f : ℕ → Bool). at_front (front_of (Some (b ∷ [])) (drop k bytes)) f) (fun_ext (λ n. shifted is_rest bytes k n)))
piece_at encoding fold NewLine is_rest bytes k first second third = sym (texts_at encoding line_breaks is_rest bytes k)
piece_at encoding fold Space is_rest bytes k first second third = sym (texts_at encoding spaces is_rest bytes k)
piece_at encoding fold Spaces is_rest bytes k first second third = absurd (first refl)
piece_at encoding fold MaybeSpaces is_rest bytes k first second third = absurd (second refl)
piece_at encoding fold Nothing is_rest bytes k first second third = absurd (third refl)

pub piece_passed : (encoding : Encoding) (fold : Bool) (piece : Piece) (is_rest : List ℕ → Bool) (bytes : List ℕ) (places : List Bool)
    → (piece ≡ Spaces → ⊥) → (piece ≡ MaybeSpaces → ⊥) → (piece ≡ Nothing → ⊥)
    → some_marked places (taken_at encoding fold piece is_rest bytes) ≡ goes places (after_piece encoding fold piece is_rest) bytes
piece_passed encoding fold piece is_rest bytes places first second third =
    ap (λ (f : ℕ → Bool). some_marked places f) (fun_ext (λ k. piece_at encoding fold piece is_rest bytes k first second third))

spaces_at : (encoding : Encoding) (fold : Bool) (is_rest : List ℕ → Bool) (bytes : List ℕ) (k : ℕ)
    → taken_at encoding fold Spaces (after_any encoding spaces is_rest) bytes k ≡ rest_at (after_piece encoding fold Spaces is_rest) bytes k
unfolding after_piece piece_front taken_at rest_at
spaces_at encoding fold is_rest bytes k = sym (texts_at encoding spaces (after_any encoding spaces is_rest) bytes k)

pub spaces_passed : (encoding : Encoding) (fold : Bool) (is_rest : List ℕ → Bool) (bytes : List ℕ) (places : List Bool)
    → some_marked places (taken_at encoding fold Spaces (after_any encoding spaces is_rest) bytes) ≡ goes places (after_piece encoding fold Spaces is_rest) bytes
spaces_passed encoding fold is_rest bytes places =
    ap (λ (f : ℕ → Bool). some_marked places f) (fun_ext (λ k. spaces_at encoding fold is_rest bytes k))

pub maybe_same : (encoding : Encoding) (fold : Bool) (is_rest : List ℕ → Bool) (bytes : List ℕ) (places : List Bool)
    → goes places (after_any encoding spaces is_rest) bytes ≡ goes places (after_piece encoding fold MaybeSpaces is_rest) bytes
unfolding after_piece
maybe_same encoding fold is_rest bytes places = refl

pub nothing_same : (encoding : Encoding) (fold : Bool) (is_rest : List ℕ → Bool) (bytes : List ℕ) (places : List Bool)
    → goes places is_rest bytes ≡ goes places (after_piece encoding fold Nothing is_rest) bytes
unfolding after_piece
nothing_same encoding fold is_rest bytes places = refl

-- no place is marked
pub none_marked : (places : List Bool) (passes : ℕ → Bool) → ((k : ℕ) → k < length places → get_or places k false ≡ false) → some_marked places passes ≡ false
unfolding some_marked
none_marked [] passes none = refl
none_marked (mark ∷ places) passes none =
    rw (none zero (omega arith)) (none_marked places (λ k. passes (suc k)) (λ k within. none (suc k) (omega (arith, within))))

-- the first place alone is marked
pub first_marked : (places : List Bool) (passes : ℕ → Bool) → 0 < length places → ((k : ℕ) → k < length places → get_or places k false ≡ false)
    → some_marked (set places 0 true) passes ≡ passes 0
first_marked places passes some none = mark_on places 0 passes some ∙ ap (λ b. b || passes 0) (none_marked places passes none)

-- all pieces are passed: the last place tells
end_at : (places : List Bool) (passes : ℕ → Bool) (n : ℕ) → length places ≡ n + 1 → ((k : ℕ) → k < n → passes k ≡ false) → passes n ≡ true
    → some_marked places passes ≡ get_or places n false
unfolding some_marked
end_at [] passes n is before last = absurd (omega (arith, is))
end_at (mark ∷ []) passes zero is before last = rw last (one mark)
  where
    one : (b : Bool) → ((b && true) || false) ≡ b
    one true = refl
    one false = refl
end_at (mark ∷ []) passes (suc n) is before last = absurd (omega (arith, is))
end_at (mark ∷ next ∷ places) passes zero is before last = absurd (omega (arith, is))
end_at (mark ∷ next ∷ places) passes (suc n) is before last =
    rw (before zero (omega arith))
    (no_mark mark (some_marked (next ∷ places) (λ k. passes (suc k)))
    ∙ end_at (next ∷ places) (λ k. passes (suc k)) n (omega (arith, is)) (λ k less. before (suc k) (omega (arith, less))) last)
  where
    no_mark : (b c : Bool) → ((b && false) || c) ≡ c
    no_mark true c = refl
    no_mark false c = refl

some_test : (n : ℕ) → 0 < n → (n == 0) ≡ false
some_test n some = grind (arith, nat_tests)

pub none_left : (bytes : List ℕ) (k : ℕ) → k < length bytes → is_none (drop k bytes) ≡ false
none_left bytes k less = by (drop k bytes) (length-drop k bytes)
  where
    by : (l : List ℕ) → length l ≡ length bytes - k → is_none l ≡ false
    by [] is = absurd (omega (arith, is, less))
    by (b ∷ l) is = some_test (length (b ∷ l)) (omega arith)

pub last_tells : (encoding : Encoding) (fold : Bool) (pieces : List Piece) (bytes : List ℕ) (places : List Bool) → length places ≡ length bytes + 1
    → length pieces ≤ 0 → goes places (is_text encoding fold pieces) bytes ≡ get_or places (length bytes) false
unfolding is_text rest_at
last_tells encoding fold [] bytes places is past =
    end_at places (λ k. is_none (drop k bytes)) (length bytes) is (none_left bytes) (ap is_none (drop_all (length bytes) bytes (omega arith)))
last_tells encoding fold (piece ∷ pieces) bytes places is past = absurd (omega (arith, past))

pub text_more : (encoding : Encoding) (fold : Bool) (pieces : List Piece) (at : ℕ) (d : Piece) (bytes : List ℕ) (places : List Bool) → at < length pieces
    → goes places (is_text encoding fold (drop at pieces)) bytes
    ≡ goes places (after_piece encoding fold (get_or pieces at d) (is_text encoding fold (drop (at + 1) pieces))) bytes
unfolding is_text
text_more encoding fold pieces at d bytes places within = ap (λ l. goes places (is_text encoding fold l) bytes) (drop_more pieces at d within)

pub text_begun : (encoding : Encoding) (fold : Bool) (pieces : List Piece) (bytes : List ℕ) → rest_at (is_text encoding fold pieces) bytes 0 ≡ is_text encoding fold pieces bytes
unfolding rest_at
text_begun encoding fold pieces bytes = refl
