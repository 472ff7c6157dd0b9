-- A literal with a piece that has no text has none.
use Rattle.std.proofs.Common.{◌≡◌, ℕ, zero, suc, List, [], ◌∷◌, length, Option, Some, None, Bool, true, false, ◌&&◌, ◌||◌, ◌==◌, refl, ap, ◌∙◌}
use Rattle.std.specs.List.{list_all}
use Rattle.dfdl_forms.specs.declared.encoding.Encoding.{Encoding}
use Rattle.dfdl_forms.specs.declared.literals.Piece.{Piece}
use Rattle.dfdl_forms.specs.declared.literals.Piece.TheVariants.{Char, Byte, NewLine, Space, Spaces, MaybeSpaces, Nothing}
use Rattle.dfdl_chars.specs.Encodings.{encoded_of, encoded_text, joined}
use Rattle.dfdl_literal_texts.specs.Texts.{after_any, after_bytes, after_encoded, after_most, after_one, after_piece, cases_of, is_text, line_breaks, one_each, spaces}
use Rattle.dfdl_delims.specs.Candidates.{cases, has_one, has_text, have_texts, is_there}
use Rattle.dfdl_delims.proofs.Completing.{same_cases}
use Rattle.dfdl_delims.proofs.Living.{first_none}

-- no bytes pass
abbrev Never : (List ℕ → Bool) → Type 0
Never go = (bytes : List ℕ) → go bytes ≡ false

and_never : (a b : Bool) → b ≡ false → (a && b) ≡ false
and_never true b is = is
and_never false b is = refl

or_never : (a b : Bool) → a ≡ false → b ≡ false → (a || b) ≡ false
or_never true b first second = first
or_never false b first second = second

never_after : (front : List ℕ) (go : List ℕ → Bool) → Never go → Never (after_bytes front go)
never_after [] go never bytes = never bytes
never_after (a ∷ front) go never [] = refl
never_after (a ∷ front) go never (b ∷ bytes) = and_never (a == b) (after_bytes front go bytes) (never_after front go never bytes)

never_encoded : (o : Option (List ℕ)) (go : List ℕ → Bool) → Never go → Never (after_encoded o go)
never_encoded None go never bytes = refl
never_encoded (Some front) go never bytes = never_after front go never bytes

never_one : (encoding : Encoding) (texts : List (List ℕ)) (go : List ℕ → Bool) → Never go → Never (after_one encoding texts go)
unfolding after_one
never_one encoding [] go never bytes = refl
never_one encoding (text ∷ texts) go never bytes =
    or_never (after_encoded (encoded_text encoding text) go bytes) _ (never_encoded (encoded_text encoding text) go never bytes)
    (never_one encoding texts go never bytes)

never_most : (encoding : Encoding) (texts : List (List ℕ)) (n : ℕ) (go : List ℕ → Bool) → Never go → Never (after_most encoding texts n go)
unfolding after_most
never_most encoding texts zero go never bytes = never bytes
never_most encoding texts (suc n) go never bytes =
    or_never (go bytes) _ (never bytes) (never_one encoding texts (after_most encoding texts n go) (never_most encoding texts n go never) bytes)

never_any : (encoding : Encoding) (texts : List (List ℕ)) (go : List ℕ → Bool) → Never go → Never (after_any encoding texts go)
never_any encoding texts go never bytes = never_most encoding texts (length bytes) go never bytes

never_piece : (encoding : Encoding) (fold : Bool) (piece : Piece) (go : List ℕ → Bool) → Never go → Never (after_piece encoding fold piece go)
unfolding after_piece
never_piece encoding fold (Char c) go never bytes = never_one encoding (cases_of fold c) go never bytes
never_piece encoding fold (Byte b) go never bytes = never_after (b ∷ []) go never bytes
never_piece encoding fold NewLine go never bytes = never_one encoding line_breaks go never bytes
never_piece encoding fold Space go never bytes = never_one encoding spaces go never bytes
never_piece encoding fold Spaces go never bytes = never_one encoding spaces (after_any encoding spaces go) (never_any encoding spaces go never) bytes
never_piece encoding fold MaybeSpaces go never bytes = never_any encoding spaces go never bytes
never_piece encoding fold Nothing go never bytes = never bytes

lacks : (o : Option (List ℕ)) (go : List ℕ → Bool) → is_there o ≡ false → Never (after_encoded (joined o (Some [])) go)
lacks None go is bytes = refl
lacks (Some text) go is bytes = let no_it : ⊥ = cc in absurd no_it

lacks_one : (encoding : Encoding) (characters : List ℕ) (go : List ℕ → Bool) → has_one encoding characters ≡ false → Never (after_one encoding (one_each characters) go)
unfolding after_one
lacks_one encoding [] go is bytes = refl
lacks_one encoding (c ∷ characters) go is bytes =
    let parts = first_none (is_there (encoded_of encoding c)) (has_one encoding characters) is in
    or_never (after_encoded (encoded_text encoding (c ∷ [])) go bytes) _ (lacks (encoded_of encoding c) go parts.0 bytes)
    (lacks_one encoding characters go parts.1 bytes)

lacks_piece : (encoding : Encoding) (fold : Bool) (piece : Piece) (go : List ℕ → Bool) → has_text encoding fold piece ≡ false
    → Never (after_piece encoding fold piece go)
unfolding after_piece
lacks_piece encoding fold (Char c) go is bytes =
    ap (λ l. after_one encoding l go bytes) (same_cases fold c) ∙ lacks_one encoding (cases fold c) go is bytes
lacks_piece encoding fold (Byte b) go is bytes = let no_it : ⊥ = cc in absurd no_it
lacks_piece encoding fold NewLine go is bytes = let no_it : ⊥ = cc in absurd no_it
lacks_piece encoding fold Space go is bytes = let no_it : ⊥ = cc in absurd no_it
lacks_piece encoding fold Spaces go is bytes = let no_it : ⊥ = cc in absurd no_it
lacks_piece encoding fold MaybeSpaces go is bytes = let no_it : ⊥ = cc in absurd no_it
lacks_piece encoding fold Nothing go is bytes = let no_it : ⊥ = cc in absurd no_it

pub no_text_at_all : (encoding : Encoding) (fold : Bool) (pieces : List Piece) → have_texts encoding fold pieces ≡ false → Never (is_text encoding fold pieces)
unfolding have_texts is_text
no_text_at_all encoding fold [] is bytes = let no_it : ⊥ = cc in absurd no_it
no_text_at_all encoding fold (piece ∷ pieces) is bytes = by (has_text encoding fold piece) refl is (λ rest. no_text_at_all encoding fold pieces rest)
  where
    by : (t : Bool) → has_text encoding fold piece ≡ t → (t && list_all (has_text encoding fold) pieces) ≡ false
        → (list_all (has_text encoding fold) pieces ≡ false → Never (is_text encoding fold pieces))
        → after_piece encoding fold piece (is_text encoding fold pieces) bytes ≡ false
    by true there some again = never_piece encoding fold piece (is_text encoding fold pieces) (again some) bytes
    by false there some again = lacks_piece encoding fold piece (is_text encoding fold pieces) there bytes
