-- A literal of characters alone stands for their bytes.
use Rattle.std.proofs.Common.{◌≡◌, ◌↔◌, ℕ, List, [], ◌∷◌, ◌++◌, length, map, Option, Some, None, Bool, true, false, ◌&&◌, ◌||◌, ◌==◌, refl, sym, ap, ◌∙◌, arith}
use Rattle.std.proofs.lemmas.Bool.{and_parts, eqb-true}
use Rattle.std.proofs.lemmas.Bool.Decides.{nat_tests}
use Rattle.std.proofs.lemmas.List.{append-nil}
use Rattle.dfdl_forms.specs.declared.encoding.Encoding.{Encoding}
use Rattle.dfdl_forms.specs.declared.literals.Piece.TheVariants.{Char}
use Rattle.dfdl_chars.specs.Encodings.{encoded_of, encoded_text, joined}
use Rattle.dfdl_literal_texts.specs.Texts.{after_bytes, after_encoded, after_one, after_piece, is_none, is_text}

-- what stands behind the bytes
record Behind (front : List ℕ) (go : List ℕ → Bool) (bytes : List ℕ) : Type 0 where
  more : List ℕ
  is : front ++ more ≡ bytes
  passes : go more ≡ true

behind : (front : List ℕ) (go : List ℕ → Bool) (bytes : List ℕ) → after_bytes front go bytes ≡ true → Behind front go bytes
behind [] go bytes holds = record { more = bytes; is = refl; passes = holds }
behind (b ∷ front) go [] holds = let no_it : ⊥ = cc in absurd no_it
behind (b ∷ front) go (c ∷ bytes) holds =
    let parts = and_parts (b == c) (after_bytes front go bytes) holds in
    let rest = behind front go bytes parts.1 in
    record {
      more = rest.more;
      is = ap (λ d. d ∷ (front ++ rest.more)) (eqb-true b c parts.0) ∙ ap (λ l. c ∷ l) rest.is;
      passes = rest.passes;
    }

same_test : (n : ℕ) → (n == n) ≡ true
same_test n = grind (arith, nat_tests)

onwards : (front more : List ℕ) (go : List ℕ → Bool) → after_bytes front go (front ++ more) ≡ go more
onwards [] more go = refl
onwards (b ∷ front) more go = ap (λ t. t && after_bytes front go (front ++ more)) (same_test b) ∙ onwards front more go

none_bytes : (bytes : List ℕ) → is_none bytes ≡ true → Some [] ≡ Some bytes
none_bytes [] is = refl
none_bytes (b ∷ bytes) is = let none : length (b ∷ bytes) ≡ 0 = eqb-true _ 0 is in absurd (omega (arith, none))

bytes_none : (bytes : List ℕ) → Some [] ≡ Some bytes → is_none bytes ≡ true
bytes_none [] is = refl
bytes_none (b ∷ bytes) is = let no_it : ⊥ = cc in absurd no_it

or_false : (b : Bool) → (b || false) ≡ b
or_false true = refl
or_false false = refl

joined_nothing : (o : Option (List ℕ)) → joined o (Some []) ≡ o
joined_nothing None = refl
joined_nothing (Some xs) = ap Some (append-nil xs)

char_after : (encoding : Encoding) (c : ℕ) (go : List ℕ → Bool) (bytes : List ℕ)
    → after_piece encoding false (Char c) go bytes ≡ after_encoded (encoded_of encoding c) go bytes
unfolding after_piece after_one
char_after encoding c go bytes =
    or_false (after_encoded (joined (encoded_of encoding c) (Some [])) go bytes) ∙ ap (λ o. after_encoded o go bytes) (joined_nothing (encoded_of encoding c))

encoded_front : (encoding : Encoding) (c : ℕ) (text bytes : List ℕ) (go : List ℕ → Bool) (o : Option (List ℕ))
    → ((more : List ℕ) → go more ≡ true → encoded_text encoding text ≡ Some more)
    → encoded_of encoding c ≡ o → after_encoded o go bytes ≡ true → encoded_text encoding (c ∷ text) ≡ Some bytes
encoded_front encoding c text bytes go None again it holds = let no_it : ⊥ = cc in absurd no_it
encoded_front encoding c text bytes go (Some xs) again it holds =
    let rest = behind xs go bytes holds in
    ap (λ o. joined o (encoded_text encoding text)) it ∙ ap (λ o. joined (Some xs) o) (again rest.more rest.passes) ∙ ap Some rest.is

pub is_encoded : (encoding : Encoding) (text bytes : List ℕ) → is_text encoding false (map Char text) bytes ≡ true → encoded_text encoding text ≡ Some bytes
unfolding is_text
is_encoded encoding [] bytes holds = none_bytes bytes holds
is_encoded encoding (c ∷ text) bytes holds =
    encoded_front encoding c text bytes (is_text encoding false (map Char text)) (encoded_of encoding c) (λ more passes. is_encoded encoding text more passes) refl
    (sym (char_after encoding c (is_text encoding false (map Char text)) bytes) ∙ holds)

some_bytes : (xs ys : List ℕ) → Some xs ≡ Some ys → xs ≡ ys
some_bytes xs ys is = cc

encoded_after : (encoding : Encoding) (c : ℕ) (text bytes : List ℕ) (go : List ℕ → Bool) (o p : Option (List ℕ))
    → ((more : List ℕ) → encoded_text encoding text ≡ Some more → go more ≡ true)
    → encoded_text encoding text ≡ p → joined o p ≡ Some bytes → after_encoded o go bytes ≡ true
encoded_after encoding c text bytes go None p again it is = let no_it : ⊥ = cc in absurd no_it
encoded_after encoding c text bytes go (Some xs) None again it is = let no_it : ⊥ = cc in absurd no_it
encoded_after encoding c text bytes go (Some xs) (Some more) again it is =
    ap (λ l. after_bytes xs go l) (sym (some_bytes (xs ++ more) bytes is)) ∙ onwards xs more go ∙ again more it

pub encoded_is : (encoding : Encoding) (text bytes : List ℕ) → encoded_text encoding text ≡ Some bytes → is_text encoding false (map Char text) bytes ≡ true
unfolding is_text
encoded_is encoding [] bytes is = bytes_none bytes is
encoded_is encoding (c ∷ text) bytes is =
    char_after encoding c (is_text encoding false (map Char text)) bytes
    ∙ encoded_after encoding c text bytes (is_text encoding false (map Char text)) (encoded_of encoding c) (encoded_text encoding text)
    (λ more it. encoded_is encoding text more it) refl is

pub is_its_bytes : (encoding : Encoding) (text bytes : List ℕ) → (is_text encoding false (map Char text) bytes ≡ true) ↔ (encoded_text encoding text ≡ Some bytes)
is_its_bytes encoding text bytes = (is_encoded encoding text bytes, encoded_is encoding text bytes)
