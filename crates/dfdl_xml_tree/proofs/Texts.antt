-- The characters of a text that grows.
use Rattle.std.proofs.Common.{◌≡◌, ℕ, true, List, [], ◌∷◌, ◌++◌, refl, ap, ◌∙◌, append-nil, sym}
use Rattle.std.proofs.lemmas.Bool.{and_from}
use Rattle.std.proofs.lemmas.Str.{chars-append, chars-encodes, chars-nil}
use Rattle.std.specs.Prelude.{encode_utf8}
use Rattle.std.specs.Str.{chars, IsUtf8}
use lib.Utf8.{scalar}

pub chars-one : (c : ℕ) → scalar c ≡ true → chars (encode_utf8 c) ≡ c ∷ []
chars-one c is =
    ap chars (sym (append-nil (encode_utf8 c))) ∙ chars-encodes (c ∷ []) (and_from _ _ is refl)

-- one character more
pub chars-push : (text : List ℕ) (c : ℕ) → IsUtf8 text → scalar c ≡ true
    → chars (text ++ encode_utf8 c) ≡ chars text ++ c ∷ []
chars-push text c utf8 is =
    chars-append text (encode_utf8 c) utf8 ∙ ap (λ more. chars text ++ more) (chars-one c is)

-- no bytes are no characters
pub no_letters : chars [] ≡ []
no_letters = chars-nil
