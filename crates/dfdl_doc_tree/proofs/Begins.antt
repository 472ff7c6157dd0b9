-- A text begins a word exactly where its bytes begin those of the word.
use Rattle.std.proofs.Common.{◌≡◌, ℕ, true, false, Bool, List, [], ◌∷◌, ◌++◌, refl, sym, ap, ◌∙◌, subst, append_assoc}
use Rattle.std.proofs.lemmas.Bool.{and_parts, and_from, eqb-true, eq-eqb}
use Rattle.std.proofs.lemmas.Str.{encodes-append, cons_from_encodes}
use Rattle.std.proofs.lemmas.Str.{encodes-chars}
use Rattle.std.specs.Str.{chars, IsUtf8}
use lib.Utf8.{encode, encodes}
use Rattle.dfdl_markup.specs.Machine.{begins}

pub begins-append : (text more : List ℕ) → begins text (text ++ more) ≡ true
begins-append [] more = refl
begins-append (c ∷ text) more = and_from _ _ (eq-eqb c c refl) (begins-append text more)

-- what stands behind a text that begins a word
abbrev Behind : List ℕ → List ℕ → Type 0
Behind text word = (more : List ℕ) × (word ≡ text ++ more)

pub behind : (text word : List ℕ) → begins text word ≡ true → Behind text word
behind [] word is = (word, refl)
behind (c ∷ text) [] is = absurd (cc)
behind (c ∷ text) (d ∷ word) is =
    let parts = and_parts _ _ is in
    let rest = behind text word parts.1 in
    (rest.0, ap (λ xs. d ∷ xs) rest.1 ∙ ap (λ x. x ∷ (text ++ rest.0)) (sym (eqb-true _ _ parts.0)))

pub begins_by : (text word more : List ℕ) → encodes word ≡ encodes text ++ more → begins text word ≡ true
begins_by [] word more is = refl
begins_by (c ∷ text) word more is =
    let found = cons_from_encodes word (encodes text ++ more) c (is ∙ append_assoc (encode c) (encodes text) more) in
    subst (λ w. begins (c ∷ text) w ≡ true) (sym found.1)
    (and_from _ _ (eq-eqb c c refl) (begins_by text found.0 more found.2))

-- two tests that hold together
pub same_test : (a b : Bool) → (a ≡ true → b ≡ true) → (b ≡ true → a ≡ true) → a ≡ b
same_test true b f g = sym (f refl)
same_test false true f g = g refl
same_test false false f g = refl

pub begins-encodes : (text word : List ℕ) → begins (encodes text) (encodes word) ≡ begins text word
begins-encodes text word =
    same_test _ _
    (λ is. let rest = behind (encodes text) (encodes word) is in begins_by text word rest.0 rest.1)
    (λ is. let rest = behind text word is in
    subst (λ w. begins (encodes text) w ≡ true)
    (sym (ap encodes rest.1 ∙ encodes-append text rest.0))
    (begins-append (encodes text) (encodes rest.0)))

pub begins-characters : (text word : List ℕ) → IsUtf8 text → IsUtf8 word
    → begins text word ≡ begins (chars text) (chars word)
begins-characters text word is are =
    ap (λ (t : List ℕ). begins t word) (sym (encodes-chars text is))
    ∙ (ap (λ (w : List ℕ). begins (encodes (chars text)) w) (sym (encodes-chars word are))
    ∙ begins-encodes (chars text) (chars word))
