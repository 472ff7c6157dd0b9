-- Characters past ASCII in the tests of the machine, and what a place does with them.
use Rattle.std.proofs.Common.{◌≡◌, ◌≢◌, ℕ, ◌<◌, ◌≤◌, ◌==◌, ◌&&◌, Bool, true, false, List, [], ◌∷◌}
use Rattle.std.proofs.Common.{◌++◌, Result, Err, nat_le, refl, sym, subst, ◌∙◌, arith, inl, inr}
use Rattle.std.proofs.lemmas.Bool.{cases_Bool, and_parts, and_left, and_right, leb-true}
use Rattle.std.proofs.lemmas.Bool.Decides.{nat_tests}
use Rattle.dfdl_xml_chars.specs.Characters.{Row, is_in}
use Rattle.dfdl_xml_chars.specs.Beyond.{Only, One, Never, by_test, GoesOn, Does}
use Rattle.dfdl_markup.specs.Grammar.{is_white, is_quote}
use Rattle.dfdl_markup.specs.Values.{is_digit}
use Rattle.dfdl_markup.specs.Rules.{is_encoding_character, small}
use Rattle.dfdl_markup.specs.Machine.{begins}
use Rattle.dfdl_markup.proofs.ReferenceEntities.{is_plain}

-- it is no ASCII character
pub apart : (c k : ℕ) → 128 ≤ c → k < 128 → (c == k) ≡ false
apart c k high low = grind (arith, nat_tests)

pub not_white : (c : ℕ) → 128 ≤ c → is_white c ≡ false
unfolding is_white
not_white c high = grind (arith, nat_tests)

pub not_quote : (c : ℕ) → 128 ≤ c → is_quote c ≡ false
unfolding is_quote
not_quote c high = grind (arith, nat_tests)

pub not_closing : (quote c : ℕ) → is_quote quote ≡ true → 128 ≤ c → (c == quote) ≡ false
unfolding is_quote
not_closing quote c is high = grind (arith, nat_tests)

pub not_digit : (hexadecimal : Bool) (c : ℕ) → 128 ≤ c → is_digit hexadecimal c ≡ false
unfolding is_digit
not_digit true c high = grind (arith, nat_tests)
not_digit false c high = grind (arith, nat_tests)

pub not_encoding : (c : ℕ) → 128 ≤ c → is_encoding_character c ≡ false
unfolding is_encoding_character
not_encoding c high = grind (arith, nat_tests)

pub small_high : (c : ℕ) → 128 ≤ c → small c ≡ c
unfolding small
small_high c high = grind (arith, nat_tests)

-- no ASCII text goes on by it
pub begins_high : (text word : List ℕ) (c : ℕ) → 128 ≤ c → is_plain word ≡ true
    → begins (text ++ c ∷ []) word ≡ false
begins_high [] [] c high plain = refl
begins_high [] (d ∷ word) c high plain =
    let parts = and_parts (nat_le 32 d && nat_le d 127) (is_plain word) plain in
    let ends = and_parts (nat_le 32 d) (nat_le d 127) parts.0 in
    let most : d ≤ 127 = leb-true d 127 ends.1 in
    and_left (c == d) true (apart c d high (omega arith))
begins_high (t ∷ text) [] c high plain = refl
begins_high (t ∷ text) (d ∷ word) c high plain =
    let parts = and_parts (nat_le 32 d && nat_le d 127) (is_plain word) plain in
    and_right (t == d) (begins (text ++ c ∷ []) word) (begins_high text word c high parts.1)

-- what the answer at a character of the rows and at any other is
pub does_only : {S : Type 0} (rows : List Row) (other c : ℕ) (r : Result S ℕ) (test : Bool)
    → test ≡ is_in rows c → (test ≡ true → GoesOn r) → (test ≡ false → r ≡ Err other)
    → Does (Only rows other) c r
does_only rows other c r test same goes fails =
    (λ is. goes (same ∙ is), λ is. fails (same ∙ is))

pub does_never : {S : Type 0} (rows : List Row) (unlike other c : ℕ) (r : Result S ℕ) (test : Bool)
    → test ≡ is_in rows c → (test ≡ true → r ≡ Err unlike) → (test ≡ false → r ≡ Err other)
    → Does (Never rows unlike other) c r
does_never rows unlike other c r test same first second = elim (cases_Bool test) [
  | inl is ↦ subst (λ t. r ≡ Err (by_test t unlike other)) (sym is ∙ same) (first is)
  | inr is ↦ subst (λ t. r ≡ Err (by_test t unlike other)) (sym is ∙ same) (second is)
]

pub does_one : {S : Type 0} (w : ℕ) (rows : List Row) (unlike other c : ℕ) (r : Result S ℕ)
    (test : Bool) → test ≡ is_in rows c → (c ≡ w → GoesOn r)
    → (c ≢ w → test ≡ true → r ≡ Err unlike) → (c ≢ w → test ≡ false → r ≡ Err other)
    → Does (One w rows unlike other) c r
does_one w rows unlike other c r test same goes first second = (
  goes,
  λ else_. does_never rows unlike other c r test same (λ is. first else_ is)
      (λ is. second else_ is),
)
