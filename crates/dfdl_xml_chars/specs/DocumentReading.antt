-- A machine over the characters of a document as one over its bytes. Rule 1 is that they are UTF-8,
-- and rule 2 that each character is allowed; the machine tells the rules behind them.
use Rattle.std.specs.Prelude.{◌≡◌, ℕ, ◌≤◌, List, Bool, true, Result, encode_utf8}
use Rattle.std.specs.Char.{IsScalar}
use Rattle.dfdl_layers.specs.Tellers.{IsTeller}
use Rattle.dfdl_layers.specs.Allowed.{GoodAllowed, allowed_step, RestOfAllowed}
use Rattle.dfdl_layers.specs.Bytes.{Inside, byte_step, SoundInside, RestOfBytes}
use Rattle.dfdl_xml_chars.specs.Utf8.{see}
use Rattle.dfdl_xml_chars.specs.Characters.{is_allowed}
use Rattle.dfdl_xml_chars.specs.Beyond.{Beyond, could_by, Does, FitsBehind}

-- the step over bytes of a machine over characters whose places do this with characters past ASCII
abbrev pub document_step : {S : Type 0} → (S → ℕ → Result S ℕ) → (S → Beyond) → Inside S → ℕ
    → Result (Inside S) ℕ
document_step step beyond =
    byte_step 1 (allowed_step 2 is_allowed step) (λ s bytes. could_by (beyond s) bytes) see

-- the states that it comes to
abbrev pub SoundDocument : {S : Type 0} → (S → Beyond) → (S → Type 0) → Inside S → Type 0
SoundDocument beyond Sound = SoundInside see (λ s bytes. could_by (beyond s) bytes) Sound

-- what may follow: bytes that, behind those read, are UTF-8 of allowed characters that may follow
abbrev pub RestOfDocument : {S : Type 0} → (ℕ → S → List ℕ → Type 0) → ℕ → Inside S → List ℕ
    → Type 0
RestOfDocument Rest = RestOfBytes 1 IsScalar encode_utf8 (RestOfAllowed 2 is_allowed Rest)

-- the machine over characters tells the rules behind the two, and its places do what is said with
-- characters past ASCII
pub record ReadsCharacters {S : Type 0} (step : S → ℕ → Result S ℕ) (start : S) (accepts : S → Bool)
    (all : ℕ) (Sound : S → Type 0)
    (Rest : ℕ → S → List ℕ → Type 0) (beyond : S → Beyond) : Type 0 where
  pub teller : IsTeller step start accepts all (GoodAllowed is_allowed IsScalar) Sound Rest
  pub free : (n : ℕ) (s : S) (characters : List ℕ) → n ≤ 2 → Rest n s characters
  pub fits : (s : S) → Sound s → FitsBehind 2 (beyond s)
  pub does : (s : S) (c : ℕ) → Sound s → 128 ≤ c → IsScalar c → is_allowed c ≡ true
      → Does (beyond s) c (step s c)
