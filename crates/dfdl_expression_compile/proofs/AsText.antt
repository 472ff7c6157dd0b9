-- Bytes as a text.
use Rattle.std.proofs.Common.{◌≡◌, ℕ, List, [], ap, if◌then◌else◌}
use Rattle.std.specs.Str.{IsUtf8, is_utf8}
use Rattle.std.proofs.lemmas.Bool.{false_from_ne_true}
use Rattle.std.proofs.lemmas.Str.{IsUtf8-from_is_utf8, is_utf8-from_IsUtf8}
use Rattle.dfdl_expression_compile.specs.Literals.{as_text}

pub is_text : (bytes : List ℕ) → IsUtf8 bytes → as_text bytes ≡ bytes
is_text bytes good = ap (λ b. if b then bytes else []) (is_utf8-from_IsUtf8 bytes good)

pub no_text : (bytes : List ℕ) → ¬ (IsUtf8 bytes) → as_text bytes ≡ []
no_text bytes odd = ap (λ b. if b then bytes else []) (false_from_ne_true (is_utf8 bytes) (λ good. odd (IsUtf8-from_is_utf8 bytes good)))
