-- A number with zeros before it, as `{n:0>w$}` writes it.
use Rattle.std.proofs.Common.{◌≡◌, ℕ, zero, suc, ◌-◌, ◌^◌, ◌<◌, ◌≤◌, List, [], ◌∷◌, ◌++◌, length, replicate, refl, sym, ap, ◌∙◌, false, if◌then◌else◌, ◌&&◌, not, lit<, arith}
use Rattle.std.proofs.Math.Dec.{eqb-suc-zero}
use Rattle.std.specs.Fmt.{padded_integral, styled_decimal, decimal, format_spec, char_count}
use Rattle.std.specs.List.{repeat}
use Rattle.std.specs.Str.{IsAscii}
use Rattle.std.proofs.lemmas.Fmt.{IsAscii-decimal_wide}
use Rattle.std.proofs.lemmas.Str.{IsAscii-append}
use Rattle.std.proofs.lemmas.Str.Ascii.{IsAscii-nil, IsAscii-cons}
use Rattle.std.proofs.lemmas.List.{append-nil, length-append, length-replicate}
use Rattle.dfdl_value.specs.Writing.{padded_decimal}

repeat-zero : (n : ℕ) → repeat {A = ℕ} n (48 ∷ []) ≡ replicate n 48
repeat-zero zero = refl
repeat-zero (suc n) = ap (λ r. 48 ∷ r) (repeat-zero n)

zeros_before : (ds : List ℕ) (missing : ℕ) → (repeat {A = ℕ} missing (48 ∷ []) ++ [] ++ [] ++ []) ++ (ds ++ repeat {A = ℕ} (missing - missing) (48 ∷ [])) ≡ replicate missing 48 ++ ds
zeros_before ds missing =
    let none : missing - missing ≡ 0 = omega arith in
    rw none (simp (append-nil, repeat-zero))

pub styled_decimal-zeros : (least n : ℕ) → styled_decimal (format_spec 48 3 0 least (2 ^ 64 - 1)) n ≡ padded_decimal least n
unfolding padded_integral char_count lib.Utf8.encode
styled_decimal-zeros zero n =
    let none : 0 - length (decimal n) ≡ 0 = omega arith in
    ap (λ k. replicate k 48 ++ decimal n) (sym none)
styled_decimal-zeros (suc least) n =
    let s = format_spec 48 3 0 (suc least) (2 ^ 64 - 1) in
    let missing : suc least - length (decimal n) - 0 - 0 ≡ suc least - length (decimal n) = omega arith in
    ap (λ b. if b && not s.plus && not s.alternate then decimal n else padded_integral s false [] (decimal n)) (eqb-suc-zero least)
    ∙ ap (λ k. (repeat {A = ℕ} k (48 ∷ []) ++ [] ++ [] ++ []) ++ (decimal n ++ repeat {A = ℕ} (k - k) (48 ∷ []))) missing
    ∙ zeros_before (decimal n) (suc least - length (decimal n))

zeros_ascii : (k : ℕ) → IsAscii (replicate k 48)
zeros_ascii zero = IsAscii-nil
zeros_ascii (suc k) = IsAscii-cons 48 (replicate k 48) (lit< tt) (zeros_ascii k)

pub IsAscii-padded_decimal : (least n : ℕ) → n < 10 ^ 64 → IsAscii (padded_decimal least n)
IsAscii-padded_decimal least n small = IsAscii-append _ _ (zeros_ascii (least - length (decimal n))) (IsAscii-decimal_wide n small)

pub length-padded_decimal : (least n : ℕ) → least ≤ length (padded_decimal least n)
length-padded_decimal least n = simp (length-append, length-replicate) (omega arith)
