-- A body falls into the parts that it was made of, and what stands between a prefix and a suffix is the body.
use Rattle.std.proofs.Common.{◌≡◌, ℕ, ◌+◌, ◌-◌, ◌==◌, ◌&&◌, Bool, true, false, not, nat_le, if◌then◌else◌, List, [], ◌∷◌, ◌++◌, length, take, drop, Some, None, refl, ap, sym, ◌∙◌, length-append, append_assoc, arith}
use Rattle.std.specs.List.{list_all, prefix_len, before_first, after_first}
use Rattle.std.specs.Str.{bytes_eq}
use Rattle.std.proofs.lemmas.Bool.{eq-eqb, le-leb, and_parts}
use Rattle.std.proofs.lemmas.List.{append-nil, drop_all}
use Rattle.std.proofs.Math.Seq.{take-append_seam, drop-append_seam, drop-append-add}
use Rattle.dfdl_forms.specs.declared.number_pattern.Point.TheVariants.{Absent, Written, Implied}
use Rattle.dfdl_number_text.specs.Body.{parts_at, between}
use Rattle.dfdl_number_text.specs.Writing.{with_separator}

-- ---- the first separator
prefix_all : (p : ℕ → Bool) (xs : List ℕ) → list_all p xs ≡ true → prefix_len p xs ≡ length xs
prefix_all p [] all = refl
prefix_all p (x ∷ xs) all =
    let parts = and_parts (p x) (list_all p xs) all in
    rw (parts.0, prefix_all p xs parts.1) (omega arith)

prefix_front : (p : ℕ → Bool) (xs : List ℕ) (y : ℕ) (ys : List ℕ) → list_all p xs ≡ true → p y ≡ false → prefix_len p (xs ++ y ∷ ys) ≡ length xs
prefix_front p [] y ys all stops = rw stops refl
prefix_front p (x ∷ xs) y ys all stops =
    let parts = and_parts (p x) (list_all p xs) all in
    rw (parts.0, prefix_front p xs y ys parts.1 stops) (omega arith)

module _ (decimal : ℕ) (whole : List ℕ) (plain : list_all (λ c. not (c == decimal)) whole ≡ true) where
  separated : (fraction : List ℕ) → before_first (λ c. c == decimal) (whole ++ decimal ∷ fraction) ≡ whole
  separated fraction =
      let stops : not (decimal == decimal) ≡ false = rw (eq-eqb decimal decimal refl) refl in
      ap (λ (n : ℕ). take n (whole ++ decimal ∷ fraction)) (prefix_front (λ c. not (c == decimal)) whole decimal fraction plain stops)
      ∙ take-append_seam whole (decimal ∷ fraction)

  behind : (fraction : List ℕ) → after_first (λ c. c == decimal) (whole ++ decimal ∷ fraction) ≡ fraction
  behind fraction =
      let stops : not (decimal == decimal) ≡ false = rw (eq-eqb decimal decimal refl) refl in
      ap (λ (n : ℕ). drop (n + 1) (whole ++ decimal ∷ fraction)) (prefix_front (λ c. not (c == decimal)) whole decimal fraction plain stops)
      ∙ drop-append-add whole (decimal ∷ fraction) 1

  unseparated : before_first (λ c. c == decimal) (whole ++ []) ≡ whole
  unseparated =
      ap (λ (n : ℕ). take n (whole ++ [])) (ap (prefix_len (λ c. not (c == decimal))) (append-nil whole) ∙ prefix_all (λ c. not (c == decimal)) whole plain)
      ∙ take-append_seam whole []

  nothing_behind : after_first (λ c. c == decimal) (whole ++ []) ≡ []
  nothing_behind =
      ap (λ (n : ℕ). drop (n + 1) (whole ++ [])) (ap (prefix_len (λ c. not (c == decimal))) (append-nil whole) ∙ prefix_all (λ c. not (c == decimal)) whole plain)
      ∙ drop_all (length whole + 1) (whole ++ []) (omega (arith, length-append whole []))

  before_is : (places : ℕ) (fraction : List ℕ) → before_first (λ c. c == decimal) (whole ++ with_separator places decimal fraction) ≡ whole
  before_is places (d ∷ ds) = separated (d ∷ ds)
  before_is places [] = by (places == 0)
    where
      by : (b : Bool) → before_first (λ c. c == decimal) (whole ++ (if b then decimal ∷ [] else [])) ≡ whole
      by true = separated []
      by false = unseparated

  after_is : (places : ℕ) (fraction : List ℕ) → after_first (λ c. c == decimal) (whole ++ with_separator places decimal fraction) ≡ fraction
  after_is places (d ∷ ds) = behind (d ∷ ds)
  after_is places [] = by (places == 0)
    where
      by : (b : Bool) → after_first (λ c. c == decimal) (whole ++ (if b then decimal ∷ [] else [])) ≡ []
      by true = behind []
      by false = nothing_behind

  pub written_parts : (implied places : ℕ) (fraction : List ℕ)
      → parts_at Written decimal implied (whole ++ with_separator places decimal fraction) ≡ record { whole = whole; fraction = fraction; scale = length fraction }
  written_parts implied places fraction =
      let text : List ℕ = whole ++ with_separator places decimal fraction in
      ap (λ (w : List ℕ). record { whole = w; fraction = after_first (λ c. c == decimal) text; scale = length (after_first (λ c. c == decimal) text) }) (before_is places fraction)
      ∙ ap (λ (f : List ℕ). record { whole = whole; fraction = f; scale = length f }) (after_is places fraction)

pub absent_parts : (decimal implied : ℕ) (whole : List ℕ) → parts_at Absent decimal implied (whole ++ []) ≡ record { whole = whole; fraction = []; scale = 0 }
absent_parts decimal implied whole = ap (λ (w : List ℕ). record { whole = w; fraction = []; scale = 0 }) (append-nil whole)

pub implied_parts : (decimal implied : ℕ) (whole fraction : List ℕ) → length fraction ≡ implied
    → parts_at Implied decimal implied (whole ++ fraction) ≡ record { whole = whole; fraction = fraction; scale = implied }
implied_parts decimal implied whole fraction size =
    let front : length (whole ++ fraction) - implied ≡ length whole = omega (arith, length-append whole fraction) in
    ap (λ (n : ℕ). record { whole = take n (whole ++ fraction); fraction = drop n (whole ++ fraction); scale = implied }) front
    ∙ ap (λ (w : List ℕ). record { whole = w; fraction = drop (length whole) (whole ++ fraction); scale = implied }) (take-append_seam whole fraction)
    ∙ ap (λ (f : List ℕ). record { whole = whole; fraction = f; scale = implied }) (drop-append_seam whole fraction)

-- ---- prefix and suffix
bytes_same : (xs : List ℕ) → bytes_eq xs xs ≡ true
bytes_same [] = refl
bytes_same (x ∷ xs) = rw (eq-eqb x x refl) (bytes_same xs)

pub between_affixes : (prefix suffix body : List ℕ) → between prefix suffix (prefix ++ (body ++ suffix)) ≡ Some body
between_affixes prefix suffix body =
    let text : List ℕ = prefix ++ (body ++ suffix) in
    let size : length text ≡ length prefix + (length body + length suffix) = omega (arith, length-append prefix (body ++ suffix), length-append body suffix) in
    let enough : nat_le (length prefix + length suffix) (length text) ≡ true = le-leb _ _ (omega arith) in
    let before : take (length prefix) text ≡ prefix = take-append_seam prefix (body ++ suffix) in
    let end : length text - length suffix ≡ length (prefix ++ body) = omega (arith, length-append prefix body) in
    let behind : drop (length text - length suffix) text ≡ suffix =
    ap (λ (n : ℕ). drop n text) end ∙ ap (drop (length (prefix ++ body))) (sym (append_assoc prefix body suffix)) ∙ drop-append_seam (prefix ++ body) suffix in
    let count : length text - length suffix - length prefix ≡ length body = omega arith in
    let inside : take (length text - length suffix - length prefix) (drop (length prefix) text) ≡ body =
    ap (λ (n : ℕ). take n (drop (length prefix) text)) count ∙ ap (take (length body)) (drop-append_seam prefix (body ++ suffix)) ∙ take-append_seam body suffix in
    by_tests _ _ _ enough (ap (λ (xs : List ℕ). bytes_eq xs prefix) before ∙ bytes_same prefix) (ap (λ (xs : List ℕ). bytes_eq xs suffix) behind ∙ bytes_same suffix)
    ∙ ap Some inside
  where
    by_tests : (a b c : Bool) {x : List ℕ} → a ≡ true → b ≡ true → c ≡ true → (if a && (b && c) then Some x else None) ≡ Some x
    by_tests a b c p q r = rw (p, q, r) refl
