-- What is seen of bytes is what UTF-8 makes of them.
use Rattle.std.proofs.Common.{◌≡◌, ℕ, ◌+◌, ◌/◌, ◌%◌, ◌<◌, ◌≤◌, ◌⊎◌, ◌++◌, List, [], ◌∷◌, sym, ap}
use Rattle.std.proofs.Common.{subst, ◌∙◌, inl, inr, arith}
use Rattle.std.proofs.lemmas.Bool.{cases_lt}
use Rattle.std.proofs.lemmas.Bool.Decides.{nat_tests}
use Rattle.std.specs.Char.{encode_utf8, IsScalar}
use Rattle.dfdl_layers.specs.Bytes.{Whole, SeenAs, IsCoding}
use Rattle.dfdl_xml_chars.specs.Utf8.{code_of_two, code_of_three, code_of_four, see}
use Rattle.dfdl_xml_chars.proofs.Pairs.{IsPair}
use Rattle.dfdl_xml_chars.proofs.Sees.{IsTail, one_whole, one_part, two_whole, two_part}
use Rattle.dfdl_xml_chars.proofs.Sees.{three_whole, three_part, four_whole, whole_one, whole_two}
use Rattle.dfdl_xml_chars.proofs.Sees.{whole_three, whole_four, no_whole_none, no_whole_more}
use Rattle.dfdl_xml_chars.proofs.Encodes.{encode_one, encode_two, encode_three, encode_four}
use Rattle.dfdl_xml_chars.proofs.Encodes.{scalar_range, scalar_parts, encoded_two, encoded_three}
use Rattle.dfdl_xml_chars.proofs.Encodes.{encoded_four, scalar_three, scalar_four}

-- the property holds wherever the list is cut before an item
abbrev AllSplits : (List ℕ → ℕ → List ℕ → Type 0) → List ℕ → Type 0
AllSplits Q [] = Unit {0}
AllSplits Q (a ∷ l) = Q [] a l × AllSplits (λ f b r. Q (a ∷ f) b r) l

each_split : (Q : List ℕ → ℕ → List ℕ → Type 0) (list : List ℕ) → AllSplits Q list
    → (front : List ℕ) (b : ℕ) (rest : List ℕ) → list ≡ front ++ b ∷ rest → Q front b rest
each_split Q [] all [] b rest is = absurd (cc)
each_split Q [] all (x ∷ front) b rest is = absurd (cc)
each_split Q (a ∷ l) all [] b rest is =
    let first : a ≡ b = cc in
    let others : l ≡ rest = cc in
    subst (λ x. Q [] x rest) first (subst (λ r. Q [] a r) others all.0)
each_split Q (a ∷ l) all (x ∷ front) b rest is =
    let first : a ≡ x = cc in
    let others : l ≡ front ++ b ∷ rest = cc in
    subst (λ y. Q (y ∷ front) b rest) first
    (each_split (λ f d r. Q (a ∷ f) d r) l all.1 front b rest others)

seen_by : (c : ℕ) (coded : List ℕ) → encode_utf8 c ≡ coded
    → AllSplits (λ f b r. SeenAs r c (see (f ++ b ∷ []))) coded
    → (front : List ℕ) (b : ℕ) (rest : List ℕ) → encode_utf8 c ≡ front ++ b ∷ rest
    → SeenAs rest c (see (front ++ b ∷ []))
seen_by c coded is all front b rest same =
    each_split (λ f d r. SeenAs r c (see (f ++ d ∷ []))) coded all front b rest (sym is ∙ same)

pair_three : (c : ℕ) → 2048 ≤ c → c < 65536 → (c < 0xD800) ⊎ (0xE000 ≤ c)
    → IsPair (224 + c / 4096) (128 + c / 64 % 64)
pair_three c least less scalar = record {
  first_least = omega arith;
  first_most = omega arith;
  least = omega arith;
  most = omega arith;
  no_overlong_three = λ is. omega arith;
  no_surrogate = λ is. omega arith;
  no_overlong_four = λ is. absurd (omega arith);
  not_past = λ is. absurd (omega arith);
}

pair_four : (c : ℕ) → 65536 ≤ c → c < 0x11_0000 → IsPair (240 + c / 262144) (128 + c / 4096 % 64)
pair_four c least less = record {
  first_least = omega arith;
  first_most = omega arith;
  least = omega arith;
  most = omega arith;
  no_overlong_three = λ is. absurd (omega arith);
  no_surrogate = λ is. absurd (omega arith);
  no_overlong_four = λ is. omega arith;
  not_past = λ is. omega arith;
}

pair_two : (c b : ℕ) → 128 ≤ c → c < 2048 → 0x80 ≤ b → b ≤ 0xBF → IsPair (192 + c / 64) b
pair_two c b least less tail_least tail_most = record {
  first_least = omega arith;
  first_most = omega arith;
  least = tail_least;
  most = tail_most;
  no_overlong_three = λ is. absurd (omega arith);
  no_surrogate = λ is. absurd (omega arith);
  no_overlong_four = λ is. absurd (omega arith);
  not_past = λ is. absurd (omega arith);
}

next_tail : (n : ℕ) → IsTail (128 + n % 64)
next_tail n = record { least = omega arith; most = omega arith }

seen_two : (c : ℕ) → 128 ≤ c → c < 2048
    → (front : List ℕ) (b : ℕ) (rest : List ℕ) → encode_utf8 c ≡ front ++ b ∷ rest
    → SeenAs rest c (see (front ++ b ∷ []))
seen_two c least less =
    let a = 192 + c / 64 in
    let b = 128 + c % 64 in
    let is : code_of_two a b ≡ c = omega arith in
    let whole = two_whole a b (pair_two c b least less (omega arith) (omega arith)) (omega arith) in
    seen_by c (a ∷ b ∷ []) (encode_two c least less)
    (one_part a (omega arith) (omega arith), (whole ∙ ap Whole is, tt))

seen_three : (c : ℕ) → 2048 ≤ c → c < 65536 → (c < 0xD800) ⊎ (0xE000 ≤ c)
    → (front : List ℕ) (b : ℕ) (rest : List ℕ) → encode_utf8 c ≡ front ++ b ∷ rest
    → SeenAs rest c (see (front ++ b ∷ []))
seen_three c least less scalar =
    let a = 224 + c / 4096 in
    let b = 128 + c / 64 % 64 in
    let d = 128 + c % 64 in
    let pair = pair_three c least less scalar in
    let is : code_of_three a b d ≡ c = omega arith in
    let whole = three_whole a b d pair (omega arith) (omega arith) (next_tail c) in
    seen_by c (a ∷ b ∷ d ∷ []) (encode_three c least less) (
      one_part a pair.first_least pair.first_most,
      (two_part a b pair (omega arith), (whole ∙ ap Whole is, tt)),
    )

seen_four : (c : ℕ) → 65536 ≤ c → c < 0x11_0000
    → (front : List ℕ) (b : ℕ) (rest : List ℕ) → encode_utf8 c ≡ front ++ b ∷ rest
    → SeenAs rest c (see (front ++ b ∷ []))
seen_four c least less =
    let a = 240 + c / 262144 in
    let b = 128 + c / 4096 % 64 in
    let d = 128 + c / 64 % 64 in
    let e = 128 + c % 64 in
    let pair = pair_four c least less in
    let is : code_of_four a b d e ≡ c = omega arith in
    let whole = four_whole a b d e pair (omega arith) (next_tail (c / 64)) (next_tail c) in
    seen_by c (a ∷ b ∷ d ∷ e ∷ []) (encode_four c least) (
      one_part a pair.first_least pair.first_most,
      (
        two_part a b pair (omega arith),
        (three_part a b d pair (omega arith) (next_tail (c / 64)), (whole ∙ ap Whole is, tt)),
      ),
    )

seen_utf8 : (c : ℕ) (front : List ℕ) (b : ℕ) (rest : List ℕ) → IsScalar c
    → encode_utf8 c ≡ front ++ b ∷ rest → SeenAs rest c (see (front ++ b ∷ []))
seen_utf8 c front b rest scalar is =
    let parts = scalar_parts c scalar in
    elim (cases_lt c 128) [
      | inl one ↦ seen_by c (c ∷ []) (encode_one c one) (one_whole c one, tt) front b rest is
      | inr past_one ↦ (elim (cases_lt c 2048) [
        | inl two ↦ seen_two c past_one two front b rest is
        | inr past_two ↦ (elim (cases_lt c 65536) [
          | inl three ↦ seen_three c past_two three parts.0 front b rest is
          | inr four ↦ seen_four c four parts.1 front b rest is
        ])
      ])
    ]

coded : (bytes : List ℕ) (c n : ℕ) → c ≡ n → IsScalar n → encode_utf8 c ≡ bytes
    → IsScalar c × (encode_utf8 c ≡ bytes)
coded bytes c n same scalar is = (subst IsScalar (sym same) scalar, is)

whole_utf8 : (bytes : List ℕ) (c : ℕ) → see bytes ≡ Whole c → IsScalar c × (encode_utf8 c ≡ bytes)
whole_utf8 [] c sees = absurd (no_whole_none c sees)
whole_utf8 (a ∷ []) c sees =
    let is = whole_one a c sees in
    coded (a ∷ []) c a is.1 (scalar_range a (omega (arith, is.0)))
    (encode_one c (omega (arith, is.0, is.1)) ∙ ap (λ n. n ∷ []) is.1)
whole_utf8 (a ∷ b ∷ []) c sees =
    let is = whole_two a b c sees in
    let pair = is.0 in
    coded (a ∷ b ∷ []) c (code_of_two a b) is.2
    (scalar_range (code_of_two a b) (omega (arith, is.1, pair.most)))
    (encoded_two a b c is.2 pair.first_least is.1 pair.least pair.most)
whole_utf8 (a ∷ b ∷ d ∷ []) c sees =
    let is = whole_three a b d c sees in
    coded (a ∷ b ∷ d ∷ []) c (code_of_three a b d) is.4 (scalar_three a b d is.0 is.1 is.2 is.3)
    (encoded_three a b d c is.4 is.0 is.1 is.2 is.3)
whole_utf8 (a ∷ b ∷ d ∷ e ∷ []) c sees =
    let is = whole_four a b d e c sees in
    coded (a ∷ b ∷ d ∷ e ∷ []) c (code_of_four a b d e) is.4
    (scalar_four a b d e is.0 is.1 is.2 is.3) (encoded_four a b d e c is.4 is.0 is.1 is.2 is.3)
whole_utf8 (a ∷ b ∷ d ∷ e ∷ f ∷ rest) c sees = absurd (no_whole_more a b d e f rest c sees)

some_utf8 : (c : ℕ) → IsScalar c → encode_utf8 c ≡ [] → ⊥
unfolding encode_utf8
some_utf8 c scalar is = grind (arith, nat_tests)

-- what is seen of bytes is what they are in UTF-8
pub utf8_coding : IsCoding IsScalar encode_utf8 see
utf8_coding = record { whole = whole_utf8; seen = seen_utf8; some = some_utf8 }
