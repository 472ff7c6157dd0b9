-- What the bytes of characters are to the pieces of tokens.
use Rattle.std.proofs.Common.{◌≡◌, ℕ, ◌+◌, ◌/◌, ◌%◌, ◌<◌, ◌≤◌, ◌==◌, ◌||◌, ◌&&◌, nat_le, suc, Bool, true, false, Option, Some, None, List}
use Rattle.std.proofs.Common.{[], ◌∷◌, ◌++◌, length, ◌⊎◌, inl, inr, refl, ap, sym, ◌∙◌, arith, encode_utf8}
use Rattle.std.proofs.lemmas.Bool.{cases_lt, cases_Bool, or_parts}
use Rattle.std.proofs.lemmas.Bool.Decides.{nat_tests}
use Rattle.std.proofs.lemmas.List.Folds.{list_any-append}
use Rattle.std.specs.List.{list_all}
use Rattle.dfdl_layers.specs.Tellers.{Each}
use Rattle.dfdl_xml_chars.specs.Characters.{Row, is_in, is_name_start, is_name_char, low_start_rows, low_name_rows, high_start_rows}
use Rattle.dfdl_xml_chars.specs.Characters.{high_name_rows, high_mark_rows}
use Rattle.dfdl_xml_chars.proofs.Encodes.{encode_one, encode_two, encode_three, encode_four}
use Rattle.dfdl_expression_text.specs.Tokens.{AllPass, Stops}
use Rattle.dfdl_expression_tree.specs.declared.piece.Piece.{Piece}
use Rattle.dfdl_expression_tree.specs.declared.piece.Piece.TheVariants as p
use Rattle.dfdl_expression_tree.specs.TokenLists.{coded}
use Rattle.dfdl_expression_tree.specs.Building.{go_on}
use Rattle.dfdl_expression_tree.specs.Lexing.{begins_word, is_in_word, begun, goes, more, rest_of}

-- some bytes, which are all past ASCII
pub record High (bytes : List ℕ) : Type 0 where
  pub first : ℕ
  pub rest : List ℕ
  pub is : bytes ≡ first ∷ rest
  pub least : 128 ≤ first
  pub others : Each (λ b. 128 ≤ b) rest

high_below : (c : ℕ) → 128 ≤ c → c < 65536 → High (encode_utf8 c)
high_below c least less = elim (cases_lt c 2048) [
  | inl low ↦ record {
    first = 192 + c / 64;
    rest = (128 + c % 64) ∷ [];
    is = encode_two c least low;
    least = omega arith;
    others =
        (omega arith, tt);
  }
  | inr more ↦ record {
    first = 224 + c / 4096;
    rest = (128 + c / 64 % 64) ∷ (128 + c % 64) ∷ [];
    is = encode_three c more less;
    least =
        omega arith;
    others = (omega arith, (omega arith, tt));
  }
]

pub high : (c : ℕ) → 128 ≤ c → High (encode_utf8 c)
high c least = elim (cases_lt c 65536) [
  | inl low ↦ high_below c least low
  | inr more ↦ record {
    first = 240 + c / 262144;
    rest = (128 + c / 4096 % 64) ∷ (128 + c / 64 % 64) ∷ (128 + c % 64) ∷ [];
    is =
        encode_four c more;
    least = omega arith;
    others = (omega arith, (omega arith, (omega arith, tt)));
  }
]

-- the piece behind some bytes, where it goes on with each
abbrev pub through : Piece → List ℕ → Option Piece
through piece [] = Some piece
through piece (b ∷ bytes) = go_on (goes piece b) (λ next. through next bytes)

pub through_more : (piece mid : Piece) (xs ys : List ℕ) → through piece xs ≡ Some mid → through piece (xs ++ ys) ≡ through mid ys
through_more piece mid [] ys is = let same : piece ≡ mid = cc in ap (λ q. through q ys) same
through_more piece mid (b ∷ xs) ys is = step (goes piece b) (λ next more. through_more next mid xs ys more) is
  where
    step : (o : Option Piece) → ((next : Piece) → through next xs ≡ Some mid → through next (xs ++ ys) ≡ through mid ys)
        → go_on o (λ next. through next xs) ≡ Some mid → go_on o (λ next. through next (xs ++ ys)) ≡ through mid ys
    step None rec is = absurd (cc)
    step (Some next) rec is = rec next is

-- a piece that goes on with bytes and with none behind them
pub rest_through : (piece last : Piece) (bytes rest : List ℕ) → through piece bytes ≡ Some last → rest_of last rest ≡ 0
    → rest_of piece (bytes ++ rest) ≡ length bytes
rest_through piece last [] rest is stops = let same : piece ≡ last = cc in ap (λ q. rest_of q rest) same ∙ stops
rest_through piece last (b ∷ bytes) rest is stops = step (goes piece b) (λ next others. rest_through next last bytes rest others stops) is
  where
    step : (o : Option Piece) → ((next : Piece) → through next bytes ≡ Some last → rest_of next (bytes ++ rest) ≡ length bytes)
        → go_on o (λ next. through next bytes) ≡ Some last → more o (λ next. rest_of next (bytes ++ rest)) ≡ suc (length bytes)
    step None rec is = absurd (cc)
    step (Some next) rec is = let h = rec next is in omega arith

-- a piece that goes on by itself with each byte
pub each_through : (piece : Piece) (test : ℕ → Bool) → ((c : ℕ) → test c ≡ true → through piece (encode_utf8 c) ≡ Some piece)
    → (word : List ℕ) → AllPass test word → through piece (coded word) ≡ Some piece
each_through piece test by [] all = refl
each_through piece test by (c ∷ word) all =
    through_more piece piece (encode_utf8 c) (coded word) (by c all.0) ∙ each_through piece test by word all.1

bytes_through : (piece : Piece) → ((b : ℕ) → 128 ≤ b → goes piece b ≡ Some piece) → (bytes : List ℕ) → Each (λ b. 128 ≤ b) bytes
    → through piece bytes ≡ Some piece
bytes_through piece by [] all = refl
bytes_through piece by (b ∷ bytes) all = ap (λ o. go_on o (λ next. through next bytes)) (by b all.0) ∙ bytes_through piece by bytes all.1

-- a piece that goes on by itself with a character, which is a byte or is past ASCII
pub char_through : (piece : Piece) (c : ℕ) → (c < 128 → goes piece c ≡ Some piece)
    → ((b : ℕ) → 128 ≤ b → goes piece b ≡ Some piece) → through piece (encode_utf8 c) ≡ Some piece
char_through piece c low by = elim (cases_lt c 128) [
  | inl less ↦ ap (λ l. through piece l) (encode_one c less) ∙ ap (λ o. go_on o (λ next. Some next)) (low less)
  | inr least ↦ (let h = high c least in
      ap (λ l. through piece l) h.is ∙ bytes_through piece by (h.first ∷ h.rest) (h.least, h.others))
]

pub low_through : (piece : Piece) (c : ℕ) → c < 128 → goes piece c ≡ Some piece → through piece (encode_utf8 c) ≡ Some piece
low_through piece c less is = ap (λ l. through piece l) (encode_one c less) ∙ ap (λ o. go_on o (λ next. Some next)) is

-- a piece that ends before a text, as its first character isn't one that passes
pub halts : (piece : Piece) (test : ℕ → Bool) → ((b : ℕ) → test b ≡ false → goes piece b ≡ None)
    → ((b : ℕ) → 128 ≤ b → goes piece b ≡ None) → (rest : List ℕ) → Stops test rest → rest_of piece (coded rest) ≡ 0
halts piece test low high_none [] stops = refl
halts piece test low high_none (c ∷ rest) stops = elim (cases_lt c 128) [
  | inl less ↦ ap (λ l. rest_of piece (l ++ coded rest)) (encode_one c less)
      ∙ ap (λ o. more o (λ next. rest_of next (coded rest))) (low c stops)
  | inr least ↦ (let h = high c least in
      ap (λ l. rest_of piece (l ++ coded rest)) h.is
      ∙ ap (λ o. more o (λ next. rest_of next (h.rest ++ coded rest))) (high_none h.first h.least))
]

pub whole_halts : (bytes : List ℕ) → rest_of p.Whole bytes ≡ 0
whole_halts [] = refl
whole_halts (b ∷ bytes) = refl

-- the tables of names below 128
not_past : (rows : List Row) (c : ℕ) → list_all (λ (row : Row). nat_le 128 row.0) rows ≡ true → c < 128 → is_in rows c ≡ false
not_past [] c past less = refl
not_past (row ∷ rows) c past less = elim (cases_Bool (nat_le 128 row.0)) [
  | inl is ↦ (let tail : list_all (λ (r : Row). nat_le 128 r.0) rows ≡ true =
      sym (ap (λ b. b && list_all (λ (r : Row). nat_le 128 r.0) rows) is) ∙ past in
      let off : nat_le row.0 c ≡ false = grind (arith, nat_tests) in
      ap (λ b. (b && nat_le c row.1) || is_in rows c) off ∙ not_past rows c tail less)
  | inr is ↦ absurd (let no : false ≡ true = sym (ap (λ b. b && list_all (λ (r : Row). nat_le 128 r.0) rows) is) ∙ past in cc)
]

high_names : (c : ℕ) → c < 128 → is_in high_name_rows c ≡ false
unfolding high_name_rows high_mark_rows high_start_rows
high_names c less = not_past high_name_rows c refl less

high_starts : (c : ℕ) → c < 128 → is_in high_start_rows c ≡ false
unfolding high_start_rows
high_starts c less = not_past high_start_rows c refl less

low_in_word : (c : ℕ) → is_in low_name_rows c ≡ true → is_in_word c ≡ true
unfolding low_name_rows low_start_rows is_in_word begins_word
low_in_word c is = grind (arith, nat_tests)

word_in_low : (c : ℕ) → c < 128 → (c == 58) ≡ false → is_in low_name_rows c ≡ false → is_in_word c ≡ false
unfolding low_name_rows low_start_rows is_in_word begins_word
word_in_low c less apart is = grind (arith, nat_tests)

low_begins : (c : ℕ) → is_in low_start_rows c ≡ true → begins_word c ≡ true
unfolding low_start_rows begins_word
low_begins c is = grind (arith, nat_tests)

pub high_begins : (b : ℕ) → 128 ≤ b → begins_word b ≡ true
unfolding begins_word
high_begins b least = grind (arith, nat_tests)

pub high_in_word : (b : ℕ) → 128 ≤ b → is_in_word b ≡ true
unfolding is_in_word begins_word
high_in_word b least = grind (arith, nat_tests)

or_of : (x y : Bool) → y ≡ false → (x || y) ≡ true → x ≡ true
or_of true y off is = refl
or_of false y off is = absurd (cc)

pub name_in_word : (c : ℕ) → c < 128 → is_name_char c ≡ true → is_in_word c ≡ true
unfolding is_name_char
name_in_word c less is = low_in_word c (or_of (is_in low_name_rows c) (is_in high_name_rows c) (high_names c less) is)

pub start_begins : (c : ℕ) → c < 128 → is_name_start c ≡ true → begins_word c ≡ true
unfolding is_name_start
start_begins c less is = low_begins c (or_of (is_in low_start_rows c) (is_in high_start_rows c) (high_starts c less) is)

pub no_name_no_word : (c : ℕ) → c < 128 → (c == 58) ≡ false → is_name_char c ≡ false → is_in_word c ≡ false
unfolding is_name_char
no_name_no_word c less apart is = word_in_low c less apart (or_parts (is_in low_name_rows c) (is_in high_name_rows c) is).0

or_second : (x y : Bool) → y ≡ true → (x || y) ≡ true
or_second true y is = refl
or_second false y is = is

or_either : (x y : Bool) → (x || y) ≡ true → (x ≡ true) ⊎ (y ≡ true)
or_either true y is = inl refl
or_either false y is = inr is

or_first : (x y : Bool) → x ≡ true → (x || y) ≡ true
or_first true y is = refl
or_first false y is = absurd (cc)

low_start_char : (c : ℕ) → is_in low_start_rows c ≡ true → is_in low_name_rows c ≡ true
unfolding low_name_rows
low_start_char c is = or_second (nat_le 0x2D c && nat_le c 0x2E) _ (or_second (nat_le 0x30 c && nat_le c 0x39) _ is)

high_start_char : (c : ℕ) → is_in high_start_rows c ≡ true → is_in high_name_rows c ≡ true
unfolding high_name_rows
high_start_char c is =
    list_any-append (λ (row : Row). nat_le row.0 c && nat_le c row.1) high_mark_rows high_start_rows
    ∙ or_second (is_in high_mark_rows c) (is_in high_start_rows c) is

pub start_is_char : (c : ℕ) → is_name_start c ≡ true → is_name_char c ≡ true
unfolding is_name_start is_name_char
start_is_char c is = elim (or_either (is_in low_start_rows c) (is_in high_start_rows c) is) [
  | inl low ↦ or_first (is_in low_name_rows c) (is_in high_name_rows c) (low_start_char c low)
  | inr up ↦ or_second (is_in low_name_rows c) (is_in high_name_rows c) (high_start_char c up)
]

pub begun_word : (b : ℕ) → begins_word b ≡ true → begun b ≡ p.Word
unfolding begun begins_word
begun_word b is = grind (arith, nat_tests)
