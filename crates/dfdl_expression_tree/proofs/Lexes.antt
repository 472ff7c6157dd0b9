-- Each token of an expression is found as it is spelled.
use Rattle.std.proofs.Common.{◌≡◌, ℕ, ◌<◌, ◌≤◌, ◌==◌, ◌||◌, ◌&&◌, Bool, true, false, if◌then◌else◌, Some, None, List, [], ◌∷◌, ◌++◌}
use Rattle.std.proofs.Common.{length, ◌⊎◌, inl, inr, refl, ap, sym, subst, ◌∙◌, arith, lit<, codes, bytes_eq}
use Rattle.std.specs.Char.{encode_utf8}
use Rattle.std.proofs.lemmas.Bool.{cases_lt, cases_Bool, or_parts}
use Rattle.std.proofs.lemmas.Bool.Decides.{nat_tests}
use Rattle.std.proofs.lemmas.List.{append-nil}
use Rattle.std.specs.Cmp.Lexicographic.{bytes_decides}
use Rattle.dfdl_layers.specs.Tellers.{Each}
use Rattle.dfdl_xml_chars.specs.Characters.{is_name_start, is_name_char}
use Rattle.dfdl_expression_text.specs.declared.kind.Kind.{Kind}
use Rattle.dfdl_expression_text.specs.declared.kind.Kind.TheVariants as k
use Rattle.dfdl_expression_text.specs.Tokens.{is_white, is_digit, is_quote, AllPass, Stops, IsPart, IsPrefixed, IsName, is_if, IsDigits}
use Rattle.dfdl_expression_text.specs.Tokens.{IsFraction, IsNumber, IsQuoted}
use Rattle.dfdl_expression_text.specs.Tokens.{signs, words, IsOneOf, sticks, IsToken, Spelled}
use Rattle.dfdl_expression_text.specs.Tokens as token
use Rattle.dfdl_expression_tree.specs.declared.piece.Piece.TheVariants as p
use Rattle.dfdl_expression_tree.specs.TokenLists.{coded}
use Rattle.dfdl_expression_tree.specs.Building.{go_on}
use Rattle.dfdl_expression_tree.specs.Lexing.{begins_word, is_in_word, begun, goes, more, rest_of, worded, signed, kind_of_word}
use Rattle.dfdl_expression_tree.specs.Lexing.{kind_of_point, kind_by, kind_of}
use Rattle.dfdl_expression_tree.proofs.Coded.{high, through, through_more, rest_through, each_through, char_through, low_through, halts}
use Rattle.dfdl_expression_tree.proofs.Coded.{whole_halts, high_in_word, name_in_word, start_begins, no_name_no_word, begun_word}
use Rattle.dfdl_expression_tree.proofs.Coded.{high_begins, start_is_char}
use Rattle.dfdl_xml_chars.proofs.Encodes.{encode_one}

-- what begins a text of tokens: no colon, and past ASCII only what begins a name
pub record Opens (c : ℕ) : Type 0 where
  pub not_colon : (c == 58) ≡ false
  pub low_or_start : (c < 128) ⊎ (is_name_start c ≡ true)

abbrev pub Opened : List ℕ → Type 0
Opened [] = Unit {0}
Opened (c ∷ rest) = Opens c

-- a word, behind which the text goes on with some other token, is found with its kind
pub record Lexed (ended : Bool) (kind : Kind) (word rest : List ℕ) : Type 0 where
  pub b : ℕ
  pub bytes : List ℕ
  pub is : coded word ≡ b ∷ bytes
  pub not_white : is_white b ≡ false
  pub size : rest_of (begun b) (bytes ++ coded rest) ≡ length bytes
  pub kind_is : kind_of ended (b ∷ bytes) ≡ kind

-- an operand that ends before a name, or an operator that is a word where an operand would begin, is no expression
abbrev pub may_be : Bool → Kind → Bool
may_be true k.If = false
may_be true k.Name = false
may_be true _ = true
may_be false k.Calculation = false
may_be false k.Comparison = false
may_be false k.Junction = false
may_be false k.Then = false
may_be false k.Else = false
may_be false _ = true

-- signs
sign : (ended : Bool) (kind : Kind) (word rest : List ℕ) (b : ℕ) (bytes : List ℕ) → coded word ≡ b ∷ bytes → is_white b ≡ false
    → through (begun b) bytes ≡ Some p.Whole → kind_of ended (b ∷ bytes) ≡ kind → Lexed ended kind word rest
sign ended kind word rest b bytes is not_white goes kind_is =
    record {
      b = b;
      bytes = bytes;
      is = is;
      not_white = not_white;
      size = rest_through (begun b) p.Whole bytes (coded rest) goes
          (whole_halts (coded rest));
      kind_is = kind_is;
    }

along : (ended : Bool) (kind : Kind) (word other rest : List ℕ) → word ≡ other → Lexed ended kind other rest → Lexed ended kind word rest
along ended kind word other rest same lexed = subst (λ w. Lexed ended kind w rest) (sym same) lexed

signs_lexed : (ended : Bool) (kind : Kind) (word rest : List ℕ) → IsOneOf (signs kind) word → Lexed ended kind word rest
unfolding encode_utf8 begun begins_word signed
signs_lexed ended k.Dollar word rest (inl is) = along ended k.Dollar word _ rest is
    (sign ended k.Dollar (36 ∷ []) rest 36 [] refl refl refl refl)
signs_lexed ended k.Dollar word rest (inr never) = absurd never
signs_lexed ended k.Slash word rest (inl is) = along ended k.Slash word _ rest is
    (sign ended k.Slash (47 ∷ []) rest 47 [] refl refl refl refl)
signs_lexed ended k.Slash word rest (inr never) = absurd never
signs_lexed ended k.Dot word rest (inl is) = along ended k.Dot word _ rest is
    (sign ended k.Dot (46 ∷ 46 ∷ []) rest 46 (46 ∷ []) refl refl refl refl)
signs_lexed ended k.Dot word rest (inr never) = absurd never
signs_lexed ended k.Open word rest (inl is) = along ended k.Open word _ rest is (sign ended k.Open (40 ∷ []) rest 40 [] refl refl refl refl)
signs_lexed ended k.Open word rest (inr never) = absurd never
signs_lexed ended k.Close word rest (inl is) = along ended k.Close word _ rest is
    (sign ended k.Close (41 ∷ []) rest 41 [] refl refl refl refl)
signs_lexed ended k.Close word rest (inr never) = absurd never
signs_lexed ended k.Comma word rest (inl is) = along ended k.Comma word _ rest is
    (sign ended k.Comma (44 ∷ []) rest 44 [] refl refl refl refl)
signs_lexed ended k.Comma word rest (inr never) = absurd never
signs_lexed ended k.OpenIndex word rest (inl is) = along ended k.OpenIndex word _ rest is
    (sign ended k.OpenIndex (91 ∷ []) rest 91 [] refl refl refl refl)
signs_lexed ended k.OpenIndex word rest (inr never) = absurd never
signs_lexed ended k.CloseIndex word rest (inl is) = along ended k.CloseIndex word _ rest is
    (sign ended k.CloseIndex (93 ∷ []) rest 93 [] refl refl refl refl)
signs_lexed ended k.CloseIndex word rest (inr never) = absurd never
signs_lexed ended k.Minus word rest (inl is) = along ended k.Minus word _ rest is
    (sign ended k.Minus (45 ∷ []) rest 45 [] refl refl refl refl)
signs_lexed ended k.Minus word rest (inr never) = absurd never
signs_lexed ended k.Calculation word rest (inl is) = along ended k.Calculation word _ rest is
    (sign ended k.Calculation (43 ∷ []) rest 43 [] refl refl refl refl)
signs_lexed ended k.Calculation word rest (inr (inl is)) = along ended k.Calculation word _ rest is
    (sign ended k.Calculation (42 ∷ []) rest 42 [] refl refl refl refl)
signs_lexed ended k.Calculation word rest (inr (inr never)) = absurd never
signs_lexed ended k.Comparison word rest (inl is) = along ended k.Comparison word _ rest is
    (sign ended k.Comparison (61 ∷ []) rest 61 [] refl refl refl refl)
signs_lexed ended k.Comparison word rest (inr (inl is)) = along ended k.Comparison word _ rest is
    (sign ended k.Comparison (33 ∷ 61 ∷ []) rest 33 (61 ∷ []) refl refl refl refl)
signs_lexed ended k.Comparison word rest (inr (inr (inl is))) = along ended k.Comparison word _ rest is
    (sign ended k.Comparison (60 ∷ 61 ∷ []) rest 60 (61 ∷ []) refl refl refl refl)
signs_lexed ended k.Comparison word rest (inr (inr (inr (inl is)))) = along ended k.Comparison word _ rest is
    (sign ended k.Comparison (62 ∷ 61 ∷ []) rest 62 (61 ∷ []) refl refl refl refl)
signs_lexed ended k.Comparison word rest (inr (inr (inr (inr never)))) = absurd never
signs_lexed ended kind word rest is = absurd is

-- a word ends where neither a name nor a colon goes on
word_halts : (rest : List ℕ) → Opened rest → Stops is_name_char rest → rest_of p.Word (coded rest) ≡ 0
word_halts [] opened stops = refl
word_halts (c ∷ rest) opened stops = elim (cases_lt c 128) [
  | inl less ↦ ap (λ l. rest_of p.Word (l ++ coded rest)) (encode_one c less)
      ∙ ap (λ t. more (if t then Some p.Word else None) (λ next. rest_of next (coded rest))) (no_name_no_word c less opened.not_colon stops)
  | inr least ↦ absurd (elim opened.low_or_start [
    | inl less ↦ (let h : c < 128 = less in omega arith)
    | inr start ↦ (let char : is_name_char c ≡ true = start_is_char c start in let none : is_name_char c ≡ false = stops in cc)
  ])
]

-- operators that are words
worded_as : (ended : Bool) (kind : Kind) (word rest : List ℕ) (b : ℕ) (bytes : List ℕ) → Opened rest → Stops is_name_char rest
    → coded word ≡ b ∷ bytes → is_white b ≡ false → begun b ≡ p.Word → through p.Word bytes ≡ Some p.Word → kind_of_word ended (b ∷ bytes)
    ≡ kind
    → Lexed ended kind word rest
worded_as ended kind word rest b bytes opened stops is not_white begins goes kind_is =
    record {
      b = b;
      bytes = bytes;
      is = is;
      not_white = not_white;
      size = ap (λ q. rest_of q (bytes ++ coded rest)) begins
          ∙ rest_through p.Word p.Word bytes (coded rest) goes (word_halts rest opened stops);
      kind_is = ap (λ q. kind_by q ended b bytes) begins ∙ kind_is;
    }

module _ (rest : List ℕ) (opened : Opened rest) (stops : Stops is_name_char rest) where
  operator : (kind : Kind) (word : List ℕ) (b : ℕ) (bytes : List ℕ) → coded word ≡ b ∷ bytes → is_white b ≡ false → begun b ≡ p.Word
      → through p.Word bytes ≡ Some p.Word → worded (b ∷ bytes) ≡ kind → Lexed true kind word rest
  operator kind word b bytes is not_white begins goes kind_is =
      worded_as true kind word rest b bytes opened stops is not_white begins goes kind_is

  words_lexed : (kind : Kind) (word : List ℕ) → IsOneOf (words kind) word → may_be true kind ≡ true → Lexed true kind word rest
  unfolding encode_utf8 begun begins_word is_in_word worded
  words_lexed k.Calculation word (inl is) may = along true _ word _ rest is
      (operator k.Calculation (codes "div") 100 (105 ∷ 118 ∷ []) refl refl refl refl refl)
  words_lexed k.Calculation word (inr (inl is)) may = along true _ word _ rest is
      (operator k.Calculation (codes "idiv") 105 (100 ∷ 105 ∷ 118 ∷ []) refl refl refl refl refl)
  words_lexed k.Calculation word (inr (inr (inl is))) may = along true _ word _ rest is
      (operator k.Calculation (codes "mod") 109 (111 ∷ 100 ∷ []) refl refl refl refl refl)
  words_lexed k.Calculation word (inr (inr (inr never))) may = absurd never
  words_lexed k.Comparison word (inl is) may = along true _ word _ rest is
      (operator k.Comparison (codes "eq") 101 (113 ∷ []) refl refl refl refl refl)
  words_lexed k.Comparison word (inr (inl is)) may = along true _ word _ rest is
      (operator k.Comparison (codes "ne") 110 (101 ∷ []) refl refl refl refl refl)
  words_lexed k.Comparison word (inr (inr (inl is))) may = along true _ word _ rest is
      (operator k.Comparison (codes "lt") 108 (116 ∷ []) refl refl refl refl refl)
  words_lexed k.Comparison word (inr (inr (inr (inl is)))) may = along true _ word _ rest is
      (operator k.Comparison (codes "le") 108 (101 ∷ []) refl refl refl refl refl)
  words_lexed k.Comparison word (inr (inr (inr (inr (inl is))))) may = along true _ word _ rest is
      (operator k.Comparison (codes "gt") 103 (116 ∷ []) refl refl refl refl refl)
  words_lexed k.Comparison word (inr (inr (inr (inr (inr (inl is)))))) may = along true _ word _ rest is
      (operator k.Comparison (codes "ge") 103 (101 ∷ []) refl refl refl refl refl)
  words_lexed k.Comparison word (inr (inr (inr (inr (inr (inr never)))))) may = absurd never
  words_lexed k.Junction word (inl is) may = along true _ word _ rest is
      (operator k.Junction (codes "and") 97 (110 ∷ 100 ∷ []) refl refl refl refl refl)
  words_lexed k.Junction word (inr (inl is)) may = along true _ word _ rest is
      (operator k.Junction (codes "or") 111 (114 ∷ []) refl refl refl refl refl)
  words_lexed k.Junction word (inr (inr never)) may = absurd never
  words_lexed k.Then word (inl is) may = along true _ word _ rest is
      (operator k.Then (codes "then") 116 (104 ∷ 101 ∷ 110 ∷ []) refl refl refl refl refl)
  words_lexed k.Then word (inr never) may = absurd never
  words_lexed k.Else word (inl is) may = along true _ word _ rest is
      (operator k.Else (codes "else") 101 (108 ∷ 115 ∷ 101 ∷ []) refl refl refl refl refl)
  words_lexed k.Else word (inr never) may = absurd never
  words_lexed k.If word is may = absurd (cc)
  words_lexed kind word is may = absurd is

-- the word `if`, and any other name
if_lexed : (word rest : List ℕ) → word ≡ codes "if" → Opened rest → Stops is_name_char rest → Lexed false k.If word rest
unfolding encode_utf8 begun begins_word is_in_word
if_lexed word rest is opened stops =
    along false k.If word _ rest is (worded_as false k.If (codes "if") rest 105 (102 ∷ []) opened stops refl refl refl refl refl)

white_apart : (b : ℕ) → begins_word b ≡ true → is_white b ≡ false
unfolding begins_word
white_apart b is = grind (arith, nat_tests)

char_in_word : (c : ℕ) → is_name_char c ≡ true → through p.Word (encode_utf8 c) ≡ Some p.Word
char_in_word c is =
    char_through p.Word c (λ less. ap (λ t. if t then Some p.Word else None) (name_in_word c less is))
    (λ b least. ap (λ t. if t then Some p.Word else None) (high_in_word b least))

colon_in_word : through p.Word (encode_utf8 58) ≡ Some p.Word
unfolding encode_utf8 is_in_word begins_word
colon_in_word = refl

-- the first character of a name as bytes, and those behind it
pub record Started (word : List ℕ) : Type 0 where
  pub b : ℕ
  pub bytes : List ℕ
  pub is : coded word ≡ b ∷ bytes
  pub begins : begins_word b ≡ true
  pub goes : through p.Word bytes ≡ Some p.Word

byte_begins : (c : ℕ) (word : List ℕ) → is_name_start c ≡ true → through p.Word (coded word) ≡ Some p.Word → Started (c ∷ word)
byte_begins c word is goes = elim (cases_lt c 128) [
  | inl less ↦ record {
    b = c;
    bytes = coded word;
    is = ap (λ l. l ++ coded word) (encode_one c less);
    begins = start_begins c less is;
    goes = goes;
  }
  | inr least ↦ (let h = high c least in record {
    b = h.first;
    bytes = h.rest ++ coded word;
    is = ap (λ l. l ++ coded word) h.is;
    begins = high_begins h.first h.least;
    goes = through_more p.Word p.Word h.rest (coded word) (high_through h.rest h.others) ∙ goes;
  })
]
  where
    high_through : (bytes : List ℕ) → Each (λ b. 128 ≤ b) bytes → through p.Word bytes ≡ Some p.Word
    high_through [] all = refl
    high_through (b ∷ bytes) all =
        ap (λ t. go_on (if t then Some p.Word else None) (λ next. through next bytes)) (high_in_word b all.0) ∙ high_through bytes all.1

chars_in_word : (word : List ℕ) → AllPass is_name_char word → through p.Word (coded word) ≡ Some p.Word
chars_in_word word all = each_through p.Word is_name_char char_in_word word all

part_in_word : (word : List ℕ) → IsPart word → through p.Word (coded word) ≡ Some p.Word
part_in_word [] part = absurd part
part_in_word (c ∷ word) part =
    through_more p.Word p.Word (encode_utf8 c) (coded word) (char_in_word c (start_is_char c part.0)) ∙ chars_in_word word part.1

prefixed_in_word : (word part : List ℕ) → AllPass is_name_char word → IsPart part → through p.Word (coded (word ++ 58 ∷ part)) ≡ Some p.Word
prefixed_in_word [] part all is = through_more p.Word p.Word (encode_utf8 58) (coded part) colon_in_word ∙ part_in_word part is
prefixed_in_word (c ∷ word) part all is =
    through_more p.Word p.Word (encode_utf8 c) (coded (word ++ 58 ∷ part)) (char_in_word c all.0) ∙ prefixed_in_word word part all.1 is

name_started : (word : List ℕ) → IsName word → Started word
name_started [] (inl part) = absurd part
name_started (c ∷ word) (inl part) = byte_begins c word part.0 (chars_in_word word part.1)
name_started word (inr name) = subst Started (sym name.spelled) (prefixed name.prefix name.is_prefix)
  where
    prefixed : (first : List ℕ) → IsPart first → Started (first ++ 58 ∷ name.part)
    prefixed [] part = absurd part
    prefixed (c ∷ others) part = byte_begins c (others ++ 58 ∷ name.part) part.0 (prefixed_in_word others name.part part.1 name.is_part)

-- bytes are those of `if` only where the characters are
first_char : (c : ℕ) (word : List ℕ) (b : ℕ) (bytes : List ℕ) → b < 128 → encode_utf8 c ++ coded word ≡ b ∷ bytes
    → (c ≡ b) × (coded word ≡ bytes)
first_char c word b bytes less is = elim (cases_lt c 128) [
  | inl low ↦ (let same : c ∷ coded word ≡ b ∷ bytes = sym (ap (λ l. l ++ coded word) (encode_one c low)) ∙ is in (cc, cc))
  | inr least ↦ (let h = high c least in
      let same : h.first ∷ (h.rest ++ coded word) ≡ b ∷ bytes = sym (ap (λ l. l ++ coded word) h.is) ∙ is in
      let first : h.first ≡ b = cc in absurd (omega (arith, h.least)))
]

coded_none : (word : List ℕ) → coded word ≡ [] → word ≡ []
coded_none [] is = refl
coded_none (c ∷ word) is = elim (cases_lt c 128) [
  | inl low ↦ absurd (let same : c ∷ coded word ≡ [] = sym (ap (λ l. l ++ coded word) (encode_one c low)) ∙ is in cc)
  | inr least ↦ absurd (let h = high c least in let same : h.first ∷ (h.rest ++ coded word) ≡ [] = sym (ap (λ l. l ++ coded word) h.is)
      ∙ is in cc)
]

chars_of_if : (word : List ℕ) → coded word ≡ 105 ∷ 102 ∷ [] → is_if word ≡ true
chars_of_if [] is = absurd (cc)
chars_of_if (c ∷ []) is = absurd (let f = first_char c [] 105 (102 ∷ []) (lit< tt) is in let h = f.1 in cc)
chars_of_if (c ∷ d ∷ word) is =
    let f = first_char c (d ∷ word) 105 (102 ∷ []) (lit< tt) is in
    let g = first_char d word 102 [] (lit< tt) f.1 in
    let none = coded_none word g.1 in
    ap (λ l. is_if (c ∷ d ∷ l)) none ∙ (ap (λ n. n == 105 && d == 102) f.0 ∙ ap (λ n. n == 102) g.0)

if_bytes : (word : List ℕ) → is_if word ≡ false → bytes_eq (coded word) (codes "if") ≡ false
if_bytes word is = elim (cases_Bool (bytes_eq (coded word) (codes "if"))) [
  | inl same ↦ absurd (let is_so : is_if word ≡ true = chars_of_if word ((bytes_decides (coded word) (codes "if")).0 same) in cc)
  | inr off ↦ off
]

name_lexed : (word rest : List ℕ) → IsName word → is_if word ≡ false → Opened rest → Stops is_name_char rest → Lexed false k.Name word rest
name_lexed word rest name is opened stops =
    let s = name_started word name in
    worded_as false k.Name word rest s.b s.bytes opened stops s.is (white_apart s.b s.begins) (begun_word s.b s.begins) s.goes
    (ap (λ t. if t then k.If else k.Name) (ap (λ l. bytes_eq l (codes "if")) (sym s.is) ∙ if_bytes word is))

-- numbers
abbrev numeral : ℕ → Bool
numeral c = is_digit c || c == 46

numeral_goes : (c : ℕ) → numeral c ≡ true → through p.Digits (encode_utf8 c) ≡ Some p.Digits
numeral_goes c is = low_through p.Digits c (grind (arith, nat_tests)) (ap (λ t. if t then Some p.Digits else None) is)

digits_pass : (pointed : Bool) (word : List ℕ) → IsDigits pointed word → AllPass numeral word
digits_pass pointed [] is = tt
digits_pass false (c ∷ word) (inl is) = (grind (arith, nat_tests, is.0), digits_pass false word is.1)
digits_pass false (c ∷ word) (inr is) = (ap numeral is.0, digits_pass true word is.1)
digits_pass true (c ∷ word) is = (grind (arith, nat_tests, is.0), digits_pass true word is.1)

digits_go : (pointed : Bool) (word : List ℕ) → IsDigits pointed word → through p.Digits (coded word) ≡ Some p.Digits
digits_go pointed word is = each_through p.Digits numeral numeral_goes word (digits_pass pointed word is)

digits_halt : (rest : List ℕ) → Stops sticks rest → rest_of p.Digits (coded rest) ≡ 0
digits_halt rest stops =
    halts p.Digits sticks (λ b is. ap (λ t. if t then Some p.Digits else None) (unstuck b is))
    (λ b least. ap (λ t. if t then Some p.Digits else None) (past b least)) rest stops
  where
    unstuck : (b : ℕ) → sticks b ≡ false → numeral b ≡ false
    unstuck b is = grind (arith, nat_tests)

    past : (b : ℕ) → 128 ≤ b → numeral b ≡ false
    past b least = grind (arith, nat_tests)

digit_begun : (c : ℕ) → is_digit c ≡ true → begun c ≡ p.Digits
unfolding begun
digit_begun c is = grind (arith, nat_tests)

digit_low : (c : ℕ) → is_digit c ≡ true → c < 128
digit_low c is = grind (arith, nat_tests)

digit_not_white : (c : ℕ) → is_digit c ≡ true → is_white c ≡ false
digit_not_white c is = grind (arith, nat_tests)

fraction_point : (c : ℕ) → is_digit c ≡ true → (c == 46) ≡ false
fraction_point c is = grind (arith, nat_tests)

point_begun : begun 46 ≡ p.Point
unfolding begun
point_begun = refl

number_lexed : (ended : Bool) (word rest : List ℕ) → IsNumber word → Stops sticks rest → Lexed ended k.Literal word rest
number_lexed ended [] rest is stops = absurd is
number_lexed ended (c ∷ word) rest (inl is) stops = record {
  b = c;
  bytes = coded word;
  is = ap (λ l. l ++ coded word) (encode_one c (digit_low c is.0));
  not_white = digit_not_white c is.0;
  size = ap (λ q. rest_of q (coded word ++ coded rest)) (digit_begun c is.0)
      ∙ rest_through p.Digits p.Digits (coded word) (coded rest) (digits_go false word is.1) (digits_halt rest stops);
  kind_is = ap (λ q. kind_by q ended c (coded word)) (digit_begun c is.0);
}
number_lexed ended (c ∷ []) rest (inr is) stops = absurd is.1
number_lexed ended (c ∷ d ∷ word) rest (inr is) stops =
    along ended k.Literal (c ∷ d ∷ word) (46 ∷ d ∷ word) rest (ap (λ n. n ∷ d ∷ word) is.0) (record {
      b = 46;
      bytes = coded (d ∷ word);
      is = ap (λ l. l ++ coded (d ∷ word)) (encode_one 46 (lit< tt));
      not_white = refl;
      size = ap (λ q. rest_of q (coded (d ∷ word) ++ coded rest)) point_begun
          ∙ rest_through p.Point p.Digits (coded (d ∷ word)) (coded rest) pointed (digits_halt rest stops);
      kind_is = ap (λ q. kind_by q ended 46 (coded (d ∷ word))) point_begun
          ∙ (ap (λ l. kind_of_point (l ++ coded word)) (encode_one d (digit_low d is.1.0))
          ∙ ap (λ t. if t then k.Dot else k.Literal) (fraction_point d is.1.0));
    })
  where
    pointed : through p.Point (coded (d ∷ word)) ≡ Some p.Digits
    pointed =
        ap (λ l. through p.Point (l ++ coded word)) (encode_one d (digit_low d is.1.0))
        ∙ (ap (λ t. go_on (if t then Some p.Whole else (if is_digit d then Some p.Digits else None)) (λ next. through next (coded word)))
        (fraction_point d is.1.0)
        ∙ (ap (λ t. go_on (if t then Some p.Digits else None) (λ next. through next (coded word))) is.1.0 ∙ digits_go true word is.1.1))

-- texts
quote_low : (quote : ℕ) → is_quote quote ≡ true → quote < 128
quote_low quote is = grind (arith, nat_tests)

quote_not_white : (quote : ℕ) → is_quote quote ≡ true → is_white quote ≡ false
quote_not_white quote is = grind (arith, nat_tests)

quote_begun : (quote : ℕ) → is_quote quote ≡ true → begun quote ≡ p.Text quote
unfolding begun
quote_begun quote is = ap (λ t. if t then p.Text quote else
    (if is_digit quote then p.Digits else (if quote == 46 then p.Point else
    (if (quote == 60 || quote == 62) || quote == 33 then p.MayEqual else (if begins_word quote then p.Word else p.Whole))))) is

past_quote : (quote b : ℕ) → quote < 128 → 128 ≤ b → (b == quote) ≡ false
past_quote quote b less least = grind (arith, nat_tests)

same_quote : (quote : ℕ) → (quote == quote) ≡ true
same_quote quote = grind (arith, nat_tests)

module _ (quote : ℕ) (less : quote < 128) where
  other_goes : (c : ℕ) → (c == quote) ≡ false → through (p.Text quote) (encode_utf8 c) ≡ Some (p.Text quote)
  other_goes c is =
      char_through (p.Text quote) c (λ low. ap (λ t. if t then Some (p.Quoted quote) else Some (p.Text quote)) is)
      (λ b least. ap (λ t. if t then Some (p.Quoted quote) else Some (p.Text quote)) (past_quote quote b less least))

  quote_goes : through (p.Text quote) (encode_utf8 quote) ≡ Some (p.Quoted quote)
  quote_goes =
      ap (λ l. through (p.Text quote) l) (encode_one quote less)
      ∙ ap (λ t. go_on (if t then Some (p.Quoted quote) else Some (p.Text quote)) (λ next. Some next)) (same_quote quote)

  again_goes : through (p.Quoted quote) (encode_utf8 quote) ≡ Some (p.Text quote)
  again_goes =
      ap (λ l. through (p.Quoted quote) l) (encode_one quote less)
      ∙ ap (λ t. go_on (if t then Some (p.Text quote) else None) (λ next. Some next)) (same_quote quote)

  text_goes : (word : List ℕ) → IsQuoted quote word → through (p.Text quote) (coded word) ≡ Some (p.Quoted quote)
  text_goes [] is = absurd is
  text_goes (c ∷ []) is =
      ap (λ n. through (p.Text quote) (encode_utf8 n ++ [])) is
      ∙ (ap (λ l. through (p.Text quote) l) (append-nil (encode_utf8 quote)) ∙ quote_goes)
  text_goes (c ∷ d ∷ word) (inl is) =
      through_more (p.Text quote) (p.Text quote) (encode_utf8 c) (coded (d ∷ word)) (other_goes c is.0) ∙ text_goes (d ∷ word) is.1
  text_goes (c ∷ d ∷ word) (inr is) =
      ap (λ n. through (p.Text quote) (encode_utf8 n ++ coded (d ∷ word))) is.0
      ∙ (through_more (p.Text quote) (p.Quoted quote) (encode_utf8 quote) (coded (d ∷ word)) quote_goes
      ∙ (ap (λ n. through (p.Quoted quote) (encode_utf8 n ++ coded word)) is.1
      ∙ (through_more (p.Quoted quote) (p.Text quote) (encode_utf8 quote) (coded word) again_goes ∙ text_goes word is.2)))

  quoted_halts : (rest : List ℕ) → Stops (λ c. c == quote) rest → rest_of (p.Quoted quote) (coded rest) ≡ 0
  quoted_halts rest stops =
      halts (p.Quoted quote) (λ c. c == quote) (λ b is. ap (λ t. if t then Some (p.Text quote) else None) is)
      (λ b least. ap (λ t. if t then Some (p.Text quote) else None) (past_quote quote b less least)) rest stops

text_lexed : (ended : Bool) (quote : ℕ) (word rest : List ℕ) → is_quote quote ≡ true → IsQuoted quote word → Stops (λ c. c == quote) rest
    → Lexed ended k.Literal (quote ∷ word) rest
text_lexed ended quote word rest is quoted stops = record {
  b = quote;
  bytes = coded word;
  is = ap (λ l. l ++ coded word) (encode_one quote (quote_low quote is));
  not_white = quote_not_white quote is;
  size = ap (λ q. rest_of q (coded word ++ coded rest)) (quote_begun quote is)
      ∙ rest_through (p.Text quote) (p.Quoted quote) (coded word) (coded rest) (text_goes quote (quote_low quote is) word quoted)
      (quoted_halts quote (quote_low quote is) rest stops);
  kind_is = ap (λ q. kind_by q ended quote (coded word)) (quote_begun quote is);
}

-- a point, and signs that could be longer
dot_lexed : (ended : Bool) (rest : List ℕ) → Stops (λ c. c == 46 || is_digit c) rest → Lexed ended k.Dot (46 ∷ []) rest
dot_lexed ended rest stops = record {
  b = 46;
  bytes = [];
  is = ap (λ l. l ++ []) (encode_one 46 (lit< tt));
  not_white = refl;
  size = ap (λ q. rest_of q (coded rest)) point_begun
      ∙ halts p.Point (λ c. c == 46 || is_digit c) (λ b is. point_off b is) (λ b least. point_off b (past b least)) rest stops;
  kind_is = ap (λ q. kind_by q ended 46 []) point_begun;
}
  where
    past : (b : ℕ) → 128 ≤ b → (b == 46 || is_digit b) ≡ false
    past b least = grind (arith, nat_tests)

    point_off : (b : ℕ) → (b == 46 || is_digit b) ≡ false → goes p.Point b ≡ None
    point_off b is =
        let parts = or_parts (b == 46) (is_digit b) is in
        ap (λ t. if t then Some p.Whole else (if is_digit b then Some p.Digits else None)) parts.0
        ∙ ap (λ t. if t then Some p.Digits else None) parts.1

angle_begun : (c : ℕ) → (c == 60 || c == 62) ≡ true → begun c ≡ p.MayEqual
unfolding begun
angle_begun c is = grind (arith, nat_tests)

angle_lexed : (ended : Bool) (c : ℕ) (rest : List ℕ) → (c == 60 || c == 62) ≡ true → Stops (λ d. d == 61) rest
    → Lexed ended k.Comparison (c ∷ []) rest
angle_lexed ended c rest is stops = record {
  b = c;
  bytes = [];
  is = ap (λ l. l ++ []) (encode_one c (low c is));
  not_white = spaced c is;
  size = ap (λ q. rest_of q (coded rest)) (angle_begun c is)
      ∙ halts p.MayEqual (λ d. d == 61) (λ b h. ap (λ t. if t then Some p.Whole else None) h)
      (λ b least. ap (λ t. if t then Some p.Whole else None) (past b least)) rest stops;
  kind_is = ap (λ q. kind_by q ended c []) (angle_begun c is);
}
  where
    low : (d : ℕ) → (d == 60 || d == 62) ≡ true → d < 128
    low d h = grind (arith, nat_tests)

    spaced : (d : ℕ) → (d == 60 || d == 62) ≡ true → is_white d ≡ false
    spaced d h = grind (arith, nat_tests)

    past : (b : ℕ) → 128 ≤ b → (b == 61) ≡ false
    past b least = grind (arith, nat_tests)

-- any token
pub token_lexed : (ended : Bool) (kind : Kind) (word rest : List ℕ) → may_be ended kind ≡ true → Opened rest → IsToken kind word rest
    → Lexed ended kind word rest
token_lexed ended _ _ _ may opened (token.Sign kind word rest is) = signs_lexed ended kind word rest is
token_lexed true _ _ _ may opened (token.Word kind word rest is stops) = words_lexed rest opened stops kind word is may
token_lexed false _ _ _ may opened (token.Word k.If word rest (inl is) stops) = if_lexed word rest is opened stops
token_lexed false _ _ _ may opened (token.Word k.If word rest (inr never) stops) = absurd never
token_lexed false _ _ _ may opened (token.Word k.Calculation word rest is stops) = absurd (cc)
token_lexed false _ _ _ may opened (token.Word k.Comparison word rest is stops) = absurd (cc)
token_lexed false _ _ _ may opened (token.Word k.Junction word rest is stops) = absurd (cc)
token_lexed false _ _ _ may opened (token.Word k.Then word rest is stops) = absurd (cc)
token_lexed false _ _ _ may opened (token.Word k.Else word rest is stops) = absurd (cc)
token_lexed false _ _ _ may opened (token.Word kind word rest is stops) = absurd is
token_lexed true _ _ _ may opened (token.Ordinary word rest name is stops) = absurd (cc)
token_lexed false _ _ _ may opened (token.Ordinary word rest name is stops) = name_lexed word rest name is opened stops
token_lexed ended _ _ _ may opened (token.Number word rest number stops) = number_lexed ended word rest number stops
token_lexed ended _ _ _ may opened (token.Quoted quote word rest is quoted stops) = text_lexed ended quote word rest is quoted stops
token_lexed ended _ _ _ may opened (token.OneDot rest stops) = dot_lexed ended rest stops
token_lexed ended _ _ _ may opened (token.Angle c rest is stops) = angle_lexed ended c rest is stops
