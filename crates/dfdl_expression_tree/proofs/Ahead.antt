-- The tokens that are found one after the other are those by which a text is read.
use Rattle.std.proofs.Common.{◌≡◌, ℕ, ◌+◌, ◌<◌, ◌==◌, ◌&&◌, ◌||◌, nat_lt, not, Bool, true, false, if◌then◌else◌, Some, None, List, []}
use Rattle.std.proofs.Common.{◌∷◌, ◌++◌, length, take, drop, inl, inr, refl, ap, sym, subst, ◌∙◌, arith, append_assoc, encode_utf8}
use Rattle.std.specs.List.{list_all}
use Rattle.std.proofs.lemmas.Bool.{cases_Bool, eqb-true}
use Rattle.std.proofs.lemmas.Bool.Decides.{nat_tests}
use Rattle.std.proofs.lemmas.List.{append-nil, drop-drop, drop_at, take_at}
use Rattle.dfdl_xml_chars.specs.Characters.{is_name_start, low_start_rows, high_start_rows}
use Rattle.dfdl_expression_text.specs.declared.kind.Kind.{Kind}
use Rattle.dfdl_expression_text.specs.declared.kind.Kind.TheVariants as k
use Rattle.dfdl_expression_text.specs.Tokens.{is_white, is_digit, is_quote, AllPass, IsName, IsPart, IsPrefixed, signs, words, IsOneOf}
use Rattle.dfdl_expression_text.specs.Tokens.{IsToken, Spelled}
use Rattle.dfdl_expression_text.specs.Tokens as token
use Rattle.dfdl_expression_text.specs.Syntax.{spelling}
use Rattle.dfdl_expression_text.specs.Expressions.{ReadsBytes}
use Rattle.dfdl_expression_tree.specs.declared.piece.Piece.TheVariants as p
use Rattle.dfdl_expression_tree.specs.declared.token.Token.{Token}
use Rattle.dfdl_expression_tree.specs.TokenLists.{coded, token_at, tokens_from}
use Rattle.dfdl_expression_tree.specs.Readings.{tokens_of}
use Rattle.dfdl_expression_tree.specs.Lexing.{begun, rest_of, more, ends_operand, token_by, first_token, next_token}
use Rattle.dfdl_expression_tree.proofs.Coded.{through, rest_through, each_through, low_through}
use Rattle.dfdl_expression_tree.proofs.Lexes.{Opens, Opened, Lexed, token_lexed, may_be}
use Rattle.dfdl_expression_tree.proofs.Fits.{fits, part_fits}

-- a word by its first character
abbrev pub Starts : List ℕ → Type 0
Starts word = (c : ℕ) × (w : List ℕ) × (word ≡ c ∷ w) × Opens c

abbrev starts_low : List ℕ → Bool
starts_low [] = false
starts_low (c ∷ w) = not (c == 58) && nat_lt c 128

low_opens : (c : ℕ) → (c == 58) ≡ false → c < 128 → Opens c
low_opens c apart less = record { not_colon = apart; low_or_start = inl less }

starts_by : (word : List ℕ) → starts_low word ≡ true → Starts word
starts_by [] is = absurd (cc)
starts_by (c ∷ w) is = (c, w, refl, low_opens c (grind (arith, nat_tests)) (grind (arith, nat_tests)))

one_of : (ws : List (List ℕ)) (word : List ℕ) → list_all starts_low ws ≡ true → IsOneOf ws word → starts_low word ≡ true
one_of [] word all is = absurd is
one_of (w ∷ ws) word all (inl is) = ap starts_low is ∙ first (starts_low w) (list_all starts_low ws) all
  where
    first : (x y : Bool) → (x && y) ≡ true → x ≡ true
    first true y h = refl
    first false y h = h
one_of (w ∷ ws) word all (inr is) = one_of ws word (second (starts_low w) (list_all starts_low ws) all) is
  where
    second : (x y : Bool) → (x && y) ≡ true → y ≡ true
    second true y h = h
    second false y h = absurd (cc)

signs_low : (kind : Kind) → list_all starts_low (signs kind) ≡ true
signs_low k.If = refl
signs_low kind = refl

words_low : (kind : Kind) → list_all starts_low (words kind) ≡ true
words_low k.If = refl
words_low kind = refl

colon_starts_none : is_name_start 58 ≡ true → ⊥
unfolding is_name_start low_start_rows high_start_rows
colon_starts_none h = let same : false ≡ true = h in cc

start_not_colon : (c : ℕ) → is_name_start c ≡ true → (c == 58) ≡ false
start_not_colon c is = elim (cases_Bool (c == 58)) [
  | inl same ↦ absurd (let at_colon : is_name_start 58
      ≡ true = subst (λ n. is_name_start n ≡ true) (eqb-true c 58 same) is in colon_starts_none at_colon)
  | inr off ↦ off
]

name_opens : (c : ℕ) → is_name_start c ≡ true → Opens c
name_opens c is = record { not_colon = start_not_colon c is; low_or_start = inr is }

part_starts : (word : List ℕ) → IsPart word → Starts word
part_starts [] part = absurd part
part_starts (c ∷ w) part = (c, w, refl, name_opens c part.0)

name_starts : (word : List ℕ) → IsName word → Starts word
name_starts word (inl part) = part_starts word part
name_starts word (inr name) =
    let (c, w, is, opens) = part_starts name.prefix name.is_prefix in
    (c, w ++ 58 ∷ name.part, name.spelled ∙ ap (λ l. l ++ 58 ∷ name.part) is, opens)

digit_opens : (c : ℕ) → is_digit c ≡ true → Opens c
digit_opens c is = low_opens c (digit_apart c is) (grind (arith, nat_tests))
  where
    digit_apart : (d : ℕ) → is_digit d ≡ true → (d == 58) ≡ false
    digit_apart d h = grind (arith, nat_tests)

quote_opens : (c : ℕ) → is_quote c ≡ true → Opens c
quote_opens c is = low_opens c (grind (arith, nat_tests)) (grind (arith, nat_tests))

angle_opens : (c : ℕ) → (c == 60 || c == 62) ≡ true → Opens c
angle_opens c is = low_opens c (grind (arith, nat_tests)) (grind (arith, nat_tests))

white_opens : (c : ℕ) → is_white c ≡ true → Opens c
white_opens c is = low_opens c (grind (arith, nat_tests)) (grind (arith, nat_tests))

point_opens : (c : ℕ) → c ≡ 46 → Opens c
point_opens c is = low_opens c (ap (λ n. n == 58) is) (omega arith)

number_starts : (word : List ℕ) → token.IsNumber word → Starts word
number_starts [] is = absurd is
number_starts (c ∷ w) (inl is) = (c, w, refl, digit_opens c is.0)
number_starts (c ∷ w) (inr is) = (c, w, refl, point_opens c is.0)

pub token_starts : (kind : Kind) (word rest : List ℕ) → IsToken kind word rest → Starts word
token_starts _ _ _ (token.Sign kind word rest is) = starts_by word (one_of (signs kind) word (signs_low kind) is)
token_starts _ _ _ (token.Word kind word rest is stops) = starts_by word (one_of (words kind) word (words_low kind) is)
token_starts _ _ _ (token.Ordinary word rest name is stops) = name_starts word name
token_starts _ _ _ (token.Number word rest number stops) = number_starts word number
token_starts _ _ _ (token.Quoted quote word rest is quoted stops) = (quote, word, refl, quote_opens quote is)
token_starts _ _ _ (token.OneDot rest stops) = (46, [], refl, point_opens 46 refl)
token_starts _ _ _ (token.Angle c rest is stops) = (c, [], refl, angle_opens c is)

-- what is spelled by tokens begins as one does
whites_opened : (text : List ℕ) → AllPass is_white text → Opened text
whites_opened [] all = tt
whites_opened (c ∷ text) all = white_opens c all.0

pub spelled_opened : (kinds : List Kind) (text : List ℕ) → Spelled kinds text → Opened text
spelled_opened [] text white = whites_opened text white
spelled_opened (kind ∷ kinds) text ([], word, rest, same, white, is_token, spelled) =
    let (c, w, is, opens) = token_starts kind word rest is_token in
    subst Opened (sym (same ∙ ap (λ l. l ++ rest) is)) opens
spelled_opened (kind ∷ kinds) text (c ∷ space, word, rest, same, white, is_token, spelled) =
    subst Opened (sym same) (white_opens c white.0)

-- bytes of characters one after the other
pub coded_both : (xs ys : List ℕ) → coded (xs ++ ys) ≡ coded xs ++ coded ys
coded_both [] ys = refl
coded_both (c ∷ xs) ys = ap (λ l. encode_utf8 c ++ l) (coded_both xs ys) ∙ sym (append_assoc (encode_utf8 c) (coded xs) (coded ys))

white_goes : (c : ℕ) → is_white c ≡ true → through p.White (encode_utf8 c) ≡ Some p.White
white_goes c is = low_through p.White c (grind (arith, nat_tests)) (ap (λ t. if t then Some p.White else None) is)

spaces_go : (space : List ℕ) → AllPass is_white space → through p.White (coded space) ≡ Some p.White
spaces_go space all = each_through p.White is_white white_goes space all

-- the next token behind white space, by the bytes of both
pub found_behind : (ended : Bool) (at : ℕ) (space : List ℕ) (kind : Kind) (word rest : List ℕ) → AllPass is_white space
    → Lexed ended kind word rest
    → next_token ended at (coded (space ++ (word ++ rest))) ≡ Some (token_at kind (at + length (coded space)) (coded word))
found_behind ended at space kind word rest white lexed =
    let text = coded (space ++ (word ++ rest)) in
    let tail = lexed.bytes ++ coded rest in
    let from = at + length (coded space) in
    let behind : coded (word ++ rest) ≡ lexed.b ∷ tail = coded_both word rest ∙ ap (λ l. l ++ coded rest) lexed.is in
    let all : text ≡ coded space ++ lexed.b ∷ tail = coded_both space (word ++ rest) ∙ ap (λ l. coded space ++ l) behind in
    let stops : rest_of p.White (lexed.b ∷ tail) ≡ 0 =
    ap (λ t. more (if t then Some p.White else None) (λ next. rest_of next tail)) lexed.not_white in
    let skips : rest_of p.White text ≡ length (coded space) =
    ap (λ l. rest_of p.White l) all ∙ rest_through p.White p.White (coded space) (lexed.b ∷ tail) (spaces_go space white) stops in
    let left : drop (rest_of p.White text) text ≡ lexed.b ∷ tail =
    ap (λ n. drop n text) skips ∙ (ap (λ l. drop (length (coded space)) l) all
    ∙ drop_at (coded space) (lexed.b ∷ tail) (length (coded space)) refl) in
    let size : rest_of (begun lexed.b) tail + 1 ≡ length (lexed.b ∷ lexed.bytes) = (let h = lexed.size in omega arith) in
    let own : take (rest_of (begun lexed.b) tail + 1) (lexed.b ∷ tail) ≡ lexed.b ∷ lexed.bytes =
    ap (λ n. take n (lexed.b ∷ tail)) size ∙ take_at (lexed.b ∷ lexed.bytes) (coded rest) (length (lexed.b ∷ lexed.bytes)) refl in
    ap (λ n. first_token ended (at + n) (drop (rest_of p.White text) text)) skips
    ∙ (ap (λ l. first_token ended from l) left
    ∙ (ap (λ l. Some (token_by ended from l)) own
    ∙ (ap (λ q. Some (token_at q from (lexed.b ∷ lexed.bytes))) lexed.kind_is ∙ ap (λ l. Some (token_at kind from l)) (sym lexed.is))))

pub none_behind : (ended : Bool) (at : ℕ) (text : List ℕ) → AllPass is_white text → next_token ended at (coded text) ≡ None
none_behind ended at text white =
    let skips : rest_of p.White (coded text) ≡ length (coded text) =
    ap (λ l. rest_of p.White l) (sym (append-nil (coded text)))
    ∙ rest_through p.White p.White (coded text) [] (spaces_go text white) refl in
    let left : drop (rest_of p.White (coded text)) (coded text) ≡ [] =
    ap (λ n. drop n (coded text)) skips ∙ (ap (λ l. drop (length (coded text)) l) (sym (append-nil (coded text)))
    ∙ drop_at (coded text) [] (length (coded text)) refl) in
    ap (λ l. first_token ended (at + rest_of p.White (coded text)) l) left

-- the tokens that were found and those that are left are all of them
pub record Ahead (bytes : List ℕ) (at : ℕ) (ended : Bool) (tokens all : List Token) : Type 0 where
  pub kinds : List Kind
  pub text : List ℕ
  pub spelled : Spelled kinds text
  pub here : drop at bytes ≡ coded text
  pub fit : fits ended kinds ≡ true
  pub whole : tokens ++ tokens_from at kinds text spelled ≡ all

pub ahead_none : (bytes : List ℕ) (at : ℕ) (ended : Bool) (tokens all : List Token) → Ahead bytes at ended tokens all
    → next_token ended at (drop at bytes) ≡ None → tokens ≡ all
ahead_none bytes at ended tokens all a none = by_kinds a.kinds a.text a.spelled a.here a.fit a.whole
  where
    and_first : (x y : Bool) → (x && y) ≡ true → x ≡ true
    and_first true y h = refl
    and_first false y h = h

    by_kinds : (kinds : List Kind) (text : List ℕ) (spelled : Spelled kinds text) → drop at bytes ≡ coded text → fits ended kinds ≡ true
        → tokens ++ tokens_from at kinds text spelled ≡ all → tokens ≡ all
    by_kinds [] text spelled here fit whole = sym (append-nil tokens) ∙ whole
    by_kinds (kind ∷ kinds) text (space, word, rest, same, white, is_token, spelled) here fit whole =
        let lexed = token_lexed ended kind word rest (and_first (may_be ended kind) (fits (ends_operand kind) kinds) fit)
        (spelled_opened kinds rest spelled) is_token in
        let some = found_behind ended at space kind word rest white lexed in
        let off : next_token ended at (coded (space ++ (word ++ rest))) ≡ None =
        sym (ap (λ l. next_token ended at l) (here ∙ ap coded same)) ∙ none in
        absurd (cc)

pub ahead_some : (bytes : List ℕ) (at : ℕ) (ended : Bool) (tokens all : List Token) (t : Token) → Ahead bytes at ended tokens all
    → next_token ended at (drop at bytes) ≡ Some t → Ahead bytes t.span.to (ends_operand t.kind) (tokens ++ t ∷ []) all
ahead_some bytes at ended tokens all t a is = by_kinds a.kinds a.text a.spelled a.here a.fit a.whole
  where
    and_first : (x y : Bool) → (x && y) ≡ true → x ≡ true
    and_first true y h = refl
    and_first false y h = h

    and_second : (x y : Bool) → (x && y) ≡ true → y ≡ true
    and_second true y h = h
    and_second false y h = absurd (cc)

    by_kinds : (kinds : List Kind) (text : List ℕ) (spelled : Spelled kinds text) → drop at bytes ≡ coded text → fits ended kinds ≡ true
        → tokens ++ tokens_from at kinds text spelled ≡ all → Ahead bytes t.span.to (ends_operand t.kind) (tokens ++ t ∷ []) all
    by_kinds [] text spelled here fit whole =
        absurd (let none : next_token ended at (drop at bytes) ≡ None = ap (λ l. next_token ended at l) here
        ∙ none_behind ended at text spelled in cc)
    by_kinds (kind ∷ kinds) text (space, word, rest, same, white, is_token, spelled) here fit whole =
        let lexed = token_lexed ended kind word rest (and_first (may_be ended kind) (fits (ends_operand kind) kinds) fit)
        (spelled_opened kinds rest spelled) is_token in
        let from = at + length (coded space) in
        let some : next_token ended at (drop at bytes) ≡ Some (token_at kind from (coded word)) =
        ap (λ l. next_token ended at l) (here ∙ ap coded same) ∙ found_behind ended at space kind word rest white lexed in
        let own : token_at kind from (coded word) ≡ t = cc in
        let text_is : drop at bytes ≡ coded space ++ (coded word ++ coded rest) =
        here ∙ (ap coded same ∙ (coded_both space (word ++ rest) ∙ ap (λ l. coded space ++ l) (coded_both word rest))) in
        let one : drop from bytes ≡ coded word ++ coded rest =
        sym (drop-drop (length (coded space)) at bytes) ∙ (ap (λ l. drop (length (coded space)) l) text_is
        ∙ drop_at (coded space) (coded word ++ coded rest) (length (coded space)) refl) in
        let two : drop (from + length (coded word)) bytes ≡ coded rest =
        sym (drop-drop (length (coded word)) from bytes) ∙ (ap (λ l. drop (length (coded word)) l) one
        ∙ drop_at (coded word) (coded rest) (length (coded word)) refl) in
        subst (λ (u : Token). Ahead bytes u.span.to (ends_operand u.kind) (tokens ++ u ∷ []) all) own
        (record {
          kinds = kinds;
          text = rest;
          spelled = spelled;
          here = two;
          fit = and_second (may_be ended kind) (fits (ends_operand kind) kinds) fit;
          whole = append_assoc tokens (token_at kind from (coded word) ∷ []) (tokens_from (from + length (coded word)) kinds rest spelled)
              ∙ whole;
        })

pub ahead_first : (bytes : List ℕ) (count : ℕ) (reads : ReadsBytes count bytes) → Ahead bytes 0 false [] (tokens_of reads)
ahead_first bytes count reads = record {
  kinds = spelling reads.reads.expression;
  text = reads.characters;
  spelled = reads.reads.spelled;
  here = reads.encoded;
  fit = ap (λ l. fits false l) (sym (append-nil (spelling reads.reads.expression))) ∙ part_fits reads.reads.expression [] refl;
  whole = refl;
}
