-- A text has one list of tokens and one tree, and a chain one grouping.
use Rattle.std.proofs.Common.{◌≡◌, ℕ, ◌+◌, ◌&&◌, Bool, true, false, Some, List, [], ◌∷◌, ◌++◌, length, drop, map, refl, ap, sym, ◌∙◌}
use Rattle.std.proofs.Common.{arith, append_assoc}
use Rattle.std.proofs.lemmas.List.{append-nil, drop-drop, drop_at}
use Rattle.dfdl_expression_text.specs.declared.kind.Kind.{Kind}
use Rattle.dfdl_expression_text.specs.Tokens.{Spelled}
use Rattle.dfdl_expression_text.specs.Syntax.{spelling}
use Rattle.dfdl_expression_text.specs.Expressions.{ReadsBytes}
use Rattle.dfdl_expression_tree.specs.declared.token.Token.{Token}
use Rattle.dfdl_expression_tree.specs.declared.node.Cell.{Cell}
use Rattle.dfdl_expression_tree.specs.declared.node.Cell.TheVariants as cell
use Rattle.dfdl_expression_tree.specs.TokenLists.{token_at, tokens_from, coded}
use Rattle.dfdl_expression_tree.specs.Trees.{Formula, End, One, Two, Choose, Link, chained}
use Rattle.dfdl_expression_tree.specs.Chains.{Groups}
use Rattle.dfdl_expression_tree.specs.Readings.{tokens_of, tree_of}
use Rattle.dfdl_expression_tree.specs.Building.{Work, work, run, start}
use Rattle.dfdl_expression_tree.specs.Lexing.{next_token, ends_operand}
use Rattle.dfdl_expression_tree.proofs.Lexes.{token_lexed, may_be}
use Rattle.dfdl_expression_tree.proofs.Fits.{fits, part_fits}
use Rattle.dfdl_expression_tree.proofs.Ahead.{spelled_opened, coded_both, found_behind, none_behind}
use Rattle.dfdl_expression_tree.proofs.Groups.{code, groups_fed, chained_groups}
use Rattle.dfdl_expression_tree.proofs.Builds.{from_zero, all_stay, whole_built}
use Rattle.dfdl_expression_tree.proofs.Numbers.{kinds_kept}

-- the trees that cells make of those before
abbrev two : (Formula → Formula → List Formula) → List Formula → List Formula
two make [] = []
two make (r ∷ []) = []
two make (r ∷ l ∷ ts) = make l r ++ ts

abbrev three : List Formula → List Formula
three [] = []
three (c ∷ ts) = two (λ t a. Choose t a c ∷ []) ts

abbrev one : (Formula → Formula) → List Formula → List Formula
one make [] = []
one make (a ∷ ts) = make a ∷ ts

abbrev applied : Cell → List Formula → List Formula
applied (cell.Leaf l) ts = End l ∷ ts
applied (cell.Unary u) ts = one (λ a. One u a) ts
applied (cell.Binary b) ts = two (λ l r. Two b l r ∷ []) ts
applied cell.Choice ts = three ts

abbrev decoded : List Cell → List Formula → List Formula
decoded [] ts = ts
decoded (c ∷ cells) ts = decoded cells (applied c ts)

again : (xs ys zs : List Cell) (ts : List Formula) → decoded (xs ++ ys ++ zs) ts ≡ decoded (xs ++ (ys ++ zs)) ts
again xs ys zs ts = ap (λ l. decoded l ts) (append_assoc xs ys zs)

tree_decoded : (t : Formula) (cells : List Cell) (ts : List Formula) → decoded (code t ++ cells) ts ≡ decoded cells (t ∷ ts)
tree_decoded (End l) cells ts = refl
tree_decoded (One u a) cells ts = again (code a) (cell.Unary u ∷ []) cells ts ∙ tree_decoded a (cell.Unary u ∷ cells) ts
tree_decoded (Two b l r) cells ts =
    again (code l) (code r ++ cell.Binary b ∷ []) cells ts
    ∙ (tree_decoded l (code r ++ cell.Binary b ∷ [] ++ cells) ts
    ∙ (again (code r) (cell.Binary b ∷ []) cells (l ∷ ts) ∙ tree_decoded r (cell.Binary b ∷ cells) (l ∷ ts)))
tree_decoded (Choose t a b) cells ts =
    again (code t) (code a ++ (code b ++ cell.Choice ∷ [])) cells ts
    ∙ (tree_decoded t (code a ++ (code b ++ cell.Choice ∷ []) ++ cells) ts
    ∙ (again (code a) (code b ++ cell.Choice ∷ []) cells (t ∷ ts)
    ∙ (tree_decoded a (code b ++ cell.Choice ∷ [] ++ cells) (t ∷ ts)
    ∙ (again (code b) (cell.Choice ∷ []) cells (a ∷ t ∷ ts) ∙ tree_decoded b (cell.Choice ∷ cells) (a ∷ t ∷ ts)))))

same_code : (s t : Formula) → code s ≡ code t → s ≡ t
same_code s t same =
    let left : decoded (code s) [] ≡ s ∷ [] = ap (λ l. decoded l []) (sym (append-nil (code s))) ∙ tree_decoded s [] [] in
    let right : decoded (code t) [] ≡ t ∷ [] = ap (λ l. decoded l []) (sym (append-nil (code t))) ∙ tree_decoded t [] [] in
    let both : s ∷ [] ≡ t ∷ [] = sym left ∙ (ap (λ l. decoded l []) same ∙ right) in
    cc

pub groups_only : (first : Formula) (links : List Link) (t : Formula) → Groups first links t → t ≡ chained first links
groups_only first links t is =
    let own = groups_fed first links t is 0 [] [] (from_zero links) (all_stay links [] refl) in
    let other = groups_fed first links (chained first links) (chained_groups first links) 0 [] [] (from_zero links)
    (all_stay links [] refl) in
    let same : work (code t) [] ≡ work (code (chained first links)) [] = sym own ∙ other in
    same_code t (chained first links) (ap (λ (w : Work). w.cells) same)

and_first : (x y : Bool) → (x && y) ≡ true → x ≡ true
and_first true y h = refl
and_first false y h = h

and_second : (x y : Bool) → (x && y) ≡ true → y ≡ true
and_second true y h = h
and_second false y h = absurd (cc)

rest_coded : (text space word rest : List ℕ) → text ≡ space ++ (word ++ rest)
    → drop (length (coded space) + length (coded word)) (coded text) ≡ coded rest
rest_coded text space word rest same =
    let is : coded text ≡ coded space ++ (coded word ++ coded rest) =
    ap coded same ∙ (coded_both space (word ++ rest) ∙ ap (λ l. coded space ++ l) (coded_both word rest)) in
    sym (drop-drop (length (coded word)) (length (coded space)) (coded text))
    ∙ (ap (λ l. drop (length (coded word)) (drop (length (coded space)) l)) is
    ∙ (ap (λ l. drop (length (coded word)) l) (drop_at (coded space) (coded word ++ coded rest) (length (coded space)) refl)
    ∙ drop_at (coded word) (coded rest) (length (coded word)) refl))

same_tokens : (first : List Kind) (a : List ℕ) (a_spelled : Spelled first a) (second : List Kind) (b : List ℕ)
    (b_spelled : Spelled second b)
    (at : ℕ) (ended : Bool) → coded a ≡ coded b → fits ended first ≡ true → fits ended second ≡ true
    → tokens_from at first a a_spelled ≡ tokens_from at second b b_spelled
same_tokens [] a a_spelled [] b b_spelled at ended same first_fits second_fits = refl
same_tokens [] a a_spelled (kind ∷ kinds) b (space, word, rest, is, white, token, spelled) at ended same first_fits second_fits =
    let none = none_behind ended at a a_spelled in
    let lexed = token_lexed ended kind word rest (and_first (may_be ended kind) (fits (ends_operand kind) kinds) second_fits)
    (spelled_opened kinds rest spelled) token in
    let some = ap (λ l. next_token ended at l) (same ∙ ap coded is) ∙ found_behind ended at space kind word rest white lexed in
    absurd (cc)
same_tokens (kind ∷ kinds) a (space, word, rest, is, white, token, spelled) [] b b_spelled at ended same first_fits second_fits =
    let none = none_behind ended at b b_spelled in
    let lexed = token_lexed ended kind word rest (and_first (may_be ended kind) (fits (ends_operand kind) kinds) first_fits)
    (spelled_opened kinds rest spelled) token in
    let some = ap (λ l. next_token ended at l) (sym same ∙ ap coded is) ∙ found_behind ended at space kind word rest white lexed in
    absurd (cc)
same_tokens (k1 ∷ ks1) a (s1, w1, r1, is1, white1, token1, spelled1) (k2 ∷ ks2) b (s2, w2, r2, is2, white2, token2, spelled2) at ended
    same first_fits second_fits =
    let lexed1 = token_lexed ended k1 w1 r1 (and_first (may_be ended k1) (fits (ends_operand k1) ks1) first_fits)
    (spelled_opened ks1 r1 spelled1) token1 in
    let lexed2 = token_lexed ended k2 w2 r2 (and_first (may_be ended k2) (fits (ends_operand k2) ks2) second_fits)
    (spelled_opened ks2 r2 spelled2) token2 in
    let t1 = token_at k1 (at + length (coded s1)) (coded w1) in
    let t2 = token_at k2 (at + length (coded s2)) (coded w2) in
    let some1 : next_token ended at (coded a) ≡ Some t1 = ap (λ l. next_token ended at l) (ap coded is1)
    ∙ found_behind ended at s1 k1 w1 r1 white1 lexed1 in
    let some2 : next_token ended at (coded a) ≡ Some t2 = ap (λ l. next_token ended at l) (same ∙ ap coded is2)
    ∙ found_behind ended at s2 k2 w2 r2 white2 lexed2 in
    let both : Some t1 ≡ Some t2 = sym some1 ∙ some2 in
    let own : t1 ≡ t2 = cc in
    let to : at + length (coded s1) + length (coded w1) ≡ at + length (coded s2) + length (coded w2) = ap (λ (t : Token). t.span.to) own in
    let kind : k1 ≡ k2 = ap (λ (t : Token). t.kind) own in
    let size : length (coded s1) + length (coded w1) ≡ length (coded s2) + length (coded w2) = omega arith in
    let rests : coded r1 ≡ coded r2 =
    sym (rest_coded a s1 w1 r1 is1) ∙ (ap (λ l. drop (length (coded s1) + length (coded w1)) l) same
    ∙ (ap (λ n. drop n (coded b)) size ∙ rest_coded b s2 w2 r2 is2)) in
    let behind2 : fits (ends_operand k1) ks2 ≡ true =
    ap (λ k. fits (ends_operand k) ks2) kind ∙ and_second (may_be ended k2) (fits (ends_operand k2) ks2) second_fits in
    let others = same_tokens ks1 r1 spelled1 ks2 r2 spelled2 (at + length (coded s1) + length (coded w1)) (ends_operand k1) rests
    (and_second (may_be ended k1) (fits (ends_operand k1) ks1) first_fits) behind2 in
    ap (λ t. t ∷ tokens_from (at + length (coded s1) + length (coded w1)) ks1 r1 spelled1) own
    ∙ ap (λ l. t2 ∷ l) (others ∙ ap (λ n. tokens_from n ks2 r2 spelled2) to)

whole_fits : (count : ℕ) (bytes : List ℕ) (reads : ReadsBytes count bytes) → fits false (spelling reads.reads.expression) ≡ true
whole_fits count bytes reads =
    ap (λ l. fits false l) (sym (append-nil (spelling reads.reads.expression))) ∙ part_fits reads.reads.expression [] refl

pub one_list : (bytes : List ℕ) (m n : ℕ) (first : ReadsBytes m bytes) (second : ReadsBytes n bytes) → tokens_of first ≡ tokens_of second
one_list bytes m n first second =
    same_tokens (spelling first.reads.expression) first.characters first.reads.spelled (spelling second.reads.expression)
    second.characters second.reads.spelled
    0 false (sym first.encoded ∙ second.encoded) (whole_fits m bytes first) (whole_fits n bytes second)

pub one_tree : (bytes : List ℕ) (m n : ℕ) (first : ReadsBytes m bytes) (second : ReadsBytes n bytes) → tree_of first ≡ tree_of second
one_tree bytes m n first second =
    let tokens = one_list bytes m n first second in
    let a = first.reads.expression in
    let b = second.reads.expression in
    let kinds : spelling a ≡ spelling b =
    sym (kinds_kept 0 (spelling a) first.characters first.reads.spelled) ∙ (ap (λ l. map (λ (t : Token). t.kind) l) tokens
    ∙ kinds_kept 0 (spelling b) second.characters second.reads.spelled) in
    let same : Some (code (tree_of first)) ≡ Some (code (tree_of second)) =
    sym (whole_built (tokens_of first) a)
    ∙ (ap (λ l. run l (spelling a) 0 start) tokens
    ∙ (ap (λ l. run (tokens_of second) l 0 start) kinds ∙ whole_built (tokens_of second) b)) in
    same_code (tree_of first) (tree_of second) (cc)
