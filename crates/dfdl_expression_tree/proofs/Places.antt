-- Where the tokens of a text stand.
use Rattle.std.proofs.Common.{◌≡◌, ℕ, ◌+◌, ◌-◌, ◌<◌, suc, List, [], ◌∷◌, ◌++◌, length, take, drop, inl, inr, refl, ap, sym, ◌∙◌}
use Rattle.std.proofs.Common.{arith, length-append, length-drop}
use Rattle.std.proofs.lemmas.Bool.{cases_lt}
use Rattle.std.proofs.lemmas.List.{drop-drop, drop_at, take_at}
use Rattle.dfdl_xml_chars.proofs.Encodes.{encode_one}
use Rattle.dfdl_expression_text.specs.declared.kind.Kind.{Kind}
use Rattle.dfdl_expression_text.specs.Tokens.{Spelled}
use Rattle.dfdl_expression_text.specs.Syntax.{spelling}
use Rattle.dfdl_expression_text.specs.Expressions.{ReadsBytes}
use Rattle.dfdl_expression_tree.specs.TokenLists.{coded, token_at, tokens_from, Lie}
use Rattle.dfdl_expression_tree.specs.Readings.{tokens_of}
use Rattle.dfdl_expression_tree.proofs.Coded.{high}
use Rattle.dfdl_expression_tree.proofs.Ahead.{coded_both, token_starts}

some_bytes : (c : ℕ) (word : List ℕ) → 0 < length (coded (c ∷ word))
some_bytes c word = elim (cases_lt c 128) [
  | inl less ↦ (let is : length (coded (c ∷ word)) ≡ suc (length (coded word)) = ap (λ l. length (l ++ coded word)) (encode_one c less) in
      omega arith)
  | inr least ↦ (let h = high c least in
      let is : length (coded (c ∷ word)) ≡ suc (length (h.rest ++ coded word)) = ap (λ l. length (l ++ coded word)) h.is in omega arith)
]

lie_from : (bytes : List ℕ) (kinds : List Kind) (text : List ℕ) (spelled : Spelled kinds text) (at : ℕ) → drop at bytes ≡ coded text
    → Lie bytes at (tokens_from at kinds text spelled)
lie_from bytes [] text spelled at here = tt
lie_from bytes (kind ∷ kinds) text (space, word, rest, same, white, token, spelled) at here =
    let (c, w, is, opens) = token_starts kind word rest token in
    let some : 0 < length (coded word) = (let h = some_bytes c w in let e = ap (λ l. length (coded l)) is in omega arith) in
    let from = at + length (coded space) in
    let to = from + length (coded word) in
    let text_is : drop at bytes ≡ coded space ++ (coded word ++ coded rest) =
    here ∙ (ap coded same ∙ (coded_both space (word ++ rest) ∙ ap (λ l. coded space ++ l) (coded_both word rest))) in
    let one : drop from bytes ≡ coded word ++ coded rest =
    sym (drop-drop (length (coded space)) at bytes) ∙ (ap (λ l. drop (length (coded space)) l) text_is
    ∙ drop_at (coded space) (coded word ++ coded rest) (length (coded space)) refl) in
    let two : drop to bytes ≡ coded rest =
    sym (drop-drop (length (coded word)) from bytes) ∙ (ap (λ l. drop (length (coded word)) l) one
    ∙ drop_at (coded word) (coded rest) (length (coded word)) refl) in
    let own : take (to - from) (drop from bytes) ≡ coded word =
    ap (λ l. take (to - from) l) one ∙ take_at (coded word) (coded rest) (to - from) (omega arith) in
    let size : length bytes - from ≡ length (coded word) + length (coded rest) =
    sym (length-drop from bytes) ∙ (ap length one ∙ length-append (coded word) (coded rest)) in
    (omega arith, omega arith, omega arith, whole from to (take (to - from) (drop from bytes)) own refl, lie_from bytes kinds rest spelled to two)
  where
    whole : (from to : ℕ) (piece : List ℕ) → piece ≡ coded word → to ≡ from + length (coded word)
        → token_at kind from (coded word) ≡ token_at kind from piece
    whole from to piece own end = ap (λ l. token_at kind from l) (sym own)

pub tokens_lie : (bytes : List ℕ) (count : ℕ) (reads : ReadsBytes count bytes) → Lie bytes 0 (tokens_of reads)
tokens_lie bytes count reads = lie_from bytes (spelling reads.reads.expression) reads.characters reads.reads.spelled 0 reads.encoded
