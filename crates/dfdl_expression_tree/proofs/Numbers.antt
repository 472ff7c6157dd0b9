-- The nodes of a tree's cells are those that are listed of it.
use Rattle.std.proofs.Common.{◌≡◌, ℕ, ◌+◌, Some, None, List, [], ◌∷◌, ◌++◌, map, refl, ap, sym, ◌∙◌, append_assoc}
use Rattle.std.proofs.lemmas.List.{append-nil}
use Rattle.dfdl_expression_text.specs.declared.kind.Kind.{Kind}
use Rattle.dfdl_expression_text.specs.Tokens.{Spelled}
use Rattle.dfdl_expression_text.specs.Syntax.{spelling}
use Rattle.dfdl_expression_text.specs.Expressions.{ReadsBytes}
use Rattle.dfdl_expression_tree.specs.declared.token.Token.{Token}
use Rattle.dfdl_expression_tree.specs.declared.node.Cell.{Cell}
use Rattle.dfdl_expression_tree.specs.declared.node.Cell.TheVariants as cell
use Rattle.dfdl_expression_tree.specs.declared.node.Node.{Node}
use Rattle.dfdl_expression_tree.specs.declared.node.Node.TheVariants as node
use Rattle.dfdl_expression_tree.specs.TokenLists.{tokens_from, coded}
use Rattle.dfdl_expression_tree.specs.Trees.{Formula, End, One, Two, Choose, behind, root, listed, made}
use Rattle.dfdl_expression_tree.specs.Readings.{tokens_of, tree_of, HasTokens, HasTree}
use Rattle.dfdl_expression_tree.specs.Building.{go_on, run, start, built}
use Rattle.dfdl_expression_tree.specs.Numbering.{numbered, planted}
use Rattle.dfdl_expression_tree.proofs.Groups.{code}
use Rattle.dfdl_expression_tree.proofs.Builds.{whole_built}
use Rattle.std.proofs.Common.{length}

again : (xs ys zs : List Cell) (n : ℕ) (ids : List ℕ) (nodes : List Node) → numbered (xs ++ ys ++ zs) n ids nodes
    ≡ numbered (xs ++ (ys ++ zs)) n ids nodes
again xs ys zs n ids nodes = ap (λ l. numbered l n ids nodes) (append_assoc xs ys zs)

renode : (cells : List Cell) (n : ℕ) (ids : List ℕ) (xs ys : List Node) → xs ≡ ys → numbered cells n ids xs ≡ numbered cells n ids ys
renode cells n ids xs ys same = ap (λ l. numbered cells n ids l) same

three : (a b c d : List Node) → a ++ b ++ c ++ d ≡ a ++ (b ++ (c ++ d))
three a b c d = append_assoc (a ++ b) c d ∙ append_assoc a b (c ++ d)

tree_numbered : (t : Formula) (cells : List Cell) (n : ℕ) (ids : List ℕ) (nodes : List Node)
    → numbered (code t ++ cells) n ids nodes ≡ numbered cells (behind t n) (root t n ∷ ids) (nodes ++ listed t n)
tree_numbered (End l) cells n ids nodes = refl
tree_numbered (One u a) cells n ids nodes =
    again (code a) (cell.Unary u ∷ []) cells n ids nodes
    ∙ (tree_numbered a (cell.Unary u ∷ cells) n ids nodes
    ∙ renode cells (behind a n + 1) (behind a n ∷ ids) _ _ (append_assoc nodes (listed a n) (node.Unary u (root a n) ∷ [])))
tree_numbered (Two b l r) cells n ids nodes =
    let m = behind l n in
    again (code l) (code r ++ cell.Binary b ∷ []) cells n ids nodes
    ∙ (tree_numbered l (code r ++ cell.Binary b ∷ [] ++ cells) n ids nodes
    ∙ (again (code r) (cell.Binary b ∷ []) cells m (root l n ∷ ids) (nodes ++ listed l n)
    ∙ (tree_numbered r (cell.Binary b ∷ cells) m (root l n ∷ ids) (nodes ++ listed l n)
    ∙ renode cells (behind r m + 1) (behind r m ∷ ids) _ _
    (append_assoc (nodes ++ listed l n) (listed r m) (node.Binary b (root l n) (root r m) ∷ [])
    ∙ append_assoc nodes (listed l n) (listed r m ++ node.Binary b (root l n) (root r m) ∷ [])))))
tree_numbered (Choose t a b) cells n ids nodes =
    let m = behind t n in
    let p = behind a m in
    let last = node.Choice (root t n) (root a m) (root b p) ∷ [] in
    again (code t) (code a ++ (code b ++ cell.Choice ∷ [])) cells n ids nodes
    ∙ (tree_numbered t (code a ++ (code b ++ cell.Choice ∷ []) ++ cells) n ids nodes
    ∙ (again (code a) (code b ++ cell.Choice ∷ []) cells m (root t n ∷ ids) (nodes ++ listed t n)
    ∙ (tree_numbered a (code b ++ cell.Choice ∷ [] ++ cells) m (root t n ∷ ids) (nodes ++ listed t n)
    ∙ (again (code b) (cell.Choice ∷ []) cells p (root a m ∷ root t n ∷ ids) (nodes ++ listed t n ++ listed a m)
    ∙ (tree_numbered b (cell.Choice ∷ cells) p (root a m ∷ root t n ∷ ids) (nodes ++ listed t n ++ listed a m)
    ∙ renode cells (behind b p + 1) (behind b p ∷ ids) _ _
    (append_assoc (nodes ++ listed t n ++ listed a m) (listed b p) last
    ∙ three nodes (listed t n) (listed a m) (listed b p ++ last)))))))

whole_numbered : (t : Formula) → numbered (code t) 0 [] [] ≡ Some (listed t 0)
whole_numbered t = ap (λ l. numbered l 0 [] []) (sym (append-nil (code t))) ∙ tree_numbered t [] 0 [] []

pub kinds_kept : (at : ℕ) (kinds : List Kind) (text : List ℕ) (spelled : Spelled kinds text)
    → map (λ (t : Token). t.kind) (tokens_from at kinds text spelled) ≡ kinds
kinds_kept at [] text spelled = refl
kinds_kept at (kind ∷ kinds) text (space, word, rest, same, white, token, spelled) =
    ap (λ l. kind ∷ l) (kinds_kept (at + length (coded space) + length (coded word)) kinds rest spelled)

-- what is built of the tokens by which a text is read is its tree
pub planted_is : (count : ℕ) (bytes : List ℕ) (reads : ReadsBytes count bytes) → planted (tokens_of reads) ≡ Some (listed (tree_of reads) 0)
planted_is count bytes reads =
    let ts = tokens_of reads in
    let e = reads.reads.expression in
    let is : built ts ≡ Some (code (made ts e 0)) =
    ap (λ kinds. run ts kinds 0 start) (kinds_kept 0 (spelling e) reads.characters reads.reads.spelled) ∙ whole_built ts e in
    ap (λ found. go_on found (λ cells. numbered cells 0 [] [])) is ∙ whole_numbered (made ts e 0)

pub told_tree : (bytes : List ℕ) (tokens : List Token) (nodes : List Node) → HasTokens bytes tokens → planted tokens ≡ Some nodes
    → HasTree bytes nodes
told_tree bytes tokens nodes (count, few, reads, same) is =
    let whole : Some nodes ≡ Some (listed (tree_of reads) 0) = sym is ∙ (ap planted same ∙ planted_is count bytes reads) in
    (count, few, reads, cc)

pub told_none : (bytes : List ℕ) (tokens : List Token) → HasTokens bytes tokens → planted tokens ≡ None → ⊥
told_none bytes tokens (count, few, reads, same) is =
    let whole : None ≡ Some (listed (tree_of reads) 0) = sym is ∙ (ap planted same ∙ planted_is count bytes reads) in cc
