-- What a pass over a tree's nodes makes is what the tree is compiled to.
use Rattle.std.proofs.Common.{◌≡◌, ℕ, List, [], ◌∷◌, ◌++◌, refl, ap, sym, ◌∙◌, append_assoc}
use Rattle.std.proofs.lemmas.List.{append-nil}
use Rattle.dfdl_expressions.specs.declared.node.Node.{Node as Compiled}
use Rattle.dfdl_expression_tree.specs.declared.node.Node.{Node}
use Rattle.dfdl_expression_tree.specs.declared.node.Node.TheVariants as node
use Rattle.dfdl_expression_tree.specs.Trees.{Formula, End, One, Two, Choose, behind, root, listed}
use Rattle.dfdl_expression_types.specs.declared.statics.Statics.{Statics}
use Rattle.dfdl_expression_compile.specs.declared.operand.Item.{Item}
use Rattle.dfdl_expression_compile.specs.Compiling.{compiled, nodes_of, whole}
use Rattle.dfdl_expression_compile.specs.Running.{Pass, pass, with, run, last, all_nodes}

again : (s : Statics) (text : List ℕ) (xs ys zs : List Node) (p : Pass) → run s text ((xs ++ ys) ++ zs) p ≡ run s text (xs ++ (ys ++ zs)) p
again s text xs ys zs p = ap (λ l. run s text l p) (append_assoc xs ys zs)

run_tree : (s : Statics) (text : List ℕ) (f : Formula) (n : ℕ) (nodes : List Node) (items : List Item) (made : List Compiled)
    → run s text (listed f n ++ nodes) (pass items made) ≡ run s text nodes (with (compiled s text f made) items)
run_tree s text (End l) n nodes items made = refl
run_tree s text (One u a) n nodes items made =
    again s text (listed a n) (node.Unary u (root a n) ∷ []) nodes (pass items made)
    ∙ run_tree s text a n (node.Unary u (root a n) ∷ nodes) items made
run_tree s text (Two b l r) n nodes items made =
    let m = behind l n in
    let last = node.Binary b (root l n) (root r m) in
    let left = compiled s text l made in
    again s text (listed l n) (listed r m ++ last ∷ []) nodes (pass items made)
    ∙ (run_tree s text l n ((listed r m ++ last ∷ []) ++ nodes) items made
    ∙ (again s text (listed r m) (last ∷ []) nodes (with left items)
    ∙ run_tree s text r m (last ∷ nodes) (left.item ∷ items) left.nodes))
run_tree s text (Choose t a b) n nodes items made =
    let m = behind t n in
    let p = behind a m in
    let last = node.Choice (root t n) (root a m) (root b p) in
    let test = compiled s text t made in
    let first = compiled s text a test.nodes in
    again s text (listed t n) (listed a m ++ (listed b p ++ last ∷ [])) nodes (pass items made)
    ∙ (run_tree s text t n ((listed a m ++ (listed b p ++ last ∷ [])) ++ nodes) items made
    ∙ (again s text (listed a m) (listed b p ++ last ∷ []) nodes (with test items)
    ∙ (run_tree s text a m ((listed b p ++ last ∷ []) ++ nodes) (test.item ∷ items) test.nodes
    ∙ (again s text (listed b p) (last ∷ []) nodes (with first (test.item ∷ items))
    ∙ run_tree s text b p (last ∷ nodes) (first.item ∷ test.item ∷ items) first.nodes))))

-- the nodes of what is made of all of a tree's nodes are those of the tree
pub all_compiled : (s : Statics) (text : List ℕ) (f : Formula) (nodes : List Node) → nodes ≡ listed f 0 → all_nodes s text nodes ≡ nodes_of s text f
all_compiled s text f nodes same =
    ap (λ l. all_nodes s text l) (same ∙ sym (append-nil (listed f 0))) ∙ ap (λ p. whole (last p)) (run_tree s text f 0 [] [] [])
