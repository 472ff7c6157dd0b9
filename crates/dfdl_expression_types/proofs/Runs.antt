-- What a pass over a tree's nodes keeps is what the tree is.
use Rattle.std.proofs.Common.{◌≡◌, ℕ, List, [], ◌∷◌, ◌++◌, refl, ap, sym, ◌∙◌, append_assoc, subst, Result, Ok, Err}
use Rattle.std.proofs.lemmas.List.{append-nil}
use Rattle.dfdl_expression_tree.specs.declared.node.Node.{Node}
use Rattle.dfdl_expression_tree.specs.declared.node.Node.TheVariants as node
use Rattle.dfdl_expression_tree.specs.Trees.{Formula, End, One, Two, Choose, behind, root, listed}
use Rattle.dfdl_expression_types.specs.declared.statics.Statics.{Statics}
use Rattle.dfdl_expression_types.specs.declared.note.Note.{Note as Noted}
use Rattle.dfdl_expression_types.specs.declared.types.Types.{Types}
use Rattle.dfdl_expression_types.specs.declared.fault.TypeFault.{TypeFault}
use Rattle.dfdl_expression_types.specs.declared.fault.TypeFault.TheVariants as fault
use Rattle.dfdl_expression_types.specs.Notes.{noted}
use Rattle.dfdl_expression_types.specs.Verdicts.{verdict, types_or_fault, Answers}
use Rattle.dfdl_expression_types.specs.Running.{run, first}

again : (s : Statics) (text : List ℕ) (xs ys zs : List Node) (notes : List Noted) → run s text ((xs ++ ys) ++ zs) notes ≡ run s text (xs ++ (ys ++ zs)) notes
again s text xs ys zs notes = ap (λ l. run s text l notes) (append_assoc xs ys zs)

run_tree : (s : Statics) (text : List ℕ) (f : Formula) (n : ℕ) (nodes : List Node) (notes : List Noted)
    → run s text (listed f n ++ nodes) notes ≡ run s text nodes (noted s text f ∷ notes)
run_tree s text (End l) n nodes notes = refl
run_tree s text (One u a) n nodes notes =
    again s text (listed a n) (node.Unary u (root a n) ∷ []) nodes notes
    ∙ run_tree s text a n (node.Unary u (root a n) ∷ nodes) notes
run_tree s text (Two b l r) n nodes notes =
    let m = behind l n in
    let last = node.Binary b (root l n) (root r m) in
    again s text (listed l n) (listed r m ++ last ∷ []) nodes notes
    ∙ (run_tree s text l n ((listed r m ++ last ∷ []) ++ nodes) notes
    ∙ (again s text (listed r m) (last ∷ []) nodes (noted s text l ∷ notes)
    ∙ run_tree s text r m (last ∷ nodes) (noted s text l ∷ notes)))
run_tree s text (Choose t a b) n nodes notes =
    let m = behind t n in
    let p = behind a m in
    let last = node.Choice (root t n) (root a m) (root b p) in
    again s text (listed t n) (listed a m ++ (listed b p ++ last ∷ [])) nodes notes
    ∙ (run_tree s text t n ((listed a m ++ (listed b p ++ last ∷ [])) ++ nodes) notes
    ∙ (again s text (listed a m) (listed b p ++ last ∷ []) nodes (noted s text t ∷ notes)
    ∙ (run_tree s text a m ((listed b p ++ last ∷ []) ++ nodes) (noted s text t ∷ notes)
    ∙ (again s text (listed b p) (last ∷ []) nodes (noted s text a ∷ noted s text t ∷ notes)
    ∙ run_tree s text b p (last ∷ nodes) (noted s text a ∷ noted s text t ∷ notes)))))

-- behind all nodes of a tree just the tree is kept
pub whole_run : (s : Statics) (text : List ℕ) (f : Formula) (nodes : List Node) → nodes ≡ listed f 0 → run s text nodes [] ≡ noted s text f ∷ []
whole_run s text f nodes same =
    ap (λ l. run s text l []) (same ∙ sym (append-nil (listed f 0))) ∙ run_tree s text f 0 [] []

-- an answer is the one that is due
itself : (answer : Result Types TypeFault) → Answers answer answer
itself (Ok types) = refl
itself (Err fault.Types) = refl
itself (Err fault.NoPath) = refl
itself (Err fault.NoVariable) = refl
itself (Err fault.OutOfMemory) = tt

-- the verdict on what is kept behind all nodes is that on the tree
pub judged : (s : Statics) (text : List ℕ) (nodes : List Node) (n : Noted) (answer : Result Types TypeFault)
    → n ≡ first (run s text nodes []) → answer ≡ verdict s n → (f : Formula) → nodes ≡ listed f 0 → Answers (types_or_fault s text f) answer
judged s text nodes n answer last told f same =
    let is : answer ≡ types_or_fault s text f = told ∙ ap (verdict s) (last ∙ ap first (whole_run s text f nodes same)) in
    subst (λ (a : Result Types TypeFault). Answers (types_or_fault s text f) a) (sym is) (itself (types_or_fault s text f))
