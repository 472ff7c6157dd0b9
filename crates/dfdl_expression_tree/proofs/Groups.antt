-- The operators of a chain are ended in the order in which its tree has them.
use Rattle.std.proofs.Common.{◌≡◌, ℕ, zero, suc, ◌+◌, ◌<◌, ◌≤◌, ◌==◌, nat_le, min, true, false, if◌then◌else◌, Option, Some, None, List}
use Rattle.std.proofs.Common.{[], ◌∷◌, ◌++◌, length, inl, inr, refl, ap, sym, subst, ◌∙◌, arith, append_assoc, length-append}
use Rattle.std.proofs.lemmas.Bool.{cases_Bool, cases_lt, eqb-true}
use Rattle.std.proofs.lemmas.Bool.Decides.{nat_tests}
use Rattle.dfdl_layers.specs.Tellers.{Each}
use Rattle.dfdl_expression_tree.specs.declared.token.Operator.{Operator}
use Rattle.dfdl_expression_tree.specs.declared.token.Operator.TheVariants as o
use Rattle.dfdl_expression_tree.specs.declared.node.Binary.TheVariants as binary
use Rattle.dfdl_expression_tree.specs.declared.node.Cell.{Cell}
use Rattle.dfdl_expression_tree.specs.declared.node.Cell.TheVariants as cell
use Rattle.dfdl_expression_tree.specs.declared.pending.Pending.{Pending}
use Rattle.dfdl_expression_tree.specs.declared.pending.Pending.TheVariants.{Operation}
use Rattle.dfdl_expression_tree.specs.Trees.{Formula, End, One, Two, Choose, Link, Parted, strength, weakest, parted, parted_by, topped}
use Rattle.dfdl_expression_tree.specs.Trees.{grouped, chained}
use Rattle.dfdl_expression_tree.specs.Chains.{From, Groups, Alone, Parts}
use Rattle.dfdl_expression_tree.specs.Building.{Work, work, pops, cell_of, popped, popped_of}

-- what is read of a tree: its operands, and then what it is
abbrev pub code : Formula → List Cell
code (End l) = cell.Leaf l ∷ []
code (One u a) = code a ++ cell.Unary u ∷ []
code (Two b l r) = code l ++ (code r ++ cell.Binary b ∷ [])
code (Choose t a b) = code t ++ (code a ++ (code b ++ cell.Choice ∷ []))

-- what is open and built behind some links
abbrev pub fed : List Link → Work → Work
fed [] w = w
fed (l ∷ ls) w =
    let v = popped (strength l.operator) w.cells w.pending in
    fed ls (work (v.cells ++ code l.operand) (Operation l.operator ∷ v.pending))

fed_both : (xs ys : List Link) (w : Work) → fed (xs ++ ys) w ≡ fed ys (fed xs w)
fed_both [] ys w = refl
fed_both (l ∷ xs) ys w =
    let v = popped (strength l.operator) w.cells w.pending in
    fed_both xs ys (work (v.cells ++ code l.operand) (Operation l.operator ∷ v.pending))

-- none of the links ends what was opened last
abbrev pub Stays : Link → List Pending → Type 0
Stays l [] = Unit {0}
Stays l (p ∷ ps) = pops (strength l.operator) p ≡ false

stays_popped : (l : Link) (cells : List Cell) (ps : List Pending) → Stays l ps → popped (strength l.operator) cells ps ≡ work cells ps
stays_popped l cells [] stays = refl
stays_popped l cells (p ∷ ps) stays =
    ap (λ b. if b then popped (strength l.operator) (cells ++ cell_of p ∷ []) ps else work cells (p ∷ ps)) stays

le_of : (m n : ℕ) → m ≤ n → nat_le m n ≡ true
le_of m n is = grind (arith, nat_tests)

not_le_of : (m n : ℕ) → n < m → nat_le m n ≡ false
not_le_of m n is = grind (arith, nat_tests)

stronger_stays : (n : ℕ) (operator : Operator) (ps : List Pending) (ls : List Link) → strength operator ≡ n → From (n + 1) ls
    → Each (λ (l : Link). Stays l (Operation operator ∷ ps)) ls
stronger_stays n operator ps [] is all = tt
stronger_stays n operator ps (l ∷ ls) is all =
    (not_le_of (strength l.operator) (strength operator) (let h = all.0 in omega arith), stronger_stays n operator ps ls is all.1)

each_before : (P : Link → Type 0) (xs ys : List Link) → Each P (xs ++ ys) → Each P xs
each_before P [] ys all = tt
each_before P (x ∷ xs) ys all = (all.0, each_before P xs ys all.1)

each_behind : (P : Link → Type 0) (xs ys : List Link) → Each P (xs ++ ys) → Each P ys
each_behind P [] ys all = all
each_behind P (x ∷ xs) ys all = each_behind P xs ys all.1

weaker : (n m : ℕ) (ls : List Link) → m ≤ n → From n ls → From m ls
weaker n m [] le all = tt
weaker n m (l ∷ ls) le all = (let h = all.0 in omega arith, weaker n m ls le all.1)

-- behind the links the same is built as of their tree, once those that are stronger have ended
pub groups_fed : (first : Formula) (links : List Link) (t : Formula) → Groups first links t
    → (n : ℕ) (cells : List Cell) (ps : List Pending) → From n links → Each (λ (l : Link). Stays l ps) links
    → popped_of n (fed links (work (cells ++ code first) ps)) ≡ popped_of n (work (cells ++ code t) ps)
groups_fed _ _ _ (Alone first) n cells ps all stays = refl
groups_fed _ _ _ (Parts first before l behind left right weak strong left_is right_is) n cells ps all stays =
    let own = strength l.operator in
    let own_least : n ≤ own = (each_behind (λ (x : Link). n ≤ strength x.operator) before (l ∷ behind) all).0 in
    let stay : Stays l ps = (each_behind (λ (x : Link). Stays x ps) before (l ∷ behind) stays).0 in
    let mid : popped_of own (fed before (work (cells ++ code first) ps)) ≡ work (cells ++ code left) ps =
    groups_fed first before left left_is own cells ps weak (each_before (λ (x : Link). Stays x ps) before (l ∷ behind) stays)
    ∙ stays_popped l (cells ++ code left) ps stay in
    let next = Operation l.operator ∷ ps in
    let split : fed (before ++ l ∷ behind) (work (cells ++ code first) ps) ≡ fed behind (work (cells ++ code left ++ code l.operand) next) =
    fed_both before (l ∷ behind) (work (cells ++ code first) ps)
    ∙ ap (λ (v : Work). fed behind (work (v.cells ++ code l.operand) (Operation l.operator ∷ v.pending))) mid in
    let rest : popped_of n (fed behind (work (cells ++ code left ++ code l.operand) next))
    ≡ popped_of n (work (cells ++ code left ++ code right) next) =
    groups_fed l.operand behind right right_is n (cells ++ code left) next (weaker (own + 1) n behind (omega arith) strong)
    (stronger_stays own l.operator ps behind refl strong) in
    let ended : popped_of n (work (cells ++ code left ++ code right) next)
    ≡ popped n (cells ++ code left ++ code right ++ cell.Binary (binary.Operation l.operator) ∷ []) ps =
    ap (λ b. if b then popped n (cells ++ code left ++ code right ++ cell.Binary (binary.Operation l.operator) ∷ []) ps
    else work (cells ++ code left ++ code right) next) (le_of n own own_least) in
    let last = cell.Binary (binary.Operation l.operator) ∷ [] in
    let same : cells ++ code left ++ code right ++ last ≡ cells ++ (code left ++ (code right ++ last)) =
    append_assoc (cells ++ code left) (code right) last ∙ append_assoc cells (code left) (code right ++ last) in
    ap (λ w. popped_of n w) split ∙ (rest ∙ (ended ∙ ap (λ c. popped n c ps) same))

-- the tree that is defined is such a tree
pub record IsParted (n : ℕ) (links : List Link) (p : Parted) : Type 0 where
  pub whole : links ≡ p.before ++ p.link ∷ p.behind
  pub own : strength p.link.operator ≡ n
  pub others : Each (λ (l : Link). (strength l.operator == n) ≡ false) p.behind

abbrev pub PartedOr : ℕ → List Link → Option Parted → Type 0
PartedOr n links (Some p) = IsParted n links p
PartedOr n links None = Each (λ (l : Link). (strength l.operator == n) ≡ false) links

parted_is : (n : ℕ) (links : List Link) → PartedOr n links (parted n links)
parted_is n [] = tt
parted_is n (l ∷ ls) = one (parted n ls) (parted_is n ls)
  where
    one : (found : Option Parted) → PartedOr n ls found → PartedOr n (l ∷ ls) (parted_by n l ls found)
    one (Some p) is = record { whole = ap (λ xs. l ∷ xs) is.whole; own = is.own; others = is.others }
    one None is = elim (cases_Bool (strength l.operator == n)) [
      | inl same ↦ subst (λ b. PartedOr n (l ∷ ls) (if b then Some (record { before = []; link = l; behind = ls }) else None)) (sym same)
          (record { whole = refl; own = eqb-true (strength l.operator) n same; others = is })
      | inr off ↦ subst (λ b. PartedOr n (l ∷ ls) (if b then Some (record { before = []; link = l; behind = ls }) else None)) (sym off)
          (off, is)
    ]

weakest_from : (links : List Link) → From (weakest links) links
weakest_from [] = tt
weakest_from (l ∷ ls) = (omega arith, weaker (weakest ls) (min (strength l.operator) (weakest ls)) ls (omega arith) (weakest_from ls))

strength_most : (operator : Operator) → strength operator ≤ 5
strength_most o.Or = omega arith
strength_most operator = omega arith

-- some link has the strength of the weakest
weakest_there : (l : Link) (ls : List Link) → Each (λ (x : Link). (strength x.operator == weakest (l ∷ ls)) ≡ false) (l ∷ ls) → ⊥
weakest_there l [] all =
    let h = all.0 in let most = strength_most l.operator in
    let same : (strength l.operator == min (strength l.operator) 6)
    ≡ true = eqb_same (strength l.operator) (min (strength l.operator) 6) (omega arith) in cc
  where
    eqb_same : (m n : ℕ) → m ≡ n → (m == n) ≡ true
    eqb_same m n is = grind (arith, nat_tests)
weakest_there l (x ∷ xs) all = elim (cases_lt (weakest (x ∷ xs)) (strength l.operator)) [
  | inl less ↦ weakest_there x xs (subst (λ n. Each (λ (y : Link). (strength y.operator == n) ≡ false) (x ∷ xs))
      (min_right (strength l.operator) (weakest (x ∷ xs)) less) all.1)
  | inr least ↦ (let h = all.0 in
      let same : (strength l.operator == min (strength l.operator) (weakest (x ∷ xs))) ≡ true =
      eqb_same (strength l.operator) (min (strength l.operator) (weakest (x ∷ xs))) (omega arith) in cc)
]
  where
    eqb_same : (m n : ℕ) → m ≡ n → (m == n) ≡ true
    eqb_same m n is = grind (arith, nat_tests)

    min_right : (m n : ℕ) → n < m → min m n ≡ n
    min_right m n less = omega arith

-- what isn't as strong and not weaker is stronger
above : (n : ℕ) (ls : List Link) → From n ls → Each (λ (l : Link). (strength l.operator == n) ≡ false) ls → From (n + 1) ls
above n [] all off = tt
above n (l ∷ ls) all off = (one (strength l.operator) all.0 off.0, above n ls all.1 off.1)
  where
    one : (m : ℕ) → n ≤ m → (m == n) ≡ false → n + 1 ≤ m
    one m le apart = grind (arith, nat_tests)

grouped_groups : (n : ℕ) (first : Formula) (links : List Link) → length links ≤ n → Groups first links (grouped n first links)
grouped_groups zero first [] le = Alone first
grouped_groups zero first (l ∷ ls) le = absurd (omega arith)
grouped_groups (suc n) first [] le = Alone first
grouped_groups (suc n) first (l ∷ ls) le =
    one (parted (weakest (l ∷ ls)) (l ∷ ls)) (parted_is (weakest (l ∷ ls)) (l ∷ ls))
    (λ f xs few. grouped_groups n f xs few)
  where
    one : (found : Option Parted) → PartedOr (weakest (l ∷ ls)) (l ∷ ls) found
        → ((f : Formula) (xs : List Link) → length xs ≤ n → Groups f xs (grouped n f xs))
        → Groups first (l ∷ ls) (topped (grouped n) first found)
    one None is rec = absurd (weakest_there l ls is)
    one (Some p) is rec =
        let own = strength p.link.operator in
        let all : From (weakest (l ∷ ls)) (p.before ++ p.link ∷ p.behind) = subst (λ xs. From (weakest (l ∷ ls)) xs) is.whole
        (weakest_from (l ∷ ls)) in
        let size : length p.before + suc (length p.behind) ≡ suc (length ls) =
        sym (ap length is.whole ∙ length-append p.before (p.link ∷ p.behind)) in
        let before : From own p.before =
        subst (λ m. From m p.before) (sym is.own)
        (each_before (λ (x : Link). weakest (l ∷ ls) ≤ strength x.operator) p.before (p.link ∷ p.behind) all) in
        let behind : From (own + 1) p.behind =
        subst (λ m. From (m + 1) p.behind) (sym is.own)
        (above (weakest (l ∷ ls)) p.behind (each_behind (λ (x : Link). weakest (l ∷ ls) ≤ strength x.operator) p.before
        (p.link ∷ p.behind) all).1 is.others) in
        subst (λ xs. Groups first xs (Two (binary.Operation p.link.operator) (grouped n first p.before)
        (grouped n p.link.operand p.behind))) (sym is.whole)
        (Parts first p.before p.link p.behind (grouped n first p.before) (grouped n p.link.operand p.behind) before behind
        (rec first p.before (omega arith)) (rec p.link.operand p.behind (omega arith)))

pub chained_groups : (first : Formula) (links : List Link) → Groups first links (chained first links)
chained_groups first links = grouped_groups (length links) first links (omega arith)
