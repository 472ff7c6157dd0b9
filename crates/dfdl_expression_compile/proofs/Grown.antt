-- Trees of texts: arguments stand in calls alone, and there are at most two nodes for each token.
use Rattle.std.proofs.Common.{◌≡◌, ℕ, zero, suc, ◌+◌, ◌*◌, ◌≤◌, Bool, true, false, Option, Some, None, List, [], ◌∷◌, ◌++◌, length, if◌then◌else◌, refl, subst, arith}
use Rattle.std.specs.Prelude.{◌==◌}
use Rattle.std.proofs.lemmas.List.{length-append}
use Rattle.dfdl_expression_text.specs.declared.kind.Kind.{Kind}
use Rattle.dfdl_expression_text.specs.declared.kind.Kind.TheVariants as k
use Rattle.dfdl_expression_text.specs.Syntax.{Part, Syntax, spelling}
use Rattle.dfdl_expression_text.specs.Syntax as s
use Rattle.dfdl_expression_tree.specs.declared.token.Operator.{Operator}
use Rattle.dfdl_expression_tree.specs.declared.token.Token.{Token}
use Rattle.dfdl_expression_tree.specs.declared.token.Form.{Form}
use Rattle.dfdl_expression_tree.specs.declared.token.Form.TheVariants as f
use Rattle.dfdl_expression_tree.specs.declared.node.Leaf.{Leaf}
use Rattle.dfdl_expression_tree.specs.declared.node.Leaf.TheVariants as leaf
use Rattle.dfdl_expression_tree.specs.declared.node.Unary.{Unary}
use Rattle.dfdl_expression_tree.specs.declared.node.Unary.TheVariants as unary
use Rattle.dfdl_expression_tree.specs.declared.node.Binary.{Binary}
use Rattle.dfdl_expression_tree.specs.declared.node.Binary.TheVariants as binary
use Rattle.dfdl_expression_tree.specs.TokenLists.{nth_token}
use Rattle.dfdl_expression_tree.specs.Trees.{Formula, End, One, Two, Choose, Link, Parted, parted, parted_by, topped, grouped, chained, weakest, strength, constant, constant_by, stepped, stepped_by, operated, link, Made, made, after}

-- whether a part without operands is a list of arguments
abbrev pub is_none_yet : Leaf → Bool
is_none_yet leaf.NoArguments = true
is_none_yet _ = false

-- whether a part takes arguments
abbrev pub is_call_of : Unary → Bool
is_call_of (unary.Call span) = true
is_call_of _ = false

-- whether a part is a list of arguments
abbrev pub is_argument : Binary → Bool
is_argument binary.Argument = true
is_argument _ = false

-- a tree is a list of arguments, or none, and so are its parts where they have to be
abbrev pub Fits : Bool → Formula → Type 0
Fits many (End l) = many ≡ is_none_yet l
Fits many (One u a) = (many ≡ false) × Fits (is_call_of u) a
Fits many (Two b l r) = (many ≡ is_argument b) × Fits (is_argument b) l × Fits false r
Fits many (Choose t a b) = (many ≡ false) × Fits false t × Fits false a × Fits false b

-- how many nodes a tree has
abbrev pub size : Formula → ℕ
size (End l) = 1
size (One u a) = size a + 1
size (Two b l r) = size l + size r + 1
size (Choose t a b) = size t + size a + size b + 1

-- those of links, with their operators
abbrev pub sizes : List Link → ℕ
sizes [] = 0
sizes (l ∷ ls) = size l.operand + 1 + sizes ls

abbrev pub AllFit : List Link → Type 0
AllFit [] = Unit {0}
AllFit (l ∷ ls) = Fits false l.operand × AllFit ls

-- what is before, between and behind is what was there
pub record Divides (links : List Link) (p : Parted) : Type 0 where
  pub before : AllFit p.before
  pub between : Fits false p.link.operand
  pub behind : AllFit p.behind
  pub counted : sizes links ≡ sizes p.before + (size p.link.operand + 1) + sizes p.behind

abbrev pub MayDivide : List Link → Option Parted → Type 0
MayDivide links None = Unit {0}
MayDivide links (Some p) = Divides links p

divides : (n : ℕ) (links : List Link) → AllFit links → MayDivide links (parted n links)
divides n [] fit = tt
divides n (l ∷ ls) fit = by (parted n ls) (divides n ls fit.1)
  where
    here : (b : Bool) → MayDivide (l ∷ ls) (if b then Some (record { before = []; link = l; behind = ls }) else None)
    here true = record { before = tt; between = fit.0; behind = fit.1; counted = omega arith }
    here false = tt

    by : (o : Option Parted) → MayDivide ls o → MayDivide (l ∷ ls) (parted_by n l ls o)
    by None d = here (strength l.operator == n)
    by (Some p) d = record {
      before = (fit.0, d.before);
      between = d.between;
      behind = d.behind;
      counted = omega (arith, d.counted);
    }

-- a tree of values has so many nodes at most
pub record IsTree (most : ℕ) (t : Formula) : Type 0 where
  pub fits : Fits false t
  pub few : size t ≤ most

grouped_fits : (n : ℕ) (first : Formula) (links : List Link) → Fits false first → AllFit links → IsTree (size first + sizes links) (grouped n first links)
grouped_fits zero first links one all = record { fits = one; few = omega arith }
grouped_fits (suc n) first links one all = by (λ f ls b c. grouped_fits n f ls b c) (parted (weakest links) links) (divides (weakest links) links all)
  where
    by : ((f : Formula) (ls : List Link) → Fits false f → AllFit ls → IsTree (size f + sizes ls) (grouped n f ls))
        → (o : Option Parted) → MayDivide links o → IsTree (size first + sizes links) (topped (grouped n) first o)
    by less None d = record { fits = one; few = omega arith }
    by less (Some p) d =
        let left = less first p.before one d.before in
        let right = less p.link.operand p.behind d.between d.behind in
        let few_left = left.few in
        let few_right = right.few in
        let counted = d.counted in
        record { fits = (refl, left.fits, right.fits); few = omega (arith, few_left, few_right, counted) }

-- what is made of a part of so many tokens
pub record IsChain (most : ℕ) (links : List Link) : Type 0 where
  pub fits : AllFit links
  pub few : sizes links ≤ most

pub record Wraps (many : Bool) (spare most : ℕ) (g : Formula → Formula) : Type 0 where
  pub fits : (t : Formula) → Fits many t → Fits many (g t)
  pub few : (t : Formula) → size (g t) + spare ≤ size t + most

abbrev pub Makes : (p : Part) → ℕ → Made p → Type 0
Makes s.Whole most t = IsTree most t
Makes (s.Rest compared) most links = IsChain most links
Makes s.Term most t = IsTree most t
Makes s.Factor most t = IsTree most t
Makes s.Arguments most g = Wraps true 0 most g
Makes s.Further most g = Wraps true 1 most g
Makes s.Steps most g = Wraps false 1 most g
Makes s.Onward most g = Wraps false 0 most g
Makes s.Index most g = Wraps false 0 most g

linked : (most m n : ℕ) (o : Operator) (t : Formula) (links : List Link) → IsTree m t → IsChain n links → m + 1 + n ≤ most → IsChain most (link o t ∷ links)
linked most m n o t links tree chain few = record { fits = (tree.fits, chain.fits); few = omega (arith, tree.few, chain.few, few) }

chain_fits : (most m n : ℕ) (first : Formula) (links : List Link) → IsTree m first → IsChain n links → m + n ≤ most → IsTree most (chained first links)
chain_fits most m n first links tree chain few =
    let all = grouped_fits (length links) first links tree.fits chain.fits in
    record { fits = all.fits; few = omega (arith, all.few, tree.few, chain.few, few) }

leaf_fits : (l : Leaf) (most : ℕ) → false ≡ is_none_yet l → 1 ≤ most → IsTree most (End l)
leaf_fits l most is few = record { fits = is; few = few }

constant_fits : (t : Token) → false ≡ is_none_yet (constant t)
constant_fits t = by t.form
  where
    by : (form : Form) → false ≡ is_none_yet (constant_by form t)
    by f.Text = refl
    by _ = refl

-- the number of tokens of two parts
both : (xs ys : List Kind) → length (xs ++ ys) ≡ length xs + length ys
both xs ys = length-append xs ys

-- the tree of a part has at most two nodes for each token, and is a list of arguments where it has to be
pub makes : (ts : List Token) {p : Part} (e : Syntax p) (n : ℕ) → Makes p (2 * length (spelling e)) (made ts e n)
makes ts (s.Conditional test first second) n =
    let t = makes ts test (n + 1 + 1) in
    let a = makes ts first (after test (n + 1 + 1) + 1 + 1) in
    let b = makes ts second (after first (after test (n + 1 + 1) + 1 + 1) + 1) in
    let c = both (spelling test) (k.Close ∷ k.Then ∷ (spelling first ++ k.Else ∷ spelling second)) in
    let d = both (spelling first) (k.Else ∷ spelling second) in
    record { fits = (refl, t.fits, a.fits, b.fits); few = omega (arith, t.few, a.few, b.few, c, d) }
makes ts (s.Chain first rest) n =
    let c = both (spelling first) (spelling rest) in
    chain_fits _ (2 * length (spelling first)) (2 * length (spelling rest)) (made ts first n) (made ts rest (after first n))
    (makes ts first n) (makes ts rest (after first n)) (omega (arith, c))
makes ts (s.Ended compared) n = record { fits = tt; few = omega arith }
makes ts (s.Joined compared term rest) n =
    let c = both (spelling term) (spelling rest) in
    linked _ (2 * length (spelling term)) (2 * length (spelling rest)) (operated (nth_token ts n)) (made ts term (n + 1)) (made ts rest (after term (n + 1)))
    (makes ts term (n + 1)) (makes ts rest (after term (n + 1))) (omega (arith, c))
makes ts (s.Compared term rest) n =
    let c = both (spelling term) (spelling rest) in
    linked _ (2 * length (spelling term)) (2 * length (spelling rest)) (operated (nth_token ts n)) (made ts term (n + 1)) (made ts rest (after term (n + 1)))
    (makes ts term (n + 1)) (makes ts rest (after term (n + 1))) (omega (arith, c))
makes ts (s.Calculated compared kind is term rest) n =
    let c = both (spelling term) (spelling rest) in
    linked _ (2 * length (spelling term)) (2 * length (spelling rest)) (operated (nth_token ts n)) (made ts term (n + 1)) (made ts rest (after term (n + 1)))
    (makes ts term (n + 1)) (makes ts rest (after term (n + 1))) (omega (arith, c))
makes ts (s.Negative factor) n =
    let a = makes ts factor (n + 1) in
    record { fits = (refl, a.fits); few = omega (arith, a.few) }
makes ts (s.Plain factor) n = makes ts factor n
makes ts s.Constant n = leaf_fits (constant (nth_token ts n)) 2 (constant_fits (nth_token ts n)) (omega arith)
makes ts (s.Variable kind is) n = record { fits = refl; few = omega arith }
makes ts (s.Call arguments) n =
    let a = makes ts arguments (n + 1 + 1) in
    let g = made ts arguments (n + 1 + 1) in
    let few : size (g (End leaf.NoArguments)) + 0 ≤ 1 + 2 * length (spelling arguments) = a.few (End leaf.NoArguments) in
    record { fits = (refl, a.fits (End leaf.NoArguments) refl); few = omega (arith, few) }
makes ts (s.Absolute steps) n =
    let a = makes ts steps (n + 1) in
    let few : size (made ts steps (n + 1) (End leaf.Root)) + 1 ≤ 1 + 2 * length (spelling steps) = a.few (End leaf.Root) in
    record { fits = a.fits (End leaf.Root) refl; few = omega (arith, few) }
makes ts (s.Relative steps) n =
    let a = makes ts steps n in
    let few : size (made ts steps n (End leaf.Context)) + 1 ≤ 1 + 2 * length (spelling steps) = a.few (End leaf.Context) in
    record { fits = a.fits (End leaf.Context) refl; few = omega (arith, few) }
makes ts (s.Group inner) n =
    let a = makes ts inner (n + 1) in
    let c = both (spelling inner) (k.Close ∷ []) in
    record { fits = a.fits; few = omega (arith, a.few, c) }
makes ts s.NoArguments n = record { fits = λ t fit. fit; few = λ t. omega arith }
makes ts (s.SomeArguments first rest) n =
    let a = makes ts first n in
    let b = makes ts rest (after first n) in
    let c = both (spelling first) (spelling rest) in
    record {
      fits = λ t fit. b.fits (Two binary.Argument t (made ts first n)) (refl, fit, a.fits);
      few = λ t. first_argument (size t) (size (made ts first n)) (size (made ts rest (after first n) (Two binary.Argument t (made ts first n))))
          (length (spelling first)) (length (spelling rest)) (length (spelling first ++ spelling rest))
          a.few (b.few (Two binary.Argument t (made ts first n))) c;
    }
  where
    first_argument : (t a g x y z : ℕ) → a ≤ 2 * x → g + 1 ≤ t + a + 1 + 2 * y → z ≡ x + y → g + 0 ≤ t + 2 * z
    first_argument t a g x y z e f c = omega (arith, e, f, c)
makes ts s.LastArgument n = record { fits = λ t fit. fit; few = λ t. omega arith }
makes ts (s.NextArgument next rest) n =
    let a = makes ts next (n + 1) in
    let b = makes ts rest (after next (n + 1)) in
    let c = both (spelling next) (spelling rest) in
    record {
      fits = λ t fit. b.fits (Two binary.Argument t (made ts next (n + 1))) (refl, fit, a.fits);
      few = λ t. next_argument (size t) (size (made ts next (n + 1))) (size (made ts rest (after next (n + 1)) (Two binary.Argument t (made ts next (n + 1)))))
          (length (spelling next)) (length (spelling rest)) (length (spelling next ++ spelling rest))
          a.few (b.few (Two binary.Argument t (made ts next (n + 1)))) c;
    }
  where
    next_argument : (t a g x y z : ℕ) → a ≤ 2 * x → g + 1 ≤ t + a + 1 + 2 * y → z ≡ x + y → g + 1 ≤ t + 2 * (suc z)
    next_argument t a g x y z e f c = omega (arith, e, f, c)
makes ts (s.DotStep onward) n =
    let b = makes ts onward (n + 1) in
    let u = stepped (nth_token ts n) in
    record {
      fits = λ t fit. b.fits (One u t) (refl, subst (λ (many : Bool). Fits many t) (step_fits (nth_token ts n)) fit);
      few = λ t. one_step (size t) (size (made ts onward (n + 1) (One u t))) (length (spelling onward)) (b.few (One u t));
    }
  where
    step_fits : (t : Token) → false ≡ is_call_of (stepped t)
    step_fits t = by t.form
      where
        by : (form : Form) → false ≡ is_call_of (stepped_by form)
        by f.Parent = refl
        by _ = refl

    one_step : (t g x : ℕ) → g + 0 ≤ t + 1 + 2 * x → g + 1 ≤ t + 2 * (suc x)
    one_step t g x e = omega (arith, e)
makes ts (s.NameStep kind is index onward) n =
    let a = makes ts index (n + 1) in
    let b = makes ts onward (after index (n + 1)) in
    let u = unary.Child (nth_token ts n).span in
    let g = made ts index (n + 1) in
    let c = both (spelling index) (spelling onward) in
    record {
      fits = λ t fit. b.fits (g (One u t)) (a.fits (One u t) (refl, fit));
      few = λ t. named_step (size t) (size (g (One u t))) (size (made ts onward (after index (n + 1)) (g (One u t))))
          (length (spelling index)) (length (spelling onward)) (length (spelling index ++ spelling onward))
          (a.few (One u t)) (b.few (g (One u t))) c;
    }
  where
    named_step : (t i g x y z : ℕ) → i + 0 ≤ t + 1 + 2 * x → g + 0 ≤ i + 2 * y → z ≡ x + y → g + 1 ≤ t + 2 * (suc z)
    named_step t i g x y z e f c = omega (arith, e, f, c)
makes ts s.LastStep n = record { fits = λ t fit. fit; few = λ t. omega arith }
makes ts (s.NextStep steps) n =
    let a = makes ts steps (n + 1) in
    record { fits = a.fits; few = λ t. next_step (size t) (size (made ts steps (n + 1) t)) (length (spelling steps)) (a.few t) }
  where
    next_step : (t g x : ℕ) → g + 1 ≤ t + 2 * x → g + 0 ≤ t + 2 * (suc x)
    next_step t g x e = omega (arith, e)
makes ts s.NoIndex n = record { fits = λ t fit. fit; few = λ t. omega arith }
makes ts (s.AnIndex inner) n =
    let a = makes ts inner (n + 1) in
    let c = both (spelling inner) (k.CloseIndex ∷ []) in
    record {
      fits = λ t fit. (refl, fit, a.fits);
      few = λ t. an_index (size t) (size (made ts inner (n + 1))) (length (spelling inner)) (length (spelling inner ++ k.CloseIndex ∷ [])) a.few c;
    }
  where
    an_index : (t i x z : ℕ) → i ≤ 2 * x → z ≡ x + 1 → t + i + 1 + 0 ≤ t + 2 * (suc z)
    an_index t i x z e c = omega (arith, e, c)
