-- A path by the numbers that lead outwards.
use Rattle.std.proofs.Common.{◌≡◌, ℕ, zero, suc, ◌-◌, ◌<◌, ◌≤◌, ◌⊎◌, inl, inr, List, [], ◌∷◌, ◌++◌, codes, ap, sym, ◌∙◌, arith, append_assoc, Bool, true, false, cond, Some, decimal}
use Rattle.std.specs.Prelude.{slice_get}
use Rattle.std.proofs.lemmas.List.{append-nil}
use Rattle.dfdl_terms.specs.Rows.{Table}
use Rattle.dfdl_terms.specs.Arrays.{MarksItems, is_marked}
use Rattle.dfdl_region.specs.declared.node.Node.{Node}
use Rattle.dfdl_grammar.specs.Paths.{node_name, outer_of, path_within, place_of, place_text, step_to}
use Rattle.dfdl_parse.specs.Named.{named}

module _ (table : Table) (nodes : List Node) where
  -- a number more at the end is the first name
  pub named-last : (numbers : List ℕ) (number : ℕ) → named table nodes (numbers ++ number ∷ []) ≡ step_to table nodes number ++ named table nodes numbers
  unfolding named
  named-last [] number = sym (append-nil (step_to table nodes number))
  named-last (first ∷ rest) number =
      ap (λ (text : List ℕ). text ++ step_to table nodes first) (named-last rest number)
      ∙ append_assoc (step_to table nodes number) (named table nodes rest) (step_to table nodes first)

  -- one step outwards
  pub step-out : (left number : ℕ) (numbers : List ℕ) → 0 < left → 0 < number
      → path_within table nodes left number ++ named table nodes numbers
      ≡ path_within table nodes (left - 1) (outer_of (slice_get nodes number)) ++ named table nodes (numbers ++ number ∷ [])
  unfolding path_within
  step-out zero number numbers more inner = absurd (omega arith)
  step-out (suc left) zero numbers more inner = absurd (omega arith)
  step-out (suc left) (suc number) numbers more inner =
      let outer : List ℕ = path_within table nodes left (outer_of (slice_get nodes (suc number))) in
      let less : left ≡ suc left - 1 = omega arith in
      append_assoc outer (step_to table nodes (suc number)) (named table nodes numbers)
      ∙ ap (λ (text : List ℕ). outer ++ text) (sym (named-last numbers (suc number)))
      ∙ ap (λ (n : ℕ). path_within table nodes n (outer_of (slice_get nodes (suc number))) ++ named table nodes (numbers ++ suc number ∷ [])) less

  -- the last step
  pub last-step : (left number : ℕ) (numbers : List ℕ) → (number ≤ 0) ⊎ (left ≤ 0)
      → path_within table nodes left number ++ named table nodes numbers ≡ named table nodes (numbers ++ number ∷ [])
  unfolding path_within
  last-step zero zero numbers none = sym (named-last numbers zero)
  last-step (suc left) zero numbers none = sym (named-last numbers zero)
  last-step zero (suc number) numbers none = sym (named-last numbers (suc number))
  last-step (suc left) (suc number) numbers (inl none) = absurd (omega arith)
  last-step (suc left) (suc number) numbers (inr none) = absurd (omega arith)

  -- no names yet
  pub none-named : (text numbers : List ℕ) → numbers ≡ [] → text ++ named table nodes numbers ≡ text
  unfolding named
  none-named text numbers none = ap (λ (ns : List ℕ). text ++ named table nodes ns) none ∙ append-nil text

  -- a step put behind the text is the last one no more
  pub put-step : (text : List ℕ) (numbers : List ℕ) (number : ℕ)
      → (((text ++ codes "/") ++ node_name table (slice_get nodes number)) ++ place_text table nodes number (slice_get nodes number)) ++ named table nodes numbers
      ≡ text ++ named table nodes (numbers ++ number ∷ [])
  put-step text numbers number =
      let name : List ℕ = node_name table (slice_get nodes number) in
      let place : List ℕ = place_text table nodes number (slice_get nodes number) in
      let rest : List ℕ = named table nodes numbers in
      ap (λ (t : List ℕ). t ++ rest) (append_assoc (text ++ codes "/") name place ∙ append_assoc text (codes "/") (name ++ place))
      ∙ (append_assoc text (step_to table nodes number) rest
      ∙ ap (λ (t : List ℕ). text ++ t) (sym (named-last numbers number)))

  -- the place of an item, put behind a text in three pieces
  pub put-place : (marks : List Bool) (number place : ℕ) (node : Node) (text one two three digits : List ℕ) → MarksItems table.rows marks
      → slice_get nodes number ≡ Some node → is_marked marks node.element ≡ true → place ≡ place_of nodes number node → digits ≡ decimal place
      → one ≡ text ++ codes "[" → two ≡ one ++ digits → three ≡ two ++ codes "]"
      → three ≡ text ++ place_text table nodes number (slice_get nodes number)
  put-place marks number place node text one two three digits marked is has place_is digits_are first second third =
      third
      ∙ (ap (λ (t : List ℕ). t ++ codes "]") (second ∙ (ap (λ (t : List ℕ). t ++ digits) first ∙ append_assoc text (codes "[") digits))
      ∙ (append_assoc text (codes "[" ++ digits) (codes "]")
      ∙ ap (λ (t : List ℕ). text ++ t) (append_assoc (codes "[") digits (codes "]")
      ∙ (ap (λ (ds : List ℕ). codes "[" ++ (ds ++ codes "]")) (digits_are ∙ ap decimal place_is)
      ∙ (ap (λ (b : Bool). cond b (codes "[" ++ (decimal (place_of nodes number node) ++ codes "]")) []) (sym has ∙ marked node.element)
      ∙ ap (place_text table nodes number) (sym is))))))

  -- no other element has a place
  pub put-none : (marks : List Bool) (number : ℕ) (node : Node) (text : List ℕ) → MarksItems table.rows marks
      → slice_get nodes number ≡ Some node → is_marked marks node.element ≡ false
      → text ≡ text ++ place_text table nodes number (slice_get nodes number)
  put-none marks number node text marked is has =
      sym (append-nil text)
      ∙ ap (λ (t : List ℕ). text ++ t) (ap (λ (b : Bool). cond b (codes "[" ++ (decimal (place_of nodes number node) ++ codes "]")) []) (sym has ∙ marked node.element)
      ∙ ap (place_text table nodes number) (sym is))
