use Rattle.std.proofs.Common.{◌≡◌, ◌≤◌, ◌⊎◌, inl, inr, ℕ, ◌-◌, ◌++◌, List, IfOk, slice_get, string_bytes, ap, sym, subst, ◌∙◌, arith}
use Rattle.dfdl_grammar.specs.Paths.{outer_of, path_of, path_within}
use Rattle.dfdl_parse.specs.Named.{named}
use Rattle.dfdl_parse.proofs.Paths.{none-named, step-out, last-step}
use Rattle.dfdl_parse.proofs.path.path_of.Goals as goal
use Rattle.dfdl_parse.proofs.path.path_of.Goals.{then-loop-inner-test+else-left-gt0, else-loop-inner-test}

pub loop-inner-init : goal.loop-inner-init
loop-inner-init c =
    none-named c.args.terms.now c.args.nodes.now (path_of c.args.terms.now c.args.nodes.now c.args.number) c.new-numbers.result.items c.new-numbers.ensures.items

pub loop-inner-preserved : goal.loop-inner-preserved
loop-inner-preserved c =
    ap (λ (n : ℕ). path_within c.args.terms.now c.args.nodes.now (c.loop-inner.left - 1) n ++ named c.args.terms.now c.args.nodes.now c.push.new.self.items)
    c.outer_of-inner.ensures
    ∙ ap (λ (ns : List ℕ). path_within c.args.terms.now c.args.nodes.now (c.loop-inner.left - 1) (outer_of (slice_get c.args.nodes.now c.loop-inner.inner))
    ++ named c.args.terms.now c.args.nodes.now ns) c.in_ok-push.ensures.items
    ∙ sym (step-out c.args.terms.now c.args.nodes.now c.loop-inner.left c.loop-inner.inner c.loop-inner.numbers.items (omega arith) (omega arith))
    ∙ c.loop-inner.invariant

pub returns : goal.returns
returns c =
    let none : (c.loop-inner.inner ≤ 0) ⊎ (c.loop-inner.left ≤ 0) = elim c.loop-inner-test.branch [
      | then-loop-inner-test+else-left-gt0 w ↦ inr (omega arith)
      | else-loop-inner-test w ↦ inl (omega arith)
    ] in
    let whole : named c.args.terms.now c.args.nodes.now c.push-2.new.self.items ≡ path_of c.args.terms.now c.args.nodes.now c.args.number =
    ap (λ (ns : List ℕ). named c.args.terms.now c.args.nodes.now ns) c.in_ok-push-2.ensures.items
    ∙ sym (last-step c.args.terms.now c.args.nodes.now c.loop-inner.left c.loop-inner.inner c.loop-inner.numbers.items none)
    ∙ c.loop-inner.invariant in
    subst (λ (bytes : List ℕ). IfOk c.written.result (λ text. string_bytes text ≡ bytes)) whole c.written.ensures
