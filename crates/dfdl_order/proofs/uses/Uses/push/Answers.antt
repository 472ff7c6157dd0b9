use Rattle.std.proofs.Common.{◌≡◌, ℕ, List, ◌++◌, ◌∷◌, [], ◌∙◌, ap, length, arith}
use Rattle.dfdl_order.specs.UsesShown.{lists_in}
use Rattle.dfdl_order.specs.declared.uses.Span.{Span}
use Rattle.dfdl_order.proofs.Spans.{lists_same, pushed}
use Rattle.dfdl_order.proofs.uses.Uses.push.Goals as goal

pub returns-clause-added : goal.returns-clause-added
returns-clause-added c =
    let parts = c.in_ok-extend_from_slice.ensures.items in
    let old : List ℕ = c.self.inside.parts.items in
    let span : Span = record { begin = c.len-begin.result; end = c.len-end.result } in
    let begin : c.len-begin.result ≡ length old = omega (arith, c.len-begin.ensures) in
    let end : c.len-end.result ≡ length (old ++ c.args.parts.now) = omega (arith, c.len-end.ensures, ap length parts) in
    ap (λ (ps : List ℕ). lists_in ps c.push.new.self.items) parts
    ∙ (ap (λ (ss : List Span). lists_in (old ++ c.args.parts.now) ss) c.in-Ok.ensures.items
    ∙ (pushed old c.args.parts.now c.self.inside.spans.items span begin end c.self.invariant.1
    ∙ ap (λ (xss : List (List ℕ)). xss ++ c.args.parts.now ∷ []) c.self.view_is))

pub returns-in_default-clause-kept : goal.returns-in_default-clause-kept
returns-in_default-clause-kept c =
    ap (λ (ps : List ℕ). lists_in ps c.push.new.self.items) c.in_ok-extend_from_slice.ensures.items
    ∙ (ap (λ (ss : List Span). lists_in (c.self.inside.parts.items ++ c.args.parts.now) ss) c.in_default.ensures.items
    ∙ (lists_same c.self.inside.parts.items c.args.parts.now c.self.inside.spans.items c.self.invariant.1 ∙ c.self.view_is))
