use Rattle.std.proofs.Common.{ℕ, List, bytes_eq, ap, sym, ◌∙◌}
use Rattle.std.specs.List.{find}
use Rattle.dfdl_forms.specs.declared.simple.Simple.TheVariants as simple
use Rattle.dfdl_expression_types.specs.Callees.{name_of}
use Rattle.dfdl_expression_types.proofs.Finding.{found_at}
use Rattle.dfdl_expression_types.proofs.naming.simple_named.Goals as goal

pub returns-then-eq : goal.returns-then-eq
returns-then-eq c =
    found_at (λ s. bytes_eq (name_of s) c.args.local.now) c.simple_types-simple-items.result.now c.loop-simple.simple-index simple.String c.loop-simple-test.true c.loop-simple.invariant
    (sym (ap (λ (t : List ℕ). bytes_eq t c.args.local.now) (c.as_bytes.ensures.value ∙ c.name_of.ensures)) ∙ (sym c.eq.ensures ∙ c.if-eq.true))
    ∙ ap (find (λ s. bytes_eq (name_of s) c.args.local.now)) c.simple_types-simple-items.ensures
