use Rattle.std.proofs.Common.{◌≡◌, ℕ, List, subst}
use Rattle.dfdl_expression_text.specs.Expressions.{ReadsBytes}
use Rattle.dfdl_expression_tree.specs.Readings.{tokens_of}
use Rattle.dfdl_expression_tree.proofs.reading.tokens.Goals as goal

pub returns-clause-tokens : goal.returns-clause-tokens
returns-clause-tokens c =
    let (count, few, reads) = c.in_ok-check.ensures.expression in
    let found = subst (λ (bytes : List ℕ). (n : ℕ) (r : ReadsBytes n bytes) → c.in_ok-tokens_of.field-0.items ≡ tokens_of r)
    c.as_bytes.ensures.value c.in_ok-tokens_of.ensures in
    (count, few, reads, found count reads)
