use Rattle.std.proofs.Common.{Bool, ◌∙◌, List, false, sym, subst, arith}
use Rattle.dfdl_expression_tree.specs.declared.token.Token.{Token}
use Rattle.dfdl_expression_tree.specs.Lexing.{ends_operand}
use Rattle.dfdl_expression_tree.specs.Readings.{tokens_of}
use Rattle.dfdl_expression_tree.proofs.Ahead.{Ahead, ahead_none, ahead_some, ahead_first}
use Rattle.dfdl_expression_tree.proofs.lexing.tokens_of.Goals as goal

pub loop-token-init : goal.loop-token-init
loop-token-init c = record {
  within = omega arith;
  ahead = λ count reads.
      subst (λ (l : List Token). Ahead c.args.bytes.now 0 false l (tokens_of reads)) (sym c.new-tokens.ensures.items)
      (ahead_first c.args.bytes.now count reads);
}

pub loop-token-preserved : goal.loop-token-preserved
loop-token-preserved c = record {
  within = c.in-Some.ensures.within;
  ahead = λ count reads.
      let bytes = c.args.bytes.now in
      let next = ahead_some bytes c.loop-token.at c.loop-token.ended c.loop-token.tokens.items (tokens_of reads) c.in-Some.token
      (c.loop-token.invariant.ahead count reads) (sym c.next_token.ensures.token ∙ c.in-Some.is) in
      let kept = subst (λ (l : List Token). Ahead bytes c.in-Some.token.span.to (ends_operand c.in-Some.token.kind) l (tokens_of reads))
      (sym c.in_ok-push.ensures.items) next in
      subst (λ (b : Bool). Ahead bytes c.in-Some.token.span.to b c.push.new.self.items (tokens_of reads))
      (sym c.ends_operand-ended.ensures) kept;
}

pub returns : goal.returns
returns c = λ count reads.
    ahead_none _ c.loop-token.at c.loop-token.ended c.loop-token.tokens.items _ (c.loop-token.invariant.ahead count reads)
    (sym c.next_token.ensures.token ∙ c.in_default.is)
