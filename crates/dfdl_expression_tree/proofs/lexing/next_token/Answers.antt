use Rattle.std.proofs.Common.{◌+◌, ◌∙◌, ap, sym, drop, Some, arith}
use Rattle.dfdl_expression_tree.specs.Lexing.{rest_of}
use Rattle.dfdl_expression_tree.proofs.Next.{next_is}
use Rattle.dfdl_expression_tree.proofs.lexing.next_token.Goals as goal

pub returns-clause-token : goal.returns-clause-token
returns-clause-token c =
    let from = c.end_of-from.result in
    let end = c.end_of-to.ensures.end ∙ ap (λ q. from + 1 + rest_of q (drop (from + 1) c.args.bytes.now)) c.begun.ensures in
    ap Some c.token_by.ensures
    ∙ sym (next_is c.args.bytes.now c.args.at from c.end_of-to.result c.args.ended c.end_of-from.ensures.end (omega arith) end)
