use Rattle.std.proofs.Common.{sym, subst}
use Rattle.dfdl_delims.specs.Lists.{is_text_in}
use Rattle.dfdl_delims.specs.Verdicts.{StandAt}
use Rattle.dfdl_delims.proofs.filling.put_firsts.Goals as goal

pub returns-clause-put : goal.returns-clause-put
returns-clause-put c = λ list place stands. record {
  first = c.in_ok-first.first;
  is = c.in_ok-push.ensures.items;
  tells = c.in_ok-first.ensures place (is_text_in list) (subst (λ l. StandAt c.args.pieces.now l place (is_text_in list)) (sym c.behind.ensures) stands);
}
