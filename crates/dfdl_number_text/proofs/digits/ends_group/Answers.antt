use Rattle.std.proofs.Common.{◌==◌, ◌&&◌, not, ap, sym, ◌∙◌}
use Rattle.std.proofs.lemmas.Bool.{ne_eqb}
use Rattle.dfdl_number_text.proofs.Grouping.{ends_is}
use Rattle.dfdl_number_text.proofs.digits.ends_group.Goals as goal

pub returns-then-in_group-ne0-clause-group : goal.returns-then-in_group-ne0-clause-group
returns-then-in_group-ne0-clause-group c = λ behind is.
    ap (λ b. not b && (c.args.in_group == c.args.size)) (sym (ne_eqb c.args.in_group 0 c.if-in_group-ne0.true))
    ∙ ends_is c.args.size behind c.args.in_group is
