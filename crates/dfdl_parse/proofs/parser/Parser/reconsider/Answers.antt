use Rattle.std.proofs.Common.{◌-◌, ap, ◌∙◌}
use Rattle.dfdl_parse.specs.Moves.{Machine}
use Rattle.dfdl_parse.specs.Shown.{state_of}
use Rattle.dfdl_parse.proofs.Statings.{stays-again}
use Rattle.dfdl_parse.proofs.parser.Parser.reconsider.Goals as goal

pub returns-clause-at : goal.returns-clause-at
returns-clause-at c =
    ap (λ (m : Machine). m.state.at) c.in_ok-reconsider_from.ensures.machine
    ∙ stays-again c.args.terms.now c.args.start c.args.behind.first (c.in_ok-last.last - c.args.behind.first) (state_of c.args.self.now)
