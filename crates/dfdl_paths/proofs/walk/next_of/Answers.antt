use Rattle.std.proofs.Common.{Option, sym, ap, ◌∙◌, subst}
use Rattle.dfdl_expressions.specs.declared.path.Step.{Step}
use Rattle.dfdl_expressions.specs.declared.path.Step.TheVariants.{Up}
use Rattle.dfdl_paths.specs.declared.place.Place.{Place}
use Rattle.dfdl_paths.specs.declared.walk.Next.{Next}
use Rattle.dfdl_paths.specs.Leads.{only_at}
use Rattle.dfdl_paths.specs.Spans.{IsNext}
use Rattle.dfdl_paths.proofs.Follows.{up-one, next-is}
use Rattle.dfdl_paths.proofs.walk.next_of.Goals as goal

pub returns-in-Up : goal.returns-in-Up
returns-in-Up c =
    subst (λ (step : Step). IsNext c.args.names.now c.args.nodes.now step c.args.index c.args.place c.next_in.result) (sym c.in-Up.is)
    (subst (λ (next : Next). IsNext c.args.names.now c.args.nodes.now Up c.args.index c.args.place next) (sym c.next_in.ensures)
    (next-is c.args.names.now c.args.nodes.now Up c.args.index c.args.place c.outer_of.result
    (λ q. up-one c.args.names.now c.args.nodes.now c.args.place q ∙ ap (λ (o : Option Place). only_at o q) (sym c.outer_of.ensures))))
