use Rattle.std.proofs.Common.{[], sym, subst}
use Rattle.dfdl_paths.specs.declared.place.Place.{Place}
use Rattle.dfdl_paths.specs.Spans.{IsSpan}
use Rattle.dfdl_paths.proofs.span.own_span.Goals as goal

pub returns-in-At : goal.returns-in-At
returns-in-At c = λ numbers indexes.
    subst (λ (p : Place). IsSpan numbers c.args.nodes.now p [] indexes c.element_span.result.from c.element_span.result.end) (sym c.in-At.is)
    (c.element_span.ensures numbers indexes)
