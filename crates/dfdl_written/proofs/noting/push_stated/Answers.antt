use Rattle.std.proofs.Common.{◌≡◌, ◌∙◌, ◌++◌, ap}
use Rattle.dfdl_report.specs.declared.place.Place.{Place}
use Rattle.dfdl_breaches.specs.Elements.{place_of}
use Rattle.dfdl_written.specs.Noting.{noted_expressions, noted_parts}
use Rattle.dfdl_written.proofs.Told.{expressions_behind, more_within}
use Rattle.dfdl_written.proofs.noting.push_stated.Goals as goal

pub returns-clause-noted : goal.returns-clause-noted
returns-clause-noted c =
    let documents = c.args.schema.now in
    let own = c.args.site in
    let stated = c.args.stated in
    let place : c.place-place.result ≡ place_of documents own = λ i. record { document = c.place-place.ensures.document i; at = c.place-place.ensures.at i } in
    expressions_behind documents own stated c.args.noted.now.items c.push_parts.new.noted.items c.push_expressions.new.noted.items
    (c.in_ok-push_parts.ensures
    ∙ ap (λ (p : Place). c.args.noted.now.items ++ noted_parts documents p own stated.tests stated.settings stated.checks) place)
    (c.in_ok-push_expressions.ensures.noted
    ∙ ap (λ (p : Place). c.push_parts.new.noted.items ++ noted_expressions documents p own stated.output stated.calculation stated.measure stated.count stated.key) place)

pub returns-clause-within : goal.returns-clause-within
returns-clause-within c =
    more_within c.args.schema.now c.place-place.result c.args.site c.args.stated c.args.noted.now.items c.push_parts.new.noted.items c.push_expressions.new.noted.items
    c.in_ok-push_parts.ensures c.in_ok-push_expressions.ensures.noted c.requires.site c.requires.stated c.requires.within c.in_ok-push_expressions.ensures.within
