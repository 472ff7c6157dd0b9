use Rattle.std.proofs.Common.{◌∙◌, ◌∷◌, drop, ap, sym}
use Rattle.dfdl_json.specs.Paths.{path_of}
use Rattle.dfdl_pieces.specs.Laying.{Lays, Takes, piece_by, form_at, laid, value_for, value_laying}
use Rattle.dfdl_pieces.proofs.Moving.{if_ok, laid_piece, moves_missing, value_of_form}
use Rattle.dfdl_pieces.proofs.unparsing.Unparser.lay_simple.Goals as goal

pub returns-in_default-clause-moves : goal.returns-in_default-clause-moves
returns-in_default-clause-moves c =
    let old = c.args.self.now in
    let names = c.args.name.now ∷ old.around in
    let form = form_at c.args.terms.now c.args.body in
    let rest = drop c.next_event-event.new.at c.args.events.now in
    if_ok c.miss.result _ _ c.miss.ensures.path
    (λ missing missing_is more. moves_missing c.args.events.now rest old c.miss.new.self (Takes (λ event. value_laying names form more (value_for c.args.row event))) more
    (path_of names) missing missing_is c.miss.ensures.pieces
    (c.next_event-event.ensures.takes (λ event. value_laying names form more (value_for c.args.row event))
    ∙ ap (λ v. laid (value_laying names form more v) rest) (sym c.in_default.ensures)))

pub piece-requires-clause-typed : goal.piece-requires-clause-typed
piece-requires-clause-typed c =
    value_of_form c.args.terms.now c.args.row c.args.events.now c.args.self.now.at _ c.in-Some.value.now c.in-Some-form_at.form.now c.args.name.now c.args.kind c.requires.row.0 c.requires.row.1 c.args.body
    c.requires.row.2 c.requires.typed c.requires.whole c.next_event-event.ensures.one c.in-Some.ensures c.in-Some-form_at.ensures

pub returns-clause-moves : goal.returns-clause-moves
returns-clause-moves c = λ more.
    let old = c.args.self.now in
    let names = c.args.name.now ∷ old.around in
    let rest = drop c.next_event-event.new.at c.args.events.now in
    let value = c.in-Some.value.now in
    laid_piece old.pieces c.push.new.self (Takes (λ event. value_laying names (form_at c.args.terms.now c.args.body) more (value_for c.args.row event))) more
    (drop old.at c.args.events.now) rest c.piece.result
    (c.next_event-event.ensures.takes (λ event. value_laying names (form_at c.args.terms.now c.args.body) more (value_for c.args.row event))
    ∙ (ap (λ v. laid (value_laying names (form_at c.args.terms.now c.args.body) more v) rest) (sym c.in-Some.ensures)
    ∙ (ap (λ o. laid (Lays (piece_by o value) more) rest) (sym c.in-Some-form_at.ensures)
    ∙ ap (λ p. laid (Lays p more) rest) (sym c.piece.ensures))))
    c.in_ok-push.ensures
