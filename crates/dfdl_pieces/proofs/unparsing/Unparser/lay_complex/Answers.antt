use Rattle.std.proofs.Common.{◌∙◌, ◌∷◌, drop, ap, sym}
use Rattle.dfdl_json.specs.Paths.{path_of}
use Rattle.dfdl_pieces.specs.Laying.{Takes, begins, begun_laying, laid, laying}
use Rattle.dfdl_pieces.specs.Unparsing.{left}
use Rattle.dfdl_pieces.proofs.Moving.{if_ok, moves_missing}
use Rattle.dfdl_pieces.proofs.unparsing.Unparser.lay_complex.Goals as goal

pub returns-then-not-begins-clause-moves : goal.returns-then-not-begins-clause-moves
returns-then-not-begins-clause-moves c =
    let old = c.args.self.now in
    let t = c.args.terms.now in
    let names = c.args.name.now ∷ old.around in
    let inside = laying t c.args.body names (Takes (λ end. left t old.tasks.items old.around)) in
    let rest = drop c.next_event-event.new.at c.args.events.now in
    if_ok c.miss.result _ _ c.miss.ensures.path
    (λ missing missing_is. moves_missing c.args.events.now rest old c.miss.new.self (Takes (λ event. begun_laying names inside (begins c.args.row event)))
    (left t c.miss.new.self.tasks.items c.miss.new.self.around) (path_of names) missing missing_is c.miss.ensures.pieces
    (c.next_event-event.ensures.takes (λ event. begun_laying names inside (begins c.args.row event))
    ∙ ap (λ b. laid (begun_laying names inside b) rest) (sym c.begins.ensures ∙ c.if-not-begins.true)))
