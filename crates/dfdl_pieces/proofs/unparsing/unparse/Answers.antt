use Rattle.dfdl_json.specs.Children.{root_row}
use Rattle.dfdl_pieces.proofs.TypedEvents.{element_typed}
use Rattle.dfdl_pieces.proofs.unparsing.unparse.Goals as goal

pub run-requires-clause-typed : goal.run-requires-clause-typed
run-requires-clause-typed c = element_typed c.args.terms.now (root_row c.args.terms.now) c.args.events.now c.requires.fits
