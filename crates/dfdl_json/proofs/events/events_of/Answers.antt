use Rattle.serde_json.specs.View.{view}
use Rattle.dfdl_json.proofs.Answered.{IsAnswered, found_answer, answer_fits}
use Rattle.dfdl_json.specs.Infosets.{events_in}
use Rattle.dfdl_json.proofs.events.events_of.Goals as goal

answered : (c : goal.After-answer) → IsAnswered (events_in c.args.terms.now (view c.args.value.now)) c.answer.result
answered c =
    found_answer c.args.terms.now (view c.args.value.now) (view c.in-Some.content.now) c.name_of.result.now c.root_row-root.result c.in_ok-found-in-Some.found c.answer.result
    c.root_row-root.ensures.row c.name_of.ensures c.in-Some.ensures c.in_ok-found-in-Some.ensures c.answer.ensures

pub returns-in_ok-found-in-Some-clause-answer : goal.returns-in_ok-found-in-Some-clause-answer
returns-in_ok-found-in-Some-clause-answer c = answered c

pub returns-in_ok-found-in-Some-clause-fits : goal.returns-in_ok-found-in-Some-clause-fits
returns-in_ok-found-in-Some-clause-fits c = answer_fits c.args.terms.now (view c.args.value.now) c.answer.result c.root_row-root.ensures.nests c.requires (answered c)
