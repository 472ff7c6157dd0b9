use Rattle.dfdl_bits.specs.Window.{seen_at}
use Rattle.dfdl_escapes.proofs.ReadOn.{gives-more, gives-one, marks-more, marks-one, stays-there, stops-there}
use Rattle.dfdl_escapes.proofs.reading.take_step.Goals as goal

pub returns-in_ok-push-in-Gives-clause-turns : goal.returns-in_ok-push-in-Gives-clause-turns
returns-in_ok-push-in-Gives-clause-turns g c = λ opened test more holds decides.
    let scan = c.args.scan.now in
    gives-more (seen_at c.args.window.now) test opened scan.form more c.args.into.now.items scan.at c.step.new.self.at c.in_ok-glance.glance
    c.args.steps.now c.step.new.steps c.args.far c.max-far.result c.in_ok-glance.ensures.steps (c.in_ok-glance.ensures.answers opened test holds decides)
    c.max-far.ensures c.in-Gives.character c.by_scanned.result c.push.new.self.items c.in-Gives.is (c.by_scanned.ensures.shown c.step.new.self.at)
    c.in_ok-push-in-Gives.ensures.items

pub returns-in-Mark-clause-turns : goal.returns-in-Mark-clause-turns
returns-in-Mark-clause-turns g c = λ opened test more holds decides.
    let scan = c.args.scan.now in
    marks-more (seen_at c.args.window.now) test opened scan.form more c.args.into.now.items scan.at c.step.new.self.at c.in_ok-glance.glance
    c.args.steps.now c.step.new.steps c.args.far c.max-far.result c.in_ok-glance.ensures.steps (c.in_ok-glance.ensures.answers opened test holds decides)
    c.max-far.ensures c.by_scanned.result c.in-Mark.is (c.by_scanned.ensures.shown c.step.new.self.at)

pub returns-in-Stops-clause-turns : goal.returns-in-Stops-clause-turns
returns-in-Stops-clause-turns g c = λ opened test more holds decides.
    let scan = c.args.scan.now in
    stops-there (seen_at c.args.window.now) test opened scan.form more c.args.into.now.items scan.at c.step.new.self.at c.in_ok-glance.glance
    c.args.steps.now c.step.new.steps c.args.far c.max-far.result c.in_ok-glance.ensures.steps (c.in_ok-glance.ensures.answers opened test holds decides)
    c.max-far.ensures c.in-Stops.ending c.by_scanned.result c.in-Stops.is (c.by_scanned.ensures.shown c.step.new.self.at)
    (c.in-Stops.ensures.goes scan.at c.step.new.self.at _ c.in_ok-glance.ensures.goes)

pub returns-in_ok-push-in-Gives-clause-passed : goal.returns-in_ok-push-in-Gives-clause-passed
returns-in_ok-push-in-Gives-clause-passed g c = λ opened test begin before holds decides steps.
    gives-one (seen_at c.args.window.now) test opened c.args.scan.now.form begin before c.args.into.now.items c.args.scan.now.at c.step.new.self.at
    c.in_ok-glance.glance _ (c.in_ok-glance.ensures.answers opened test holds decides) steps c.in-Gives.character c.by_scanned.result c.push.new.self.items
    c.in-Gives.is (c.by_scanned.ensures.shown c.step.new.self.at) c.in_ok-push-in-Gives.ensures.items

pub returns-in-Mark-clause-passed : goal.returns-in-Mark-clause-passed
returns-in-Mark-clause-passed g c = λ opened test begin before holds decides steps.
    marks-one (seen_at c.args.window.now) test opened c.args.scan.now.form begin before c.args.into.now.items c.args.scan.now.at c.step.new.self.at
    c.in_ok-glance.glance _ (c.in_ok-glance.ensures.answers opened test holds decides) steps c.by_scanned.result c.in-Mark.is
    (c.by_scanned.ensures.shown c.step.new.self.at)

pub returns-in-Stops-clause-passed : goal.returns-in-Stops-clause-passed
returns-in-Stops-clause-passed g c = λ opened test begin before holds decides steps.
    stays-there (seen_at c.args.window.now) test opened c.args.scan.now.form begin before c.args.into.now.items c.args.scan.now.at c.step.new.self.at
    c.in_ok-glance.glance _ (c.in_ok-glance.ensures.answers opened test holds decides) steps
    (c.in-Stops.ensures.goes c.args.scan.now.at c.step.new.self.at _ c.in_ok-glance.ensures.goes)
