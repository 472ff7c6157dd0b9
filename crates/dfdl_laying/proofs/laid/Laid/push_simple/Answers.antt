use Rattle.dfdl_laying.proofs.Joined.{on_ok, simple_joined}
use Rattle.dfdl_laying.proofs.laid.Laid.push_simple.Goals as goal

pub returns : goal.returns
returns c = on_ok _ _ _ c.lay_simple.ensures
    (simple_joined c.args.component c.in_ok-markup.markup c.args.simple.now c.args.around c.args.value c.args.self.now c.scope.new.self
    c.begin_simple.new.self c.lay_simple.new.self c.in_ok-own.own c.in_ok-markup.ensures.number c.in_ok-markup.ensures.scoped c.in_ok-own.ensures.own
    c.in_ok-own.ensures.begun)
