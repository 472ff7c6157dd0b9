use Rattle.std.proofs.Common.{map}
use Rattle.std.specs.BTreeSet.{contains}
use Rattle.std.specs.Cmp.Lexicographic.{slice_cmp}
use Rattle.std.specs.Ordering.{nat_cmp}
use Rattle.dfdl_rows.specs.Looking.{side_of, stand_of}
use Rattle.dfdl_rows.proofs.Kept.{turned_is}
use Rattle.dfdl_rows.proofs.Named.{close_step, turn_step}
use Rattle.dfdl_rows.proofs.looking.Looking.step.Goals as goal

pub returns-in_ok-turn-in-Turn-clause-step : goal.returns-in_ok-turn-in-Turn-clause-step
returns-in_ok-turn-in-Turn-clause-step c =
    turn_step c.args.components.now c.args.task c.args.self.now.tasks.items (stand_of c.args.self.now.level c.args.self.now.outer.items)
    (stand_of c.turn.new.level c.args.self.now.outer.items) (contains (λ x y. slice_cmp nat_cmp x.now y.now) c.args.self.now.names)
    (contains (λ x y. slice_cmp nat_cmp x.now y.now) c.turn.new.names) c.in-Turn.is c.requires.kept c.in_ok-turn-in-Turn.ensures.names
    (turned_is c.args.self.now.level.own.items c.args.self.now.level.others.items c.turn.new.level.own.items c.turn.new.level.others.items
    (map side_of c.args.self.now.outer.items) c.in_ok-turn-in-Turn.ensures.own c.in_ok-turn-in-Turn.ensures.others)

pub returns-in_ok-close-in-Close-clause-step : goal.returns-in_ok-close-in-Close-clause-step
returns-in_ok-close-in-Close-clause-step c =
    close_step c.args.components.now c.args.task c.args.self.now.tasks.items c.close.new.self.tasks.items
    (stand_of c.args.self.now.level c.args.self.now.outer.items) (stand_of c.close.new.self.level c.close.new.self.outer.items)
    (contains (λ x y. slice_cmp nat_cmp x.now y.now) c.close.new.self.names) c.in-Close.is c.in_ok-close-in-Close.ensures.tasks
    c.in_ok-close-in-Close.ensures.kept c.in_ok-close-in-Close.ensures.stand
