use Rattle.std.proofs.Common.{◌≡◌, ℕ, ◌-◌, ◌*◌, ◌/◌, ◌≤◌, min, subst, sym, ◌∙◌, ap, arith}
use Rattle.dfdl_bits.specs.Window.{end_of, from_byte}
use Rattle.dfdl_grammar.specs.States.{State, anchor_at}
use Rattle.dfdl_parse.specs.Moves.{Machine}
use Rattle.dfdl_parse.specs.Machines.{fill, fill_move, seen_beyond}
use Rattle.dfdl_parse.specs.Shown.{limits_of, state_of}
use Rattle.dfdl_parse.specs.Steps.{Moved}
use Rattle.dfdl_parse.proofs.Landings.{looked-at}
use Rattle.dfdl_parse.proofs.Lows.{fill-within}
use Rattle.dfdl_parse.proofs.Windows.{end_from}
use Rattle.dfdl_parse.proofs.parser.Parser.pass.Goals as goal

pub returns-clause-moved : goal.returns-clause-moved
returns-clause-moved g c =
    let s : State = state_of c.args.self.now in
    looked-at c.size-window.result c.args.sight.now.size c.anchor_at-low.result (anchor_at s (c.args.to - 1)) c.last_byte.result ((c.args.to - 1) / 8) 1
    (c.look_beyond-seen.new.steps - c.args.steps.now)
    c.look_beyond-seen.new.sight c.look_beyond-seen.result (λ n. from_byte c.args.sight.now (min n (end_of c.args.sight.now))) (λ n k. seen_beyond c.args.sight.now n k)
    c.size-window.ensures.size (c.anchor_at-low.ensures ∙ ap (anchor_at s) c.last_bit.ensures) c.last_byte.ensures.last (omega arith) c.look_beyond-seen.ensures.seen c.look_beyond-seen.ensures.held
    (λ window held sight seen looks. Moved (fill_move window held (anchor_at s (c.args.to - 1)) c.args.to seen c.args.self.now.stack s)
    c.fill.result c.args.self.now.far c.fill.new.self sight looks)
    (c.fill.ensures.moved c.look_beyond-seen.new.sight (anchor_at s (c.args.to - 1)))

pub returns-clause-at : goal.returns-clause-at
returns-clause-at g c =
    let moved = returns-clause-moved g c in
    let s : State = state_of c.args.self.now in
    let low : ℕ = anchor_at s (c.args.to - 1) in
    let base : c.args.sight.now.base ≤ low = c.requires.base.0 in
    let near : ℕ = min low (end_of c.args.sight.now) in
    let at : (fill (limits_of c.args.self.now c.args.sight.now) c.args.sight.now c.args.to c.args.self.now.stack s).machine.state.at ≤ 8 * end_of c.args.sight.now =
    fill-within (limits_of c.args.self.now c.args.sight.now) c.args.sight.now c.args.to c.args.self.now.stack s c.requires.base c.requires.at in
    let is : c.look_beyond-seen.new.sight ≡ from_byte c.args.sight.now near =
    c.look_beyond-seen.ensures.held ∙ ap (λ (n : ℕ). from_byte c.args.sight.now (min n (end_of c.args.sight.now))) (c.anchor_at-low.ensures ∙ ap (anchor_at s) c.last_bit.ensures) in
    let ends : end_of c.look_beyond-seen.new.sight ≡ end_of c.args.sight.now =
    ap end_of is ∙ end_from c.args.sight.now near (omega arith) (omega arith) in
    subst (λ (n : ℕ). c.fill.new.self.at ≤ 8 * n) (sym ends)
    (subst (λ (m : Machine). m.state.at ≤ 8 * end_of c.args.sight.now) (sym moved.machine) at)
