use Rattle.std.proofs.Common.{◌≡◌, ℕ, ◌-◌, ◌*◌, ◌/◌, ◌≤◌, min, refl, subst, sym, ◌∙◌, ap, arith}
use Rattle.dfdl_bits.specs.Window.{end_of, from_byte}
use Rattle.dfdl_grammar.specs.States.{State, anchor_at}
use Rattle.dfdl_parse.specs.Moves.{Machine}
use Rattle.dfdl_parse.specs.Machines.{pass_rest, rest_move, seen_beyond}
use Rattle.dfdl_parse.specs.Shown.{limits_of, state_of}
use Rattle.dfdl_parse.specs.Steps.{Moved}
use Rattle.dfdl_parse.proofs.Landings.{looked-at}
use Rattle.dfdl_parse.proofs.Lows.{rest-within}
use Rattle.dfdl_parse.proofs.Windows.{end_from}
use Rattle.dfdl_parse.proofs.parser.Parser.pass_rest.Goals as goal

pub returns-clause-moved : goal.returns-clause-moved
returns-clause-moved g c =
    let s : State = state_of c.args.self.now in
    let byte : ℕ = c.args.bit / 8 in
    looked-at c.size-window.result c.args.sight.now.size c.anchor_at-low.result (anchor_at s (8 * byte)) byte byte 1
    (c.look_beyond-seen.new.steps - c.args.steps.now)
    c.look_beyond-seen.new.sight c.look_beyond-seen.result (λ n. from_byte c.args.sight.now (min n (end_of c.args.sight.now))) (λ n k. seen_beyond c.args.sight.now n k)
    c.size-window.ensures.size c.anchor_at-low.ensures refl (omega arith) c.look_beyond-seen.ensures.seen c.look_beyond-seen.ensures.held
    (λ window held sight seen looks. Moved (rest_move window held (anchor_at s (8 * byte)) c.args.bit c.args.outer seen c.args.self.now.stack s)
    c.past_byte.result c.args.self.now.far c.past_byte.new.self sight looks)
    (c.past_byte.ensures.moved c.look_beyond-seen.new.sight (anchor_at s (8 * byte)))

pub returns-clause-at : goal.returns-clause-at
returns-clause-at g c =
    let moved = returns-clause-moved g c in
    let s : State = state_of c.args.self.now in
    let low : ℕ = anchor_at s (8 * (c.args.bit / 8)) in
    let base : c.args.sight.now.base ≤ low = c.requires.base.0 in
    let near : ℕ = min low (end_of c.args.sight.now) in
    let at : (pass_rest (limits_of c.args.self.now c.args.sight.now) c.args.sight.now c.args.bit c.args.outer c.args.self.now.stack s).machine.state.at
    ≤ 8 * end_of c.args.sight.now =
    rest-within (limits_of c.args.self.now c.args.sight.now) c.args.sight.now c.args.bit c.args.outer c.args.self.now.stack s c.requires.base c.requires.at in
    let is : c.look_beyond-seen.new.sight ≡ from_byte c.args.sight.now near =
    c.look_beyond-seen.ensures.held ∙ ap (λ (n : ℕ). from_byte c.args.sight.now (min n (end_of c.args.sight.now))) c.anchor_at-low.ensures in
    let ends : end_of c.look_beyond-seen.new.sight ≡ end_of c.args.sight.now =
    ap end_of is ∙ end_from c.args.sight.now near (omega arith) (omega arith) in
    subst (λ (n : ℕ). c.past_byte.new.self.at ≤ 8 * n) (sym ends)
    (subst (λ (m : Machine). m.state.at ≤ 8 * end_of c.args.sight.now) (sym moved.machine) at)
