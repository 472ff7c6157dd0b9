use Rattle.std.proofs.Common.{ℕ, [], false, ap, refl, sym, ◌∙◌}
use Rattle.dfdl_bits.specs.Window.{Held}
use Rattle.dfdl_looks.specs.Tallies.{nothing}
use Rattle.dfdl_grammar.specs.States.{State}
use Rattle.dfdl_parse.specs.Shown.{limits_of, state_of}
use Rattle.dfdl_parse.specs.Stating.{behind_done}
use Rattle.dfdl_parse.proofs.Statings.{comes-moved, concluded-else, concluded-well, stays-behind}
use Rattle.dfdl_parse.proofs.parser.Parser.conclude.Goals as goal

pub returns-then-is_done-clause-moved : goal.returns-then-is_done-clause-moved
returns-then-is_done-clause-moved c held =
    let old = c.args.self.now in
    let mid = c.state_from.new.parser in
    comes-moved old mid held nothing (behind_done (limits_of old held) c.args.terms.now c.args.behind c.args.start (state_of old)) (refl, refl)
    (concluded-well c.args.terms.now c.args.behind c.args.start c.in_ok-last.last held old mid c.in_ok-last.ensures c.in_ok-state_from.ensures
    (sym c.is_done.ensures ∙ c.if-is_done.true))

pub returns-then-is_done-clause-most : goal.returns-then-is_done-clause-most
returns-then-is_done-clause-most c =
    let any : Held = record { bytes = []; base = 0; size = 0; ended = false } in
    (concluded-well c.args.terms.now c.args.behind c.args.start c.in_ok-last.last any c.args.self.now c.state_from.new.parser c.in_ok-last.ensures
    c.in_ok-state_from.ensures (sym c.is_done.ensures ∙ c.if-is_done.true)).limits

pub returns-then-is_done-clause-at : goal.returns-then-is_done-clause-at
returns-then-is_done-clause-at c =
    let any : Held = record { bytes = []; base = 0; size = 0; ended = false } in
    let old = c.args.self.now in
    ap (λ (s : State). s.at) (concluded-well c.args.terms.now c.args.behind c.args.start c.in_ok-last.last any old c.state_from.new.parser c.in_ok-last.ensures
    c.in_ok-state_from.ensures (sym c.is_done.ensures ∙ c.if-is_done.true)).state
    ∙ stays-behind (limits_of old any) c.args.terms.now c.args.behind c.args.start (state_of old)

pub returns-clause-moved : goal.returns-clause-moved
returns-clause-moved c held =
    let old = c.args.self.now in
    let mid = c.state_from.new.parser in
    comes-moved old (record mid { inside = c.element_of-self.result }) held nothing
    (behind_done (limits_of old held) c.args.terms.now c.args.behind c.args.start (state_of old)) (refl, refl)
    (concluded-else c.args.terms.now c.args.behind c.args.start c.in_ok-last.last held old mid c.in_ok-last.ensures c.in_ok-state_from.ensures
    (record mid { inside = c.element_of-self.result }) (sym c.is_done.ensures ∙ c.if-is_done.false) (ap (λ (n : ℕ). record mid { inside = n }) c.element_of-self.ensures))

pub returns-clause-most : goal.returns-clause-most
returns-clause-most c =
    let any : Held = record { bytes = []; base = 0; size = 0; ended = false } in
    let mid = c.state_from.new.parser in
    (concluded-else c.args.terms.now c.args.behind c.args.start c.in_ok-last.last any c.args.self.now mid c.in_ok-last.ensures c.in_ok-state_from.ensures
    (record mid { inside = c.element_of-self.result }) (sym c.is_done.ensures ∙ c.if-is_done.false) (ap (λ (n : ℕ). record mid { inside = n }) c.element_of-self.ensures)).limits

pub returns-clause-at : goal.returns-clause-at
returns-clause-at c =
    let any : Held = record { bytes = []; base = 0; size = 0; ended = false } in
    let old = c.args.self.now in
    let mid = c.state_from.new.parser in
    ap (λ (s : State). s.at) (concluded-else c.args.terms.now c.args.behind c.args.start c.in_ok-last.last any old mid c.in_ok-last.ensures c.in_ok-state_from.ensures
    (record mid { inside = c.element_of-self.result }) (sym c.is_done.ensures ∙ c.if-is_done.false) (ap (λ (n : ℕ). record mid { inside = n }) c.element_of-self.ensures)).state
    ∙ stays-behind (limits_of old any) c.args.terms.now c.args.behind c.args.start (state_of old)
