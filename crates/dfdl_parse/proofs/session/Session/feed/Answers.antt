use Rattle.std.proofs.Common.{◌-◌, ◌+◌, ℕ, ap, subst, ◌∙◌, arith}
use Rattle.dfdl_parse.specs.Sessions.{Finished}
use Rattle.dfdl_parse.proofs.Pieces.{done_taken, fed_done, fed_far, fed_held, fed_more, given_finished, given_on, given_sound, ran_end, ran_on, ran_reaches, ran_sound}
use Rattle.dfdl_parse.proofs.session.Session.feed.Goals as goal

pub returns-then-waits-clause-far : goal.returns-then-waits-clause-far
returns-then-waits-clause-far g c more stream start spent allowed stands =
    fed_far c.args.self.now c.args.piece.now c.append_all.new.self (c.can_go_on.ensures.ready (cc)).sound (c.can_go_on.ensures.ready (cc)).ended
    c.in_default.ensures.held
    stream start spent allowed stands c.run.new.self (c.run.new.steps - c.args.steps.now) c.in_ok-waits.ensures.same.1
    (ap (λ terms. terms.now) c.in_ok-waits.ensures.same.0) c.in_ok-waits.ensures.same.2 (c.in_ok-waits.ensures.kept ∙ (c.can_go_on.ensures.ready (cc)).sound.memory) (c.in_ok-waits.ensures.waits (cc))

pub returns-then-waits-clause-held : goal.returns-then-waits-clause-held
returns-then-waits-clause-held g c more stream start spent allowed stands =
    fed_held c.args.self.now c.args.piece.now c.append_all.new.self (c.can_go_on.ensures.ready (cc)).sound (c.can_go_on.ensures.ready (cc)).ended
    c.in_default.ensures.held
    stream start spent allowed stands c.run.new.self (c.run.new.steps - c.args.steps.now) c.in_ok-waits.ensures.same.1
    (ap (λ terms. terms.now) c.in_ok-waits.ensures.same.0) c.in_ok-waits.ensures.same.2 (c.in_ok-waits.ensures.kept ∙ (c.can_go_on.ensures.ready (cc)).sound.memory) (c.in_ok-waits.ensures.waits (cc))

pub returns-then-waits-clause-more : goal.returns-then-waits-clause-more
returns-then-waits-clause-more g c more stream start spent allowed stands =
    fed_more c.args.self.now c.args.piece.now c.append_all.new.self (c.can_go_on.ensures.ready (cc)).sound (c.can_go_on.ensures.ready (cc)).ended
    c.in_default.ensures.held
    stream start spent allowed stands c.run.new.self (c.run.new.steps - c.args.steps.now) c.in_ok-waits.ensures.same.1
    (ap (λ terms. terms.now) c.in_ok-waits.ensures.same.0) c.in_ok-waits.ensures.same.2 (c.in_ok-waits.ensures.kept ∙ (c.can_go_on.ensures.ready (cc)).sound.memory) (c.in_ok-waits.ensures.waits (cc))

pub give_back-taken-requires-clause-base : goal.give_back-taken-requires-clause-base
give_back-taken-requires-clause-base g c =
    let slid = (c.in_ok-waits.ensures.ended (cc)).slid in
    let reaches = ran_reaches c.args.self.now c.run.new.self c.append_all.new.self c.args.piece.now (c.can_go_on.ensures.ready (cc)) c.in_default.ensures.held slid
    c.end-before.result c.end-before.ensures.end (c.in_ok-waits.ensures.over (cc)) c.in_ok-waits.ensures.reaches in
    let low = reaches.0 in
    omega arith

pub give_back-taken-requires-clause-end : goal.give_back-taken-requires-clause-end
give_back-taken-requires-clause-end g c =
    let slid = (c.in_ok-waits.ensures.ended (cc)).slid in
    let ends = ran_end c.args.self.now c.run.new.self c.append_all.new.self c.args.piece.now (c.can_go_on.ensures.ready (cc)) c.in_default.ensures.held slid in
    let on = ran_on c.args.self.now c.run.new.self c.append_all.new.self c.args.piece.now (c.can_go_on.ensures.ready (cc)) c.in_default.ensures.held slid in
    let seen = c.in_ok-waits.ensures.seen on in
    omega (arith, c.end-before.ensures.end, ends)

pub returns-clause-ready : goal.returns-clause-ready
returns-clause-ready g c =
    let slid = (c.in_ok-waits.ensures.ended (cc)).slid in
    let reaches = ran_reaches c.args.self.now c.run.new.self c.append_all.new.self c.args.piece.now (c.can_go_on.ensures.ready (cc)) c.in_default.ensures.held slid
    c.end-before.result c.end-before.ensures.end (c.in_ok-waits.ensures.over (cc)) c.in_ok-waits.ensures.reaches in
    let ends = ran_end c.args.self.now c.run.new.self c.append_all.new.self c.args.piece.now (c.can_go_on.ensures.ready (cc)) c.in_default.ensures.held slid in
    let on = ran_on c.args.self.now c.run.new.self c.append_all.new.self c.args.piece.now (c.can_go_on.ensures.ready (cc)) c.in_default.ensures.held slid in
    let sound = ran_sound c.args.self.now c.run.new.self c.append_all.new.self c.args.piece.now (c.can_go_on.ensures.ready (cc)) c.in_default.ensures.held slid
    c.in_ok-waits.ensures.same.1 c.in_ok-waits.ensures.most c.in_ok-waits.ensures.seen c.in_ok-waits.ensures.low c.in_ok-waits.ensures.at
    c.in_ok-waits.ensures.registered c.in_ok-waits.ensures.kept in
    record {
      sound = given_sound c.args.self.now c.run.new.self c.give_back-taken.new.self c.args.piece.now c.end-before.result c.give_back-taken.result c.end-before.ensures.end
          sound on reaches (omega (arith, c.end-before.ensures.end, ends)) c.give_back-taken.ensures.held c.give_back-taken.ensures.same c.give_back-taken.ensures.taken;
      ended = given_on c.args.self.now c.run.new.self c.give_back-taken.new.self c.args.piece.now c.end-before.result c.give_back-taken.result c.end-before.ensures.end
          sound on reaches (omega (arith, c.end-before.ensures.end, ends)) c.give_back-taken.ensures.held c.give_back-taken.ensures.same c.give_back-taken.ensures.taken;
    }

pub returns-clause-done : goal.returns-clause-done
returns-clause-done g c taken told stream start spent allowed stands =
    let slid = (c.in_ok-waits.ensures.ended (cc)).slid in
    let reaches = ran_reaches c.args.self.now c.run.new.self c.append_all.new.self c.args.piece.now (c.can_go_on.ensures.ready (cc)) c.in_default.ensures.held slid
    c.end-before.result c.end-before.ensures.end (c.in_ok-waits.ensures.over (cc)) c.in_ok-waits.ensures.reaches in
    let ends = ran_end c.args.self.now c.run.new.self c.append_all.new.self c.args.piece.now (c.can_go_on.ensures.ready (cc)) c.in_default.ensures.held slid in
    let on = ran_on c.args.self.now c.run.new.self c.append_all.new.self c.args.piece.now (c.can_go_on.ensures.ready (cc)) c.in_default.ensures.held slid in
    let sound = ran_sound c.args.self.now c.run.new.self c.append_all.new.self c.args.piece.now (c.can_go_on.ensures.ready (cc)) c.in_default.ensures.held slid
    c.in_ok-waits.ensures.same.1 c.in_ok-waits.ensures.most c.in_ok-waits.ensures.seen c.in_ok-waits.ensures.low c.in_ok-waits.ensures.at
    c.in_ok-waits.ensures.registered c.in_ok-waits.ensures.kept in
    let comes = fed_done c.args.self.now c.args.piece.now c.append_all.new.self (c.can_go_on.ensures.ready (cc)).sound (c.can_go_on.ensures.ready (cc)).ended
    c.in_default.ensures.held
    stream start spent allowed stands c.run.new.self (c.run.new.steps - c.args.steps.now) c.in_ok-waits.ensures.same.1
    (ap (λ terms. terms.now) c.in_ok-waits.ensures.same.0) c.in_ok-waits.ensures.same.2 (c.in_ok-waits.ensures.kept ∙ (c.can_go_on.ensures.ready (cc)).sound.memory)
    (c.in_ok-waits.ensures.ended (cc)) (c.in_ok-waits.ensures.over (cc)) in
    subst (λ (n : ℕ). Finished c.args.self.now c.give_back-taken.new.self stream c.args.piece.now n (spent + (c.run.new.steps - c.args.steps.now)) allowed)
    (done_taken c.give_back-taken.result taken told)
    (given_finished c.args.self.now c.run.new.self c.give_back-taken.new.self c.args.piece.now c.end-before.result c.give_back-taken.result c.end-before.ensures.end
    sound on reaches (omega (arith, c.end-before.ensures.end, ends)) c.give_back-taken.ensures.held c.give_back-taken.ensures.same c.give_back-taken.ensures.taken
    stream (spent + (c.run.new.steps - c.args.steps.now)) allowed stands.taken.all ends comes)
