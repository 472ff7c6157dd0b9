use Rattle.std.proofs.Common.{◌≡◌, ◌*◌, nat_lt, None, length, refl, sym, subst, ◌∙◌}
use Rattle.dfdl_suspend.specs.Rounds.{solution}
use Rattle.dfdl_unparse.specs.Documents.{told}
use Rattle.dfdl_unparse.specs.Fronts.{HasTaken, HasTakenFront, front as front_of, whole}
use Rattle.dfdl_unparse.specs.Splices.{IsSpliced}
use Rattle.dfdl_unparse.specs.Unparsers.{first_limit, held_back}
use Rattle.dfdl_unparse.proofs.Takings.{none_held, none_more, taken_front, taken_now}
use Rattle.dfdl_unparse.proofs.stepping.take_event.Goals as goal

pub returns-in-Ok-write_known-clause-limit : goal.returns-in-Ok-write_known-clause-limit
returns-in-Ok-write_known-clause-limit g c =
    let document = c.bring.new.document in
    let same : c.run_known.new.document ≡ document = c.run_known.ensures.same in
    let had = g.D.Document.pieces c.args.document.now in
    let pieces = g.D.Document.pieces document in
    let equation = g.D.Equations.equation document in
    let start = c.args.board.now.known in
    let brought = c.in-Ok.ensures in
    let ran = c.in-Ok-run_known.ensures in
    let mid = c.bring.new.board.known in
    let now = c.run_known.new.board.known in
    let splice = c.run_known.new.front in
    let spliced : IsSpliced pieces.order (told pieces now) (whole (front_of (told pieces mid))) splice = ran.spliced in
    let held = none_held had pieces equation start mid now splice brought.known brought.front ran.least spliced c.args.front.now.most_bytes (ran.most.1 ∙ brought.most.1) in
    let none = none_more (g.D.Document.passes c.args.document.now c.args.event.now) (nat_lt (length start) (g.D.Equations.unknowns document)) _ brought.limit held in
    subst (λ d. first_limit (g.D.Document.passes c.args.document.now c.args.event.now) (nat_lt (length start) (g.D.Equations.unknowns d))
    (nat_lt (8 * c.args.front.now.most_bytes) (held_back (g.D.Document.pieces d) (solution (length start) (g.D.Equations.equation d)) (front_of (told had start)))) ≡ None) (sym same) none

pub returns-in-Ok-write_known-clause-taken : goal.returns-in-Ok-write_known-clause-taken
returns-in-Ok-write_known-clause-taken g c = λ before took.
    let document = c.bring.new.document in
    let same : c.run_known.new.document ≡ document = c.run_known.ensures.same in
    let had = g.D.Document.pieces c.args.document.now in
    let pieces = g.D.Document.pieces document in
    let equation = g.D.Equations.equation document in
    let start = c.args.board.now.known in
    let brought = c.in-Ok.ensures in
    let ran = c.in-Ok-run_known.ensures in
    let mid = c.bring.new.board.known in
    let now = c.run_known.new.board.known in
    let splice = c.run_known.new.front in
    let spliced : IsSpliced pieces.order (told pieces now) (whole (front_of (told pieces mid))) splice = ran.spliced in
    let wrote = c.in-Ok-write_known.ensures.wrote in
    subst (λ d. HasTaken (g.D.Document.pieces d).order (front_of (told (g.D.Document.pieces d) now)) before (g.K.Sink.seen c.write_known.new.sink).taken) (sym same)
    (taken_now had pieces equation start mid now splice brought.known brought.front ran.least spliced brought.order ran.longer wrote.0 before
    (g.K.Sink.seen c.args.sink.now).taken (g.K.Sink.seen c.write_known.new.sink).taken wrote.1 took wrote.2)

pub returns-in-Err-write_known-clause-limit : goal.returns-in-Err-write_known-clause-limit
returns-in-Err-write_known-clause-limit g c =
    let document = c.bring.new.document in
    let same : c.run_known.new.document ≡ document = c.run_known.ensures.same in
    let had = g.D.Document.pieces c.args.document.now in
    let pieces = g.D.Document.pieces document in
    let equation = g.D.Equations.equation document in
    let start = c.args.board.now.known in
    let brought = c.in-Ok.ensures in
    let ran = c.in-Ok-run_known.ensures in
    let mid = c.bring.new.board.known in
    let now = c.run_known.new.board.known in
    let splice = c.run_known.new.front in
    let spliced : IsSpliced pieces.order (told pieces now) (whole (front_of (told pieces mid))) splice = ran.spliced in
    let held = none_held had pieces equation start mid now splice brought.known brought.front ran.least spliced c.args.front.now.most_bytes (ran.most.1 ∙ brought.most.1) in
    let none = none_more (g.D.Document.passes c.args.document.now c.args.event.now) (nat_lt (length start) (g.D.Equations.unknowns document)) _ brought.limit held in
    subst (λ d. first_limit (g.D.Document.passes c.args.document.now c.args.event.now) (nat_lt (length start) (g.D.Equations.unknowns d))
    (nat_lt (8 * c.args.front.now.most_bytes) (held_back (g.D.Document.pieces d) (solution (length start) (g.D.Equations.equation d)) (front_of (told had start)))) ≡ None) (sym same) none

pub returns-in-Err-write_known-clause-failed : goal.returns-in-Err-write_known-clause-failed
returns-in-Err-write_known-clause-failed g c = (
  c.in-Err-write_known.ensures.cause refl,
  λ before took.
      let document = c.bring.new.document in
      let same : c.run_known.new.document ≡ document = c.run_known.ensures.same in
      let had = g.D.Document.pieces c.args.document.now in
      let pieces = g.D.Document.pieces document in
      let equation = g.D.Equations.equation document in
      let start = c.args.board.now.known in
      let brought = c.in-Ok.ensures in
      let ran = c.in-Ok-run_known.ensures in
      let mid = c.bring.new.board.known in
      let now = c.run_known.new.board.known in
      let splice = c.run_known.new.front in
      let spliced : IsSpliced pieces.order (told pieces now) (whole (front_of (told pieces mid))) splice = ran.spliced in
      let wrote = c.in-Err-write_known.ensures.wrote in
      subst (λ d. HasTakenFront (g.D.Document.pieces d).order (front_of (told (g.D.Document.pieces d) (solution (length start) (g.D.Equations.equation d)))) before (g.K.Sink.seen c.write_known.new.sink).taken) (sym same)
      (taken_front had pieces equation start mid now splice brought.known brought.front ran.least spliced brought.order ran.longer wrote.0 before
      (g.K.Sink.seen c.args.sink.now).taken (g.K.Sink.seen c.write_known.new.sink).taken wrote.1 took wrote.3),
)
