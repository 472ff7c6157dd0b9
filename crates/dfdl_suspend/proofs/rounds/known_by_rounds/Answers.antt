use Rattle.std.proofs.Common.{◌<◌, refl, sym, ap, subst, ◌∙◌, arith, replicate, None, ℕ, length}
use Rattle.std.proofs.lemmas.List.{length-replicate}
use Rattle.dfdl_suspend.specs.Asks.{filled}
use Rattle.dfdl_suspend.specs.Rounds.{Reached, nothing}
use Rattle.dfdl_suspend.proofs.Solving.{filled_few}
use Rattle.dfdl_suspend.proofs.rounds.known_by_rounds.Goals as goal

pub rounds-init : goal.rounds-init
rounds-init g c = (
  refl,
  ap (λ a. length a) c.in_ok-known.ensures ∙ (length-replicate c.count.result None ∙ c.count.ensures),
  let start : Reached c.count.result (g.E.Equations.equation c.args.equations.now) (replicate c.count.result None) = nothing in
      subst (λ a. Reached (g.E.Equations.unknowns c.args.equations.now) (g.E.Equations.equation c.args.equations.now) a) (sym c.in_ok-known.ensures)
      (subst (λ (n : ℕ). Reached n (g.E.Equations.equation c.args.equations.now) (replicate c.count.result None)) c.count.ensures start),
)

pub rounds-smaller : goal.rounds-smaller
rounds-smaller g c =
    let few = filled_few c.one_round.new.known in
    let more : filled c.rounds.known < filled c.one_round.new.known = c.in_ok-one_round.ensures.moved c.if-branch.true in
    omega (arith, c.in_ok-one_round.ensures.room)
