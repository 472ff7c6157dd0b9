-- A choice carries what its branches carry, and times that are tried what each of them does. Each begins in the state at its point.
use Rattle.std.proofs.Common.{◌≡◌, ℕ, zero, suc, Bool, true, false, cond, List, [], ◌∷◌, refl, sym, subst}
use Rattle.dfdl_report.specs.declared.cause.ParseCause.{ParseCause}
use Rattle.dfdl_report.specs.declared.cause.ParseCause.TheVariants.{NoBranch}
use Rattle.dfdl_grammar.specs.declared.end.End.{End}
use Rattle.dfdl_grammar.specs.declared.end.End.TheVariants.{Done, Failed, Stopped}
use Rattle.dfdl_grammar.specs.declared.mark.Mark.{Mark}
use Rattle.dfdl_grammar.specs.States.{State}
use Rattle.dfdl_grammar.specs.Outcomes.{Outcome, spend}
use Rattle.dfdl_grammar.specs.Marks.{back, closed, is_settled, point_at, pointed, stays_at}
use Rattle.dfdl_grammar.specs.Choices.{branches, choice, or_branch}
use Rattle.dfdl_grammar.specs.Occurrences.{after_occurrence, dropped, occurrences}
use Rattle.dfdl_grammar.proofs.Grown.{Goes, behind, still}
use Rattle.dfdl_grammar.proofs.Carried.{Carried, Carries, Since, back-failed, back-has, since-failed}

module _ (R : List Mark → State → Type 0) (P : List Mark → End → State → Type 0) (carries : Carries R P) where
  -- from a point that is open
  module _ (marks : List Mark) (initiated : Bool) (u : State) (at_point : R (point_at initiated u ∷ marks) (pointed initiated u)) where
    -- what holds of the outcome of what is tried
    abbrev Tried : Outcome → Type 0
    Tried o = P (point_at initiated u ∷ marks) o.end o.state × Since initiated u o.end o.state

    settled-comes : (cause : ParseCause) (bit : ℕ) (o : Outcome) (next : State → Outcome) → Failed cause bit ≡ o.end → Tried o
        → ((t : State) → R (point_at initiated u ∷ marks) t → Since initiated u Done t → P marks (next t).end (next t).state) → (settled : Bool)
        → (let out : Outcome = cond settled (record o { state = closed o.state }) (spend o.tally (next (back o.state))) in
        P marks out.end out.state)
    settled-comes cause bit o next same holds others true = carries.closes_end marks o.end o.state (point_at initiated u) holds.0
    settled-comes cause bit o next same holds others false =
        let since : Since initiated u (Failed cause bit) o.state = subst (λ (e : End). Since initiated u e o.state) (sym same) holds.1 in
        others (back o.state) (back-failed R P carries marks initiated u at_point cause bit o.state since)
        (since-failed initiated u cause bit o.state since)

    branch-comes : (e : End) (o : Outcome) (next : State → Outcome) → e ≡ o.end → Tried o
        → ((t : State) → R (point_at initiated u ∷ marks) t → Since initiated u Done t → P marks (next t).end (next t).state)
        → P marks (or_branch e o next).end (or_branch e o next).state
    branch-comes Done o next same holds others = carries.closes_end marks o.end o.state (point_at initiated u) holds.0
    branch-comes (Failed cause bit) o next same holds others = settled-comes cause bit o next same holds others (is_settled o.state.marks)
    branch-comes (Stopped cause quantity) o next same holds others =
        subst (λ (e : End). P marks e o.state) same
        (carries.stays marks cause quantity o.state (point_at initiated u)
        (subst (λ (e : End). P (point_at initiated u ∷ marks) e o.state) (sym same) holds.0))

    branches-come : (child : ℕ → State → Outcome) → ((id : ℕ) → Goes (child id)) → ((id : ℕ) → Carried R P (child id)) → (ids : List ℕ)
        → (t : State) → R (point_at initiated u ∷ marks) t → Since initiated u Done t
        → P marks (branches child ids t).end (branches child ids t).state
    branches-come child goes carried [] t has since =
        carries.ends marks (Failed NoBranch t.at) (closed t) (carries.closes marks t (point_at initiated u) has)
    branches-come child goes carried (id ∷ ids) t has since =
        let o : Outcome = child id t in
        branch-comes o.end o (branches child ids) refl
        (carried id (point_at initiated u ∷ marks) t has, behind (pointed initiated u) t o.state o.end since (goes id t))
        (branches-come child goes carried ids)

    -- a time that is dropped
    dropped-comes : (t : State) → R (point_at initiated u ∷ marks) (back t) → P marks Done (dropped t)
    dropped-comes t has = carries.ends marks Done (dropped t) (carries.closes marks (back t) (point_at initiated u) has)

    done-comes : (o : Outcome) (next : State → Outcome) → Done ≡ o.end → Tried o → Carried R P next → (stay : Bool)
        → (let out : Outcome = cond stay (record o { state = dropped o.state }) (spend o.tally (next (closed o.state))) in
        P marks out.end out.state)
    done-comes o next same holds follows true =
        let since : Since initiated u Done o.state = subst (λ (e : End). Since initiated u e o.state) (sym same) holds.1 in
        subst (λ (e : End). P marks e (dropped o.state)) same (dropped-comes o.state (back-has R P carries marks initiated u at_point o.state since))
    done-comes o next same holds follows false =
        let has : R (point_at initiated u ∷ marks) o.state = carries.done (point_at initiated u ∷ marks) o.state
        (subst (λ (e : End). P (point_at initiated u ∷ marks) e o.state) (sym same) holds.0) in
        follows marks (closed o.state) (carries.closes marks o.state (point_at initiated u) has)

    failed-comes : (cause : ParseCause) (bit : ℕ) (o : Outcome) → Failed cause bit ≡ o.end → Tried o → (settled : Bool)
        → (let out : Outcome = cond settled (record o { state = closed o.state }) (record o { end = Done; state = dropped o.state }) in
        P marks out.end out.state)
    failed-comes cause bit o same holds true = carries.closes_end marks o.end o.state (point_at initiated u) holds.0
    failed-comes cause bit o same holds false =
        dropped-comes o.state (back-failed R P carries marks initiated u at_point cause bit o.state
        (subst (λ (e : End). Since initiated u e o.state) (sym same) holds.1))

    after-comes : (e : End) (o : Outcome) (next : State → Outcome) → e ≡ o.end → Tried o → Carried R P next
        → P marks (after_occurrence e o next).end (after_occurrence e o next).state
    after-comes Done o next same holds follows = done-comes o next same holds follows (stays_at o.state.marks o.state.at)
    after-comes (Failed cause bit) o next same holds follows = failed-comes cause bit o same holds (is_settled o.state.marks)
    after-comes (Stopped cause quantity) o next same holds follows =
        subst (λ (e : End). P marks e o.state) same
        (carries.stays marks cause quantity o.state (point_at initiated u)
        (subst (λ (e : End). P (point_at initiated u ∷ marks) e o.state) (sym same) holds.0))

  pub choice-carried : (child : ℕ → State → Outcome) → ((id : ℕ) → Goes (child id)) → ((id : ℕ) → Carried R P (child id))
      → (initiated : Bool) (ids : List ℕ) → Carried R P (choice child initiated ids)
  choice-carried child goes carried initiated ids marks t has =
      let at_point : R (point_at initiated t ∷ marks) (pointed initiated t) = carries.opens marks t (point_at initiated t) has in
      branches-come marks initiated t at_point child goes carried ids (pointed initiated t) at_point (still t.inside Done (pointed initiated t))

  pub occurrences-carried : (body : State → Outcome) → Goes body → Carried R P body → (initiated : Bool) (left : ℕ)
      → Carried R P (occurrences body initiated left)
  unfolding occurrences
  occurrences-carried body goes carried initiated zero marks t has = carries.ends marks Done t has
  occurrences-carried body goes carried initiated (suc left) marks t has =
      let at_point : R (point_at initiated t ∷ marks) (pointed initiated t) = carries.opens marks t (point_at initiated t) has in
      let o : Outcome = body (pointed initiated t) in
      after-comes marks initiated t at_point o.end o (occurrences body initiated left) refl
      (carried (point_at initiated t ∷ marks) (pointed initiated t) at_point, goes (pointed initiated t))
      (occurrences-carried body goes carried initiated left)
