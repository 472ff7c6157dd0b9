-- What is carried along while marks are opened and closed: a property of the states that come one after another, and of what they end in.
use Rattle.std.proofs.Common.{refl, List, ◌∷◌, ℕ, Bool, true, sym, subst}
use Rattle.dfdl_vars.specs.Kept.{Kept}
use Rattle.dfdl_report.specs.declared.cause.ParseCause.{ParseCause}
use Rattle.dfdl_grammar.specs.declared.end.End.{End}
use Rattle.dfdl_grammar.specs.declared.end.End.TheVariants.{Done, Failed, Stopped}
use Rattle.dfdl_grammar.specs.declared.end.Halt.{Halt}
use Rattle.dfdl_grammar.specs.declared.instead.Instead.{Instead}
use Rattle.dfdl_grammar.specs.declared.mark.Mark.{Mark}
use Rattle.dfdl_grammar.specs.States.{State}
use Rattle.dfdl_grammar.specs.Outcomes.{Outcome}
use Rattle.dfdl_grammar.specs.Marks.{AreSame, back, closed, point_at, pointed}
use Rattle.dfdl_grammar.proofs.Grown.{IsKept, Went, done_returns, failed_returns, grown, kept_at, went_kept}
use Rattle.dfdl_grammar.proofs.Ways.{GoesOn, back_goes}

-- What holds of a state where these marks are open (R), and where something ends (P).
pub record Carries (R : List Mark → State → Type 0) (P : List Mark → End → State → Type 0) : Type 0 where
  pub moves : (marks : List Mark) (t : State) (at : ℕ) → R marks t → R marks (record t { at = at })
  pub again : (marks others : List Mark) (t : State) (instead : Instead) (kept : Kept) → R marks t → IsKept t instead → AreSame others t.marks
      → GoesOn t.variables kept → R marks (record t { instead = instead; marks = others; variables = kept })
  pub opens : (marks : List Mark) (t : State) (mark : Mark) → R marks t → R (mark ∷ marks) (record t { marks = mark ∷ t.marks })
  pub closes : (marks : List Mark) (t : State) (mark : Mark) → R (mark ∷ marks) t → R marks (closed t)
  pub ends : (marks : List Mark) (e : End) (t : State) → R marks t → P marks e t
  pub done : (marks : List Mark) (t : State) → P marks Done t → R marks t
  pub closes_end : (marks : List Mark) (e : End) (t : State) (mark : Mark) → P (mark ∷ marks) e t → P marks e (closed t)
  pub stays : (marks : List Mark) (cause : Halt) (quantity : ℕ) (t : State) (mark : Mark) → P (mark ∷ marks) (Stopped cause quantity) t
      → P marks (Stopped cause quantity) t

-- what a row does from such a state
abbrev pub Carried : (List Mark → State → Type 0) → (List Mark → End → State → Type 0) → (State → Outcome) → Type 0
Carried R P f = (marks : List Mark) (t : State) → R marks t → P marks (f t).end (f t).state

-- what was done since a point, from which nothing is resolved but points
abbrev pub Since : Bool → State → End → State → Type 0
Since initiated u e t = Went u.inside (pointed initiated u) e t

-- what is gone back to
module _ (R : List Mark → State → Type 0) (P : List Mark → End → State → Type 0) (carries : Carries R P) (marks : List Mark)
    (initiated : Bool) (u : State) (at_point : R (point_at initiated u ∷ marks) (pointed initiated u)) where
  pub back-has : (t : State) → Since initiated u Done t → R (point_at initiated u ∷ marks) (back t)
  back-has t since =
      subst (λ (there : State). R (point_at initiated u ∷ marks) there) (sym (done_returns true initiated u t u.instead since))
      (carries.again (point_at initiated u ∷ marks) t.marks (pointed initiated u) t.instead (kept_at u t) at_point since.ends.instead since.ends.marks
      (back_goes u.variables (kept_at u t) (went_kept true initiated u t u.instead Done since)))

  pub back-failed : (cause : ParseCause) (bit : ℕ) (t : State) → Since initiated u (Failed cause bit) t → R (point_at initiated u ∷ marks) (back t)
  back-failed cause bit t since =
      subst (λ (there : State). R (point_at initiated u ∷ marks) there) (sym (failed_returns true initiated u t u.instead cause bit since))
      (carries.again (point_at initiated u ∷ marks) t.marks (pointed initiated u) t.instead (kept_at u t) at_point since.ends.instead since.ends.marks
      (back_goes u.variables (kept_at u t) (went_kept true initiated u t u.instead (Failed cause bit) since)))

-- the state at the point again was come to from it
pub since-again : (initiated : Bool) (u : State) (instead : Instead) (marks : List Mark) (kept : Kept) → IsKept u instead
    → AreSame marks (pointed initiated u).marks → GoesOn u.variables kept
    → Since initiated u Done (record u { instead = instead; marks = marks; variables = kept })
since-again initiated u instead marks kept is same goes =
    let here = grown u.inside u in
    record {
      grown = record { longer = here.longer; kept = here.kept; more = here.more; text = here.text; ways = goes };
      ends = record { marks = same; inside = refl; instead = is; lists = refl; hidden = refl };
    }

pub since-back : (initiated : Bool) (u t : State) → Since initiated u Done t → Since initiated u Done (back t)
since-back initiated u t since =
    subst (λ (there : State). Since initiated u Done there) (sym (done_returns true initiated u t u.instead since))
    (since-again initiated u t.instead t.marks (kept_at u t) since.ends.instead since.ends.marks
    (back_goes u.variables (kept_at u t) (went_kept true initiated u t u.instead Done since)))

pub since-failed : (initiated : Bool) (u : State) (cause : ParseCause) (bit : ℕ) (t : State) → Since initiated u (Failed cause bit) t
    → Since initiated u Done (back t)
since-failed initiated u cause bit t since =
    subst (λ (there : State). Since initiated u Done there) (sym (failed_returns true initiated u t u.instead cause bit since))
    (since-again initiated u t.instead t.marks (kept_at u t) since.ends.instead since.ends.marks
    (back_goes u.variables (kept_at u t) (went_kept true initiated u t u.instead (Failed cause bit) since)))
