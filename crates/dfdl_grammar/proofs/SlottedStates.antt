-- The marks of a slot are opened and closed.
use Rattle.std.proofs.Common.{◌≡◌, refl, inl, List, ◌∷◌, ℕ, Bool, true, false, cond, sym, subst}
use Rattle.dfdl_report.specs.declared.cause.ParseCause.{ParseCause}
use Rattle.dfdl_grammar.specs.declared.end.End.{End}
use Rattle.dfdl_grammar.specs.declared.end.End.TheVariants.{Done, Failed, Stopped}
use Rattle.dfdl_grammar.specs.declared.end.Halt.{Halt}
use Rattle.dfdl_grammar.specs.declared.mark.Mark.{Mark}
use Rattle.dfdl_grammar.specs.States.{State}
use Rattle.dfdl_grammar.specs.Marks.{AreSame, back, closed, mark_at, marked, point_at, pointed}
use Rattle.dfdl_grammar.proofs.Grown.{behind, moved_as, still}
use Rattle.dfdl_grammar.proofs.Ways.{goes_same}
use Rattle.dfdl_grammar.proofs.Carried.{Carries, Since, back-failed, back-has, since-back, since-failed}

-- the state at which the point of a slot is opened: where another mark is open around it, the state with that
abbrev pub around : Bool → State → State
around mark u = cond mark (marked u) u

-- the marks of a slot: those that are open around it, and its own, where it is tried
abbrev pub own_marks : Bool → Bool → Bool → State → List Mark → List Mark
own_marks tried mark initiated u marks =
    cond tried (point_at initiated (around mark u) ∷ cond mark (mark_at u ∷ marks) marks) marks

-- the state at which they are open
abbrev pub opened_by : Bool → Bool → Bool → State → State
opened_by tried mark initiated u = cond tried (pointed initiated (around mark u)) u

-- the state at which they are closed
abbrev pub closed_by : Bool → Bool → State → State
closed_by tried mark t = cond tried (cond mark (closed (closed t)) (closed t)) t

module _ (R : List Mark → State → Type 0) (P : List Mark → End → State → Type 0) (carries : Carries R P) where
  -- a state in a slot, which was come to from its point where it has one
  abbrev pub InSlot : Bool → Bool → Bool → State → List Mark → State → Type 0
  InSlot tried mark initiated u marks t =
      R (own_marks tried mark initiated u marks) t × (tried ≡ true → Since initiated (around mark u) Done t)

  module _ (initiated : Bool) (u : State) (marks : List Mark) where
    pub opens-slot : (tried mark : Bool) → R marks u → R (own_marks tried mark initiated u marks) (opened_by tried mark initiated u)
    opens-slot false mark has = has
    opens-slot true false has = carries.opens marks u (point_at initiated u) has
    opens-slot true true has =
        carries.opens (mark_at u ∷ marks) (marked u) (point_at initiated (marked u)) (carries.opens marks u (mark_at u) has)

    since-slot : (tried mark : Bool) → tried ≡ true → Since initiated (around mark u) Done (opened_by tried mark initiated u)
    since-slot false mark is = absurd (cc)
    since-slot true mark is = still (around mark u).inside Done (pointed initiated (around mark u))

    pub begins-slot : (tried mark : Bool) → R marks u → InSlot tried mark initiated u marks (opened_by tried mark initiated u)
    begins-slot tried mark has = (opens-slot tried mark has, since-slot tried mark)

    pub closes-slot : (tried mark : Bool) (t : State) → R (own_marks tried mark initiated u marks) t → R marks (closed_by tried mark t)
    closes-slot false mark t has = has
    closes-slot true false t has = carries.closes marks t (point_at initiated u) has
    closes-slot true true t has =
        carries.closes marks (closed t) (mark_at u) (carries.closes (mark_at u ∷ marks) t (point_at initiated (marked u)) has)

    pub ends-slot : (tried mark : Bool) (e : End) (t : State) → P (own_marks tried mark initiated u marks) e t → P marks e (closed_by tried mark t)
    ends-slot false mark e t holds = holds
    ends-slot true false e t holds = carries.closes_end marks e t (point_at initiated u) holds
    ends-slot true true e t holds =
        carries.closes_end marks e (closed t) (mark_at u) (carries.closes_end (mark_at u ∷ marks) e t (point_at initiated (marked u)) holds)

    -- where a limit is reached they stay open
    pub stops-slot : (tried mark : Bool) (cause : Halt) (quantity : ℕ) (t : State)
        → P (own_marks tried mark initiated u marks) (Stopped cause quantity) t
        → P marks (Stopped cause quantity) t
    stops-slot false mark cause quantity t holds = holds
    stops-slot true false cause quantity t holds = carries.stays marks cause quantity t (point_at initiated u) holds
    stops-slot true true cause quantity t holds =
        carries.stays marks cause quantity t (mark_at u) (carries.stays (mark_at u ∷ marks) cause quantity t (point_at initiated (marked u)) holds)

    module _ (tried mark : Bool) where
      -- parsing goes on elsewhere, and points are resolved
      pub moves-slot : (t : State) (at : ℕ) (others : List Mark) → AreSame others t.marks → InSlot tried mark initiated u marks t
          → InSlot tried mark initiated u marks (record t { at = at; marks = others })
      moves-slot t at others same held = (
        carries.moves (own_marks tried mark initiated u marks) (record t { marks = others }) at
            (carries.again (own_marks tried mark initiated u marks) others t t.instead t.variables held.0 (inl refl) same (goes_same t.variables)),
        λ is. behind (pointed initiated (around mark u)) t (record t { at = at; marks = others }) Done (held.1 is)
            (moved_as t.inside t at others same),
      )

    module _ (mark : Bool) (has : R marks u) where
      -- what is taken back, where it is tried
      back-slot : (t : State) → Since initiated (around mark u) Done t → InSlot true mark initiated u marks (back t)
      back-slot t since = (
        back-has R P carries (cond mark (mark_at u ∷ marks) marks) initiated (around mark u) (opens-slot true mark has) t since,
        λ is. since-back initiated (around mark u) t since,
      )

      failed-slot : (cause : ParseCause) (bit : ℕ) (t : State) → Since initiated (around mark u) (Failed cause bit) t
          → InSlot true mark initiated u marks (back t)
      failed-slot cause bit t since = (
        back-failed R P carries (cond mark (mark_at u ∷ marks) marks) initiated (around mark u) (opens-slot true mark has) cause bit t since,
        λ is. since-failed initiated (around mark u) cause bit t since,
      )

      module _ (tried : Bool) (is : tried ≡ true) where
        pub goes-back : (t : State) → Since initiated (around mark u) Done t → InSlot tried mark initiated u marks (back t)
        goes-back t since = subst (λ (b : Bool). InSlot b mark initiated u marks (back t)) (sym is) (back-slot t since)

        pub goes-back-failed : (cause : ParseCause) (bit : ℕ) (t : State) → Since initiated (around mark u) (Failed cause bit) t
            → InSlot tried mark initiated u marks (back t)
        goes-back-failed cause bit t since = subst (λ (b : Bool). InSlot b mark initiated u marks (back t)) (sym is) (failed-slot cause bit t since)
