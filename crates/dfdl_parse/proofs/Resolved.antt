-- What holds of a state and of it with a resolved point holds behind a search and behind a test.
use Rattle.std.proofs.Common.{◌≡◌, ℕ, refl, Bool, true, false, ◌||◌, cond}
use Rattle.dfdl_looks.specs.Tallies.{Tally, nothing}
use Rattle.dfdl_grammar.specs.declared.end.End.{End}
use Rattle.dfdl_grammar.specs.declared.end.End.TheVariants.{Done, Failed, Stopped}
use Rattle.dfdl_grammar.specs.Delimiters.{found_initiator}
use Rattle.dfdl_grammar.specs.Marks.{are_initiated, resolved}
use Rattle.dfdl_grammar.specs.Outcomes.{Outcome, ended, spend}
use Rattle.dfdl_grammar.specs.States.{State}
use Rattle.dfdl_grammar.specs.Tests.{false_test, tested}
use Rattle.dfdl_parse.specs.declared.frame.Sought.{Sought}
use Rattle.dfdl_parse.specs.declared.frame.Sought.TheVariants.{Initiator, Terminator, Separator}
use Rattle.dfdl_parse.specs.Searches.{sought_by}

module _ (P : End → State → Type 0) (resolves : (s : State) → P Done s → P Done (resolved s)) where
  either-comes : (s : State) (resolving : Bool) → P Done s → P Done (cond resolving (resolved s) s)
  either-comes s true holds = resolves s holds
  either-comes s false holds = holds

  initiator-comes : (resolving : Bool) (end : End) (s : State) (t : Tally) → P end s
      → let o : Outcome = found_initiator resolving end (record { end = end; state = s; tally = t }) in P o.end o.state
  initiator-comes resolving Done s t holds = either-comes s (resolving || are_initiated s.marks) holds
  initiator-comes resolving (Failed cause bit) s t holds = holds
  initiator-comes resolving (Stopped cause quantity) s t holds = holds

  -- behind a search
  pub sought-comes : (what : Sought) (o : Outcome) → P o.end o.state → P (sought_by what o).end (sought_by what o).state
  sought-comes (Initiator list resolving) o holds = initiator-comes resolving o.end o.state o.tally holds
  sought-comes (Terminator list separators) o holds = holds
  sought-comes Separator o holds = holds

  -- behind a test
  pub tested-comes : (discriminates : Bool) (number : ℕ) (holds : Bool) (s : State) → P Done s → P (Failed (false_test discriminates number) s.at) s
      → P (tested discriminates number holds s).end (tested discriminates number holds s).state
  tested-comes discriminates number true s done failed = either-comes s discriminates done
  tested-comes discriminates number false s done failed = failed

-- a search and a test cost nothing more
initiator-nothing : (resolving : Bool) (end : End) (s : State) → (found_initiator resolving end (ended end s)).tally ≡ nothing
initiator-nothing resolving Done s = refl
initiator-nothing resolving (Failed cause bit) s = refl
initiator-nothing resolving (Stopped cause quantity) s = refl

pub sought-nothing : (what : Sought) (end : End) (s : State) → (sought_by what (ended end s)).tally ≡ nothing
sought-nothing (Initiator list resolving) end s = initiator-nothing resolving end s
sought-nothing (Terminator list separators) end s = refl
sought-nothing Separator end s = refl

pub tested-nothing : (discriminates : Bool) (number : ℕ) (holds : Bool) (s : State) → (tested discriminates number holds s).tally ≡ nothing
tested-nothing discriminates number true s = refl
tested-nothing discriminates number false s = refl

-- what was spent in a search was spent before what it resolves
initiator-spend : (resolving : Bool) (end : End) (t : Tally) (o : Outcome)
    → found_initiator resolving end (spend t o) ≡ spend t (found_initiator resolving end o)
initiator-spend resolving Done t o = refl
initiator-spend resolving (Failed cause bit) t o = refl
initiator-spend resolving (Stopped cause quantity) t o = refl

pub sought-spend : (what : Sought) (t : Tally) (o : Outcome) → sought_by what (spend t o) ≡ spend t (sought_by what o)
sought-spend (Initiator list resolving) t o = initiator-spend resolving o.end t o
sought-spend (Terminator list separators) t o = refl
sought-spend Separator t o = refl
