-- What was done from a state on is carried along while more marks are open.
use Rattle.std.proofs.Common.{List, ◌∷◌, ℕ, false, ap, ◌∙◌}
use Rattle.dfdl_vars.specs.Kept.{Kept}
use Rattle.dfdl_grammar.specs.declared.end.End.{End}
use Rattle.dfdl_grammar.specs.declared.end.End.TheVariants.{Done, Failed, Stopped}
use Rattle.dfdl_grammar.specs.declared.instead.Instead.{Instead}
use Rattle.dfdl_grammar.specs.declared.mark.Mark.{Mark}
use Rattle.dfdl_grammar.specs.States.{State}
use Rattle.dfdl_grammar.specs.Outcomes.{Outcome}
use Rattle.dfdl_grammar.specs.Marks.{AreSame}
use Rattle.dfdl_grammar.proofs.Carried.{Carried, Carries}
use Rattle.dfdl_grammar.proofs.Grown.{Goes, IsKept, Went, behind, instead_twice, moved, twice, unmarked_went}
use Rattle.dfdl_grammar.proofs.Ways.{GoesOn, goes_twice}

module _ (s : State) where
  abbrev pub GoneBy : List Mark → State → Type 0
  GoneBy marks t = Went s.inside (record s { marks = marks }) Done t

  abbrev pub EndsBy : List Mark → End → State → Type 0
  EndsBy marks e t = Went s.inside (record s { marks = marks }) e t

  going-moves : (marks : List Mark) (t : State) (at : ℕ) → GoneBy marks t → GoneBy marks (record t { at = at })
  going-moves marks t at went = twice s.inside (record s { marks = marks }) t (record t { at = at }) Done went (moved s.inside t at t.stop)

  going-again : (marks others : List Mark) (t : State) (instead : Instead) (kept : Kept) → GoneBy marks t → IsKept t instead → AreSame others t.marks
      → GoesOn t.variables kept → GoneBy marks (record t { instead = instead; marks = others; variables = kept })
  going-again marks others t instead kept went is same goes = record {
    grown = record {
      longer = went.grown.longer;
      kept = went.grown.kept;
      more = went.grown.more;
      text = went.grown.text;
      ways = goes_twice s.variables t.variables kept went.grown.ways goes;
    };
    ends = record {
      marks = same ∙ went.ends.marks;
      inside = went.ends.inside;
      instead = instead_twice s.instead t.instead instead went.ends.instead is;
      lists = went.ends.lists;
      hidden = went.ends.hidden;
    };
  }

  going-opens : (marks : List Mark) (t : State) (mark : Mark) → GoneBy marks t → GoneBy (mark ∷ marks) (record t { marks = mark ∷ t.marks })
  going-opens marks t mark went = record {
    grown = record { longer = went.grown.longer; kept = went.grown.kept; more = went.grown.more; text = went.grown.text; ways = went.grown.ways };
    ends = record {
      marks = ap (λ (ms : List Mark). record mark { is_resolved = false } ∷ ms) went.ends.marks;
      inside = went.ends.inside;
      instead = went.ends.instead;
      lists = went.ends.lists;
      hidden = went.ends.hidden;
    };
  }

  going-ends : (marks : List Mark) (e : End) (t : State) → GoneBy marks t → EndsBy marks e t
  going-ends marks Done t went = went
  going-ends marks (Failed cause bit) t went = record {
    grown = went.grown;
    ends = record { marks = went.ends.marks; instead = went.ends.instead; lists = went.ends.lists; hidden = went.ends.hidden };
  }
  going-ends marks (Stopped cause quantity) t went = record { grown = went.grown; ends = tt }

  pub going : Carries GoneBy EndsBy
  going = record {
    moves = going-moves;
    again = going-again;
    opens = going-opens;
    closes = λ marks t mark went. unmarked_went s.inside mark (record s { marks = marks }) Done t went;
    ends = going-ends;
    done = λ marks t went. went;
    closes_end = λ marks e t mark went. unmarked_went s.inside mark (record s { marks = marks }) e t went;
    stays = λ marks cause quantity t mark went. record {
      grown = record { longer = went.grown.longer; kept = went.grown.kept; more = went.grown.more; text = went.grown.text; ways = went.grown.ways };
      ends = tt;
    };
  }

  pub going-carried : (f : State → Outcome) → Goes f → Carried GoneBy EndsBy f
  going-carried f goes marks t went = behind (record s { marks = marks }) t (f t).state (f t).end went (goes t)
