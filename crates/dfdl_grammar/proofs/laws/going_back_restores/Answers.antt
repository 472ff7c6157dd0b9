use Rattle.std.proofs.Common.{◌≡◌, ◌∙◌, refl, ℕ, List, [], true, ap, drop, subst, sym}
use Rattle.dfdl_grammar.specs.declared.end.End.{End}
use Rattle.dfdl_grammar.specs.declared.end.End.TheVariants.{Failed}
use Rattle.dfdl_grammar.specs.States.{State, instances_within}
use Rattle.dfdl_vars.specs.Kept.{Kept}
use Rattle.dfdl_vars.specs.Marks.{LeadsBack}
use Rattle.dfdl_vars.proofs.Ways.{sound_opened}
use Rattle.dfdl_grammar.specs.declared.mark.Mark.{Mark}
use Rattle.dfdl_grammar.specs.Elements.{attempted}
use Rattle.dfdl_grammar.specs.Marks.{AreSame, back, marked, pointed}
use Rattle.dfdl_grammar.specs.Rows.{meaning}
use Rattle.dfdl_grammar.proofs.Going.{meaning-goes, tried-returns}
use Rattle.dfdl_grammar.proofs.Grown.{Ends, Went, failed_returns, kept_at, went_kept}
use Rattle.dfdl_grammar.proofs.Represented.{AreMarked}
use Rattle.dfdl_grammar.proofs.Ways.{IsBack}
use Rattle.dfdl_grammar.proofs.laws.going_back_restores.Goals as goal

-- the variables are those from the mark
alike : (s t : State) (marks : List Mark) (kept : Kept) → IsBack s.variables kept → LeadsBack s.variables s.variables
    → back t ≡ record s { instead = t.instead; marks = t.marks; variables = kept }
    → record (back t) { instead = s.instead; marks = marks } ≡ record s { marks = marks }
alike s t marks kept is sound same =
    ap (λ (u : State). record u { instead = s.instead; marks = marks }) same ∙ ap (λ (k : Kept). record s { marks = marks; variables = k }) (is sound)

pub returns-clause-restored : goal.returns-clause-restored
returns-clause-restored c input table id body complex instead s cause bit sound failed =
    let there =
    tried-returns input id complex (meaning input table body) (meaning-goes input table body) s instead s.instead (marked s).marks s.variables refl
    (λ sound. refl) cause bit failed in
    record {
      same = alike s (attempted input id complex (meaning input table body) instead (marked s)).state (marked s).marks there.kept there.is sound there.there;
      marks = subst (λ (t : State). AreMarked s t.marks) (sym there.there) there.marks;
    }

pub returns-clause-tried : goal.returns-clause-tried
returns-clause-tried c input table id initiated s cause bit sound failed =
    let t : State = (meaning input table id (pointed initiated s)).state in
    let went : Went s.inside (pointed initiated s) (Failed cause bit) t =
    subst (λ (e : End). Went s.inside (pointed initiated s) e t) failed (meaning-goes input table id (pointed initiated s)) in
    let same = failed_returns true initiated s t s.instead cause bit went in
    record {
      same = alike s t (pointed initiated s).marks (kept_at s t) (went_kept true initiated s t s.instead (Failed cause bit) went) sound same;
      marks = subst (λ (t : State). AreSame t.marks (pointed initiated s).marks) (sym same) went.ends.marks;
    }

pub returns-clause-done : goal.returns-clause-done
returns-clause-done c input table id s done =
    (subst (λ (e : End). Ends e s (meaning input table id s).state) done (meaning-goes input table id s).ends).marks

pub returns-clause-failed : goal.returns-clause-failed
returns-clause-failed c input table id s cause bit failed =
    (subst (λ (e : End). Ends e s (meaning input table id s).state) failed (meaning-goes input table id s).ends).marks

pub returns-clause-closed : goal.returns-clause-closed
returns-clause-closed c input table id s done =
    let t : State = (meaning input table id s).state in
    let ends = subst (λ (e : End). Ends e s t) done (meaning-goes input table id s).ends in
    ap (λ (h : ℕ). drop h t.lists) ends.hidden ∙ ap (λ (ls : List ℕ). drop s.hidden ls) ends.lists

pub returns-clause-closed_failed : goal.returns-clause-closed_failed
returns-clause-closed_failed c input table id s cause bit failed =
    let t : State = (meaning input table id s).state in
    let ends = subst (λ (e : End). Ends e s t) failed (meaning-goes input table id s).ends in
    ap (λ (h : ℕ). drop h t.lists) ends.hidden ∙ ap (λ (ls : List ℕ). drop s.hidden ls) ends.lists

pub returns-clause-front : goal.returns-clause-front
returns-clause-front c table start = sound_opened table.variables [] (instances_within table.rows)

pub returns-clause-sound : goal.returns-clause-sound
returns-clause-sound c input table id s sound = ((meaning-goes input table id s).grown.ways s.variables (sound, sound)).1
