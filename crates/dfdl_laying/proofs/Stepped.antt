-- A run of acts, made longer at its front by one act.
use Rattle.std.proofs.Common.{◌≡◌, Bool, true, false, List, sym, subst, ◌∙◌}
use Rattle.dfdl_outline.specs.declared.entry.Entry.{Entry}
use Rattle.dfdl_laying.specs.Acting.{act_at, is_stop}
use Rattle.dfdl_laying.specs.Running.{Run, Runs, stops, goes, acted}
use Rattle.dfdl_laying.specs.declared.act.Act.{Act}
use Rattle.dfdl_laying.specs.declared.act.Aim.{Aim}

-- an event is wanted
pub runs_stop : (layout : List Entry) (aim : Aim) (run : Run) (act : Act) → act ≡ act_at layout aim run.stack → is_stop act ≡ true
    → Runs layout aim run run
runs_stop layout aim run act is stop = stops ((λ i. is_stop (sym is i)) ∙ stop)

-- one act before others
pub runs_go : (layout : List Entry) (aim : Aim) (run new last : Run) (act : Act) → act ≡ act_at layout aim run.stack → is_stop act ≡ false
    → new ≡ acted layout act run.laid run.stack → Runs layout aim new last → Runs layout aim run last
runs_go layout aim run new last act is go made runs =
    goes ((λ i. is_stop (sym is i)) ∙ go)
    (subst (λ (r : Run). Runs layout aim r last) (made ∙ (λ i. acted layout (is i) run.laid run.stack)) runs)
