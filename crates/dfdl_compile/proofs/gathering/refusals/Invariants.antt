use Rattle.std.proofs.Common.{◌≡◌, ◌++◌, map, drop, option_map}
use Rattle.dfdl_breaches.specs.declared.judgement.Judgement.{Judgement}
use Rattle.dfdl_compile.specs.Components.{refusal_of}
use Rattle.dfdl_compile.proofs.gathering.refusals.Given as goal

abbrev pub invariant-loop-judgement : goal.invariant-loop-judgement
invariant-loop-judgement l = l.made.items ++ map (λ (j : Judgement). option_map refusal_of j.breach) (drop l.judgement-index l.judgements)
    ≡ map (λ (j : Judgement). option_map refusal_of j.breach) l.judgements
