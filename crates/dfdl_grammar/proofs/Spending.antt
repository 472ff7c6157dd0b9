-- A cost before an outcome goes through all that is done with it.
use Rattle.std.proofs.Common.{◌≡◌, ℕ, Bool, refl, ap, sym}
use Rattle.dfdl_looks.specs.Tallies.{Tally, nothing, plus}
use Rattle.dfdl_looks.proofs.Costs.{plus-assoc, nothing-plus}
use Rattle.dfdl_grammar.specs.declared.end.End.{End}
use Rattle.dfdl_grammar.specs.declared.end.End.TheVariants.{Done, Failed, Stopped}
use Rattle.dfdl_grammar.specs.States.{State}
use Rattle.dfdl_grammar.specs.Outcomes.{Outcome, follow, spend}
use Rattle.dfdl_grammar.specs.Elements.{close}

pub spend-spend : (a b : Tally) (o : Outcome) → spend a (spend b o) ≡ spend (plus a b) o
spend-spend a b o = ap (λ (t : Tally). record { end = o.end; state = o.state; tally = t }) (sym (plus-assoc a b o.tally))

pub spend-nothing : (o : Outcome) → spend nothing o ≡ o
spend-nothing o = ap (λ (t : Tally). record { end = o.end; state = o.state; tally = t }) (nothing-plus o.tally)

pub follow-spend : (end : End) (t : Tally) (o : Outcome) (next : State → Outcome) → follow end (spend t o) next ≡ spend t (follow end o next)
follow-spend Done t o next = sym (spend-spend t o.tally (next o.state))
follow-spend (Failed cause bit) t o next = refl
follow-spend (Stopped cause quantity) t o next = refl

pub close-spend : (end : End) (t : Tally) (outer : ℕ) (complex : Bool) (o : Outcome) → close end outer complex (spend t o) ≡ spend t (close end outer complex o)
close-spend Done t outer complex o = refl
close-spend (Failed cause bit) t outer complex o = refl
close-spend (Stopped cause quantity) t outer complex o = refl
