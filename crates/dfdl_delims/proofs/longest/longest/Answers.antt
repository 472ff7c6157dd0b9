use Rattle.std.proofs.Common.{◌≡◌, ℕ, ◌+◌, ◌-◌, ◌/◌, sym, subst, refl, arith}
use Rattle.dfdl_bits.specs.Window.{seen_at}
use Rattle.dfdl_delims.specs.Standing.{StandFor}
use Rattle.dfdl_delims.proofs.Going.{begins}
use Rattle.dfdl_delims.proofs.Plain.{same_looks}
use Rattle.dfdl_delims.proofs.longest.longest.Goals as goal

pub returns-clause-answers : goal.returns-clause-answers
returns-clause-answers g c = λ opened test opens decides.
    same_looks _ c.in_ok-glance-2.glance (0 + (c.find.new.steps - c.args.steps.now)) (c.find.new.steps - c.args.steps.now)
    (from_none (c.find.new.steps - c.args.steps.now))
    (c.in_ok-glance-2.ensures.answers c.begin.new.live.items 0 opened test
    (subst (λ p. StandFor p c.begin.new.live.items opened) (sym c.pieces.ensures) (c.in_ok-begin.ensures opened opens)) decides
    (begins (seen_at c.args.window.now) c.pieces.result.now c.begin.new.live.items (c.args.bit / 8) (c.args.stop / 8) 0 refl))
  where
    from_none : (n : ℕ) → 0 + n ≡ n
    from_none n = omega arith
