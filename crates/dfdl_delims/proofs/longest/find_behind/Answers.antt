use Rattle.std.proofs.Common.{sym, subst}
use Rattle.dfdl_bits.specs.Window.{seen_at}
use Rattle.dfdl_delims.specs.Standing.{StandFor}
use Rattle.dfdl_delims.proofs.Plain.{goes_behind}
use Rattle.dfdl_delims.proofs.longest.find_behind.Goals as goal

pub returns-clause-answers : goal.returns-clause-answers
returns-clause-answers g c = λ opened test opens plain decides.
    let stands = subst (λ p. StandFor p c.begin.new.live.items opened) (sym c.pieces-pieces.ensures) (c.in_ok-begin.ensures opened opens) in
    c.in_ok-glance.ensures.answers c.begin.new.live.items 1 opened test stands decides
    (goes_behind (seen_at c.args.window.now) c.pieces-pieces.result.now c.begin.new.live.items c.deref.result.now c.advance.new.into.items c.args.first
    c.args.last c.args.byte opened c.requires.within c.requires.byte plain stands c.deref.ensures.value c.in_ok-advance.ensures.dead
    c.in_ok-advance.ensures.completes)
