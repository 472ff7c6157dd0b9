use Rattle.std.proofs.Common.{◌∙◌, ◌-◌, sym, subst, refl, arith}
use Rattle.dfdl_bits.specs.Window.{seen_at}
use Rattle.dfdl_delims.specs.Verdicts.{Told}
use Rattle.dfdl_delims.proofs.Plain.{alone_answers, end_answers}
use Rattle.dfdl_delims.proofs.longest.find_plain.Goals as goal

pub returns-in-Alone-clause-answers : goal.returns-in-Alone-clause-answers
returns-in-Alone-clause-answers g c = λ opened test opens plain decides.
    alone_answers (seen_at c.args.window.now) c.args.first c.args.last c.requires.within opened test plain decides (c.look.new.steps - c.args.steps.now)
    (omega (arith, c.look.ensures.cost)) c.in-Byte.byte (sym c.look.ensures.seen ∙ c.in-Byte.is) c.in-Alone.which
    (subst (Told opened c.in-Byte.byte) c.in-Alone.is (c.by_byte.ensures opened opens)) c.alone.result c.alone.ensures

pub returns-in-End-clause-answers : goal.returns-in-End-clause-answers
returns-in-End-clause-answers g c = λ opened test opens plain decides.
    end_answers (seen_at c.args.window.now) c.args.first c.args.last c.requires.within opened test plain decides (c.look.new.steps - c.args.steps.now)
    (omega (arith, c.look.ensures.cost)) (sym c.look.ensures.seen ∙ c.in-End.is) _ refl
