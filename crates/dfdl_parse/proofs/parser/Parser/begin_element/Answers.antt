use Rattle.std.proofs.Common.{Bool, cond, false, OnOk, refl, subst, sym}
use Rattle.dfdl_grammar.specs.declared.instead.Instead.TheVariants.{Nothing}
use Rattle.dfdl_grammar.specs.Marks.{marked}
use Rattle.dfdl_parse.specs.declared.parser.Parser.{Parser}
use Rattle.dfdl_parse.specs.Trials.{attempt, try_nil, two_rows}
use Rattle.dfdl_parse.specs.Shown.{state_of}
use Rattle.dfdl_parse.specs.Steps.{Moved}
use Rattle.dfdl_parse.proofs.parser.Parser.begin_element.Goals as goal

pub returns-in_ok-open_mark-clause-moved : goal.returns-in_ok-open_mark-clause-moved
returns-in_ok-open_mark-clause-moved c held =
    let old = c.args.self.now in
    subst (λ (several : Bool). OnOk c.try_nil.result (Moved (cond several
    (try_nil two_rows old.region.most held c.args.id c.args.parts c.args.parts.tried.nil old.stack (marked (state_of old)))
    (attempt two_rows old.region.most held c.args.id c.args.parts Nothing old.stack (state_of old))) false old.far c.try_nil.new.self held 0)) (sym c.if-parts.true)
    (subst (λ (p : Parser). OnOk c.try_nil.result (Moved
    (try_nil two_rows p.region.most held c.args.id c.args.parts c.args.parts.tried.nil p.stack (state_of p)) false p.far c.try_nil.new.self held 0))
    c.in_ok-open_mark.ensures (c.try_nil.ensures.moved held two_rows (refl, refl)))
