use Rattle.std.proofs.Common.{ℕ, OnOk, false, length, subst}
use Rattle.dfdl_paths.specs.declared.place.Start.TheVariants.{At}
use Rattle.dfdl_parse.specs.declared.frame.Parts.{Parts}
use Rattle.dfdl_parse.specs.declared.parser.Parser.{Parser}
use Rattle.dfdl_parse.specs.Shown.{state_of}
use Rattle.dfdl_parse.specs.Stating.{with_behind}
use Rattle.dfdl_parse.specs.Steps.{Moved}
use Rattle.dfdl_parse.specs.Trials.{enter_element}
use Rattle.dfdl_parse.proofs.parser.Parser.begin_with.Goals as goal

pub returns-clause-moved : goal.returns-clause-moved
returns-clause-moved c held =
    let old = c.args.self.now in
    let parts : Parts = c.parts_here-parts.result in
    subst (λ (q : Parts). OnOk c.begin_element.result (Moved
    (enter_element old.region.most held c.args.id q (with_behind c.args.behind (At (length old.region.nodes)) old.stack) (state_of old)) false old.far c.begin_element.new.self held 0))
    c.parts_here-parts.ensures
    (subst (λ (n : ℕ). OnOk c.begin_element.result (Moved
    (enter_element old.region.most held c.args.id parts (with_behind c.args.behind (At n) old.stack) (state_of old)) false old.far c.begin_element.new.self held 0))
    c.count.ensures.count
    (subst (λ (p : Parser). OnOk c.begin_element.result (Moved
    (enter_element p.region.most held c.args.id parts p.stack (state_of p)) false p.far c.begin_element.new.self held 0))
    c.in_ok-push_behind.ensures (c.begin_element.ensures.moved held)))
