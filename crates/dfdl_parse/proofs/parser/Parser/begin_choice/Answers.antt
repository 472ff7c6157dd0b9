use Rattle.std.proofs.Common.{ℕ, Option, OnOk, false, subst}
use Rattle.dfdl_grammar.specs.Marks.{pointed}
use Rattle.dfdl_parse.specs.declared.parser.Parser.{Parser}
use Rattle.dfdl_parse.specs.Points.{try_branch}
use Rattle.dfdl_parse.specs.Shown.{state_of}
use Rattle.dfdl_parse.specs.Steps.{Moved}
use Rattle.dfdl_parse.proofs.parser.Parser.begin_choice.Goals as goal

pub returns-clause-moved : goal.returns-clause-moved
returns-clause-moved c held cost free =
    let old = c.args.self.now in
    subst (λ (row : Option ℕ). OnOk c.try_branch.result (Moved (try_branch cost held c.args.id 0 row old.stack (pointed c.args.initiated (state_of old))) false old.far
    c.try_branch.new.self held 0)) c.first_of-first.ensures
    (subst (λ (p : Parser). OnOk c.try_branch.result (Moved (try_branch cost held c.args.id 0 c.first_of-first.result p.stack (state_of p)) false p.far
    c.try_branch.new.self held 0)) c.in_ok-open_mark.ensures (c.try_branch.ensures.moved held cost free))
