use Rattle.std.proofs.Common.{◌∙◌, sym, refl}
use Rattle.std.proofs.lemmas.Bool.{not-false, not-true}
use Rattle.dfdl_rows.proofs.Kept.{name_more, pushed}
use Rattle.dfdl_rows.proofs.looking.add_element.Goals as goal

pub returns-then-not-branch : goal.returns-then-not-branch
returns-then-not-branch c = λ old names.
    let there = sym (names.exactly c.args.name) ∙ not-false _ (sym c.in_ok-insert.ensures.added ∙ c.if-not-branch.true) in record {
      twice = λ is. refl;
      same = λ is. absurd (cc);
      names = λ is. absurd (cc);
    }

pub returns : goal.returns
returns c = λ old names.
    let new = sym (names.exactly c.args.name) ∙ not-true _ (sym c.in_ok-insert.ensures.added ∙ c.if-not-branch.false) in record {
      twice = λ is. absurd (cc);
      same = λ is. refl;
      names = λ is. (name_more _ _ old c.args.name c.in_ok-insert.ensures.updates.0 names, pushed _ _ c.args.name c.in_ok-push.ensures.items);
    }
