use Rattle.std.proofs.Common.{subst, sym, All}
use Rattle.std.proofs.lemmas.List.Elements.{All-push}
use Rattle.dfdl_variables.specs.Variables as spec
use Rattle.dfdl_variables.proofs.defining.push_declared.Goals as goal

-- src/defining.rt:55:1
pub returns-in_ok-push-clause-typed : goal.returns-in_ok-push-clause-typed
returns-in_ok-push-clause-typed c =
    subst (All spec.IsTyped) (sym c.in_ok-push.ensures.items)
    (All-push spec.IsTyped c.args.variables.now.items c.in_ok-declared_at.field-0 c.requires.typed c.in_ok-declared_at.ensures.typed)
