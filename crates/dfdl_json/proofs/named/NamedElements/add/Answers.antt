use Rattle.dfdl_json.proofs.ElementNames.{more_names}
use Rattle.dfdl_json.proofs.named.NamedElements.add.Goals as goal

pub returns-in_ok-push-clause-names : goal.returns-in_ok-push-clause-names
returns-in_ok-push-clause-names c =
    more_names c.args.terms.now c.args.self.now.rows.items c.push.new.self.items c.args.row _ _ c.name_of.result c.name_of.ensures
    c.in_ok-insert.ensures.updates.0 c.in_ok-push.ensures.items c.requires.named
