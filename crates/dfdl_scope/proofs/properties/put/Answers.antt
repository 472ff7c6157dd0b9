use Rattle.std.proofs.Common.{ap, ◌∙◌}
use Rattle.std.specs.Str.{bytes_eq}
use Rattle.std.proofs.lemmas.Map.Text.{btree_map_updates_str}
use Rattle.dfdl_scope.specs.Shown.{lent_text}
use Rattle.dfdl_scope.proofs.Maps.{lent-cond}
use Rattle.dfdl_scope.proofs.properties.put.Goals as goal

pub returns-clause-ok : goal.returns-clause-ok
returns-clause-ok c = λ q.
    ap lent_text (btree_map_updates_str c.args.name.now c.args.values.now c.insert.new.self _ c.in_ok-insert.ensures.updates q)
    ∙ lent-cond (bytes_eq c.args.name.now q) _ _
