use Rattle.std.specs.Prelude.{string_bytes}
use Rattle.std.proofs.lemmas.Map.Text.{btree_map_updates_text}
use Rattle.dfdl_statements.proofs.names.add.Goals as goal

pub returns : goal.returns
returns c = btree_map_updates_text (string_bytes c.args.name) c.args.names.now c.insert.new.self _ c.in_ok-insert.ensures.updates
