use Rattle.std.specs.Prelude.{string_bytes}
use Rattle.std.proofs.lemmas.Map.Text.{btree_map_updates_text}
use Rattle.dfdl_xml_names.proofs.bindings.put.Goals as goal

pub returns-clause-put : goal.returns-clause-put
returns-clause-put c = btree_map_updates_text (string_bytes c.args.prefix) c.args.map.now c.insert.new.self _ c.in_ok-before.ensures.updates
