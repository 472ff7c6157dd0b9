use Rattle.std.specs.Prelude.{string_bytes}
use Rattle.std.proofs.lemmas.Map.Text.{btree_map_updates_text}
use Rattle.dfdl_xml_names.proofs.waiting.put_parts.Goals as goal

pub returns : goal.returns
returns c = btree_map_updates_text (string_bytes c.args.prefix) c.args.others.now c.insert.new.self _ c.in_ok-insert.ensures.updates
