use Rattle.std.specs.Prelude.{string_bytes}
use Rattle.std.proofs.lemmas.Map.Text.{btree_set_updates_text}
use Rattle.dfdl_xml_names.proofs.pairs.add_text.Goals as goal

pub returns-clause-others : goal.returns-clause-others
returns-clause-others c = λ q. btree_set_updates_text (string_bytes c.args.text) c.args.texts.now c.insert.new.self _ c.in_ok-is_new.ensures.updates q
