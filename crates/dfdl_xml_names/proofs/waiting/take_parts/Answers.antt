use Rattle.std.specs.Prelude.{None}
use Rattle.std.specs.BTreeMap.{get_by_text}
use Rattle.std.specs.Str.{bytes_eq}
use Rattle.std.proofs.Common.{ap, ◌∙◌}
use Rattle.std.proofs.lemmas.Map.Text.{btree_map_updates_text}
use Rattle.dfdl_xml_names.specs.Waiting.{parts_in}
use Rattle.dfdl_xml_names.proofs.Parts.{parts_if}
use Rattle.dfdl_xml_names.proofs.waiting.take_parts.Goals as goal

pub returns-in-Some-clause-others : goal.returns-in-Some-clause-others
returns-in-Some-clause-others c = λ q.
    ap parts_in (btree_map_updates_text c.args.prefix.now c.args.others.now c.remove.new.self None c.in-Some.ensures.updates q)
    ∙ parts_if (bytes_eq c.args.prefix.now q) (get_by_text c.args.others.now q)
