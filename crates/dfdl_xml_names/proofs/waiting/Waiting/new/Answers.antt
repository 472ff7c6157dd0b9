use Rattle.std.specs.Prelude.{map}
use Rattle.std.specs.BTreeMap.{get_by_text}
use Rattle.std.specs.Str.{bytes_eq}
use Rattle.std.proofs.Common.{ap}
use Rattle.dfdl_markup.specs.Values.{xmlns_prefix}
use Rattle.dfdl_xml_names.specs.Shown.{text_of}
use Rattle.dfdl_xml_names.specs.Waiting.{parts_in}
use Rattle.dfdl_xml_names.proofs.Put.{none_of_both}
use Rattle.dfdl_xml_names.proofs.waiting.Waiting.new.Goals as goal

pub returns : goal.returns
returns c = λ q.
    none_of_both (bytes_eq q xmlns_prefix) (map text_of c.new.result.items) (parts_in (get_by_text c.no_parts.result q))
    (ap (map text_of) c.new.ensures.items) (ap parts_in (c.no_parts.ensures q))
