use Rattle.std.specs.Prelude.{map}
use Rattle.std.specs.BTreeMap.{get_by_text}
use Rattle.std.specs.Str.{bytes_eq, chars}
use Rattle.std.proofs.Common.{sym, ◌∙◌}
use Rattle.dfdl_markup.specs.Values.{xmlns_prefix}
use Rattle.dfdl_xml_names.specs.Shown.{text_of}
use Rattle.dfdl_xml_names.specs.Waiting.{parts_in}
use Rattle.dfdl_xml_names.proofs.Put.{added_here, added_other, apart_from, here}
use Rattle.dfdl_xml_names.proofs.Texts.{on_ok}
use Rattle.dfdl_xml_names.proofs.waiting.Waiting.add.Goals as goal

pub returns-then-is_xmlns : goal.returns-then-is_xmlns
returns-then-is_xmlns c =
    let p = c.args.prefix.now in
    let waiting = c.args.self.now in
    on_ok c.push_text.result c.push_text.ensures
    (λ more q.
    added_here (chars c.args.part.now) (bytes_eq q xmlns_prefix) (bytes_eq p q) (map text_of c.push_text.new.texts.items) (map text_of waiting.declarations.items)
    (parts_in (get_by_text waiting.others q)) (here p q c.utf8.prefix (sym c.is_xmlns.ensures ∙ c.if-is_xmlns.true)) more)

pub returns : goal.returns
returns c =
    let p = c.args.prefix.now in
    let waiting = c.args.self.now in
    on_ok c.add_part.result c.add_part.ensures
    (λ more q.
    added_other (chars c.args.part.now) (bytes_eq q xmlns_prefix) (bytes_eq p q) (parts_in (get_by_text c.add_part.new.others q)) (parts_in (get_by_text waiting.others q))
    (map text_of waiting.declarations.items) (apart_from p q c.utf8.prefix (sym c.is_xmlns.ensures ∙ c.if-is_xmlns.false)) (more q))
