use Rattle.std.specs.Prelude.{Vec, String, map, if◌then◌else◌}
use Rattle.std.specs.BTreeMap.{get_by_text}
use Rattle.std.specs.Str.{bytes_eq}
use Rattle.std.proofs.Common.{Global, sym, ap, ◌∙◌}
use Rattle.dfdl_markup.specs.Values.{xmlns_prefix}
use Rattle.dfdl_xml_names.specs.Shown.{text_of}
use Rattle.dfdl_xml_names.specs.Waiting.{parts_in}
use Rattle.dfdl_xml_names.proofs.Put.{apart_from, here, taken_here, taken_other}
use Rattle.dfdl_xml_names.proofs.Texts.{is_xmlns}
use Rattle.dfdl_xml_names.proofs.waiting.Waiting.take.Goals as goal

pub returns-then-is_xmlns-clause-parts : goal.returns-then-is_xmlns-clause-parts
returns-then-is_xmlns-clause-parts c =
    let p = c.args.prefix.now in
    let waiting = c.args.self.now in
    ap (λ (v : Vec (String Global) Global). map text_of v.items) c.replace.ensures.value
    ∙ sym (ap (λ b. if b then map text_of waiting.declarations.items else parts_in (get_by_text waiting.others p))
    (sym (is_xmlns p c.utf8.prefix) ∙ (sym c.is_xmlns.ensures ∙ c.if-is_xmlns.true)))

pub returns-then-is_xmlns-clause-others : goal.returns-then-is_xmlns-clause-others
returns-then-is_xmlns-clause-others c = λ q.
    let p = c.args.prefix.now in
    let waiting = c.args.self.now in
    taken_here (bytes_eq q xmlns_prefix) (bytes_eq p q) (map text_of c.replace.new.dest.items) (map text_of waiting.declarations.items)
    (parts_in (get_by_text waiting.others q)) (here p q c.utf8.prefix (sym c.is_xmlns.ensures ∙ c.if-is_xmlns.true))
    (ap (λ (v : Vec (String Global) Global). map text_of v.items) c.replace.ensures.after ∙ ap (map text_of) c.new.ensures.items)

pub returns-clause-parts : goal.returns-clause-parts
returns-clause-parts c =
    let p = c.args.prefix.now in
    let waiting = c.args.self.now in
    c.take_parts.ensures.parts
    ∙ sym (ap (λ b. if b then map text_of waiting.declarations.items else parts_in (get_by_text waiting.others p))
    (sym (is_xmlns p c.utf8.prefix) ∙ (sym c.is_xmlns.ensures ∙ c.if-is_xmlns.false)))

pub returns-clause-others : goal.returns-clause-others
returns-clause-others c = λ q.
    let p = c.args.prefix.now in
    let waiting = c.args.self.now in
    taken_other (bytes_eq q xmlns_prefix) (bytes_eq p q) (parts_in (get_by_text c.take_parts.new.others q)) (parts_in (get_by_text waiting.others q))
    (map text_of waiting.declarations.items) (apart_from p q c.utf8.prefix (sym c.is_xmlns.ensures ∙ c.if-is_xmlns.false)) (c.take_parts.ensures.others q)
