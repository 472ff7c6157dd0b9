use Rattle.std.specs.Prelude.{string_bytes}
use Rattle.dfdl_markup.specs.Values as values
use Rattle.dfdl_xml_names.specs.Shown.{name_of}
use Rattle.dfdl_xml_names.proofs.Repeated.{with_written}
use Rattle.dfdl_xml_names.proofs.Texts.{is_text, on_both}
use Rattle.dfdl_xml_names.proofs.names.Written.add.Goals as goal

pub returns : goal.returns
returns c =
    let text = c.in_ok-text.field-0 in
    on_both c.insert.result c.insert.ensures.names c.insert.ensures.repeated
    (λ names repeated attributes value kept.
    let more : values.Attribute = record { name = name_of c.args.name.now; value = value } in
    with_written c.args.self.now c.insert.new.self attributes more (string_bytes text) (is_text text) c.in_ok-text.ensures names repeated kept)
