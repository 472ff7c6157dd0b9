use Rattle.std.specs.Prelude.{length, ◌-◌, get_or}
use Rattle.std.specs.Str.{chars}
use Rattle.std.proofs.Common.{arith, sym, ap, ◌∙◌}
use Rattle.std.proofs.lemmas.Str.{chars-nil}
use Rattle.dfdl_xml_names.proofs.Opened.{wanted_is, wanted_of_none}
use Rattle.dfdl_xml_names.proofs.frames.last_text.Goals as goal

pub returns-then-is_empty : goal.returns-then-is_empty
returns-then-is_empty c = chars-nil ∙ sym (wanted_of_none c.args.elements.now (grind arith))

pub returns : goal.returns
returns c =
    let xs = c.args.elements.now in
    let last = c.index-elements-elements.result in
    ap chars c.as_str.ensures.value
    ∙ ((get_or xs (length xs - 1) last).whole
    ∙ sym (wanted_is xs (length xs - 1) last (grind arith)))
