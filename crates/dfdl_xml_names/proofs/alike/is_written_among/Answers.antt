use Rattle.std.specs.Prelude.{◌||◌, drop, ◌+◌}
use Rattle.std.specs.List.{list_any}
use Rattle.std.proofs.Common.{sym, ap, ◌∙◌}
use Rattle.dfdl_markup.specs.Values.{same_name}
use Rattle.dfdl_xml_names.specs.Shown.{name_of}
use Rattle.dfdl_xml_names.specs.declared.name.Attribute.{Attribute}
use Rattle.dfdl_xml_names.proofs.Lists.{any_from, none_left}
use Rattle.dfdl_xml_names.proofs.alike.is_written_among.Goals as goal

pub returns-then-branch : goal.returns-then-branch
returns-then-branch c =
    let test = λ (a : Attribute). same_name (name_of a.name) (name_of c.args.name.now) in
    let xs = c.args.others.now in
    let rest = list_any test (drop (c.loop-other.other-index + 1) xs) in
    sym (sym c.loop-other.invariant
    ∙ (any_from test xs c.loop-other.other-index c.other-item.result c.loop-other-test.true c.other-item.is
    ∙ ap (λ b. b || rest) (sym c.in_ok-is_written_as.ensures ∙ c.if-branch.true)))

pub loop-other-preserved : goal.loop-other-preserved
loop-other-preserved c =
    let test = λ (a : Attribute). same_name (name_of a.name) (name_of c.args.name.now) in
    let xs = c.args.others.now in
    let rest = list_any test (drop (c.loop-other.other-index + 1) xs) in
    sym (any_from test xs c.loop-other.other-index c.other-item.result c.loop-other-test.true c.other-item.is
    ∙ ap (λ b. b || rest) (sym c.in_ok-is_written_as.ensures ∙ c.if-branch.false))
    ∙ c.loop-other.invariant

pub returns : goal.returns
returns c =
    let test = λ (a : Attribute). same_name (name_of a.name) (name_of c.args.name.now) in
    sym (none_left test c.args.others.now c.loop-other.other-index c.loop-other-test.false) ∙ c.loop-other.invariant
