use Rattle.std.specs.Prelude.{◌||◌, map, drop, ◌+◌}
use Rattle.std.proofs.Common.{sym, ap, ◌∙◌}
use Rattle.std.proofs.lemmas.List.{take_rest}
use Rattle.dfdl_markup.specs.Values.{names_of, have_same, same_expanded}
use Rattle.dfdl_xml_names.specs.Shown.{attribute_of}
use Rattle.dfdl_xml_names.specs.Scoped.{scope_seen}
use Rattle.dfdl_xml_names.proofs.Lists.{same_from}
use Rattle.dfdl_xml_names.proofs.scope.Scope.have_same.Goals as goal

pub returns-then-is_among : goal.returns-then-is_among
returns-then-is_among c =
    let same = same_expanded (scope_seen c.args.self.now) in
    let xs = c.args.attributes.now in
    let rest = names_of (map attribute_of (drop (c.loop-at.at + 1) xs)) in
    sym (sym c.loop-at.invariant
    ∙ (same_from same xs _ c.loop-at.at c.index-attributes-at.result c.is_among.result c.loop-at-test.true c.index-attributes-at.is
    (take_rest xs (c.loop-at.at + 1)) c.is_among.ensures
    ∙ ap (λ b. b || have_same same rest) c.if-is_among.true))

pub loop-at-preserved : goal.loop-at-preserved
loop-at-preserved c =
    let same = same_expanded (scope_seen c.args.self.now) in
    let xs = c.args.attributes.now in
    let rest = names_of (map attribute_of (drop (c.loop-at.at + 1) xs)) in
    sym (same_from same xs _ c.loop-at.at c.index-attributes-at.result c.is_among.result c.loop-at-test.true c.index-attributes-at.is
    (take_rest xs (c.loop-at.at + 1)) c.is_among.ensures
    ∙ ap (λ b. b || have_same same rest) c.if-is_among.false)
    ∙ c.loop-at.invariant
