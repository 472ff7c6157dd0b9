use Rattle.std.specs.Prelude.{◌++◌, map, take}
use Rattle.std.proofs.Common.{subst}
use Rattle.dfdl_markup.specs.Grammar.{Prefixed}
use Rattle.dfdl_xml_names.specs.Shown.{text_of}
use Rattle.dfdl_xml_names.specs.Expanded.{IsResolved}
use Rattle.dfdl_xml_names.proofs.Parts.{spelled_more}
use Rattle.dfdl_xml_names.proofs.resolved.Resolved.take_all.Goals as goal

pub loop-part-preserved : goal.loop-part-preserved
loop-part-preserved c = λ scope names prefix is kept.
    let xs = c.args.parts.now in
    let i = c.loop-part.part-index in
    subst (IsResolved c.take.new.self scope)
    (spelled_more names prefix xs i c.part-item.result c.as_str.result.now c.loop-part-test.true c.part-item.is c.as_str.ensures.value)
    (c.in_ok-take.ensures scope (names ++ map (Prefixed prefix) (map text_of (take i xs))) prefix is
    (c.loop-part.invariant scope names prefix is kept))
