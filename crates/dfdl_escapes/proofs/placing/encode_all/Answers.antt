use Rattle.std.proofs.Common.{refl, sym, ap, ◌∙◌, Some}
use Rattle.dfdl_chars.proofs.Texts.{text_lacks, text_more}
use Rattle.dfdl_escapes.proofs.placing.encode_all.Goals as goal

pub returns-in-Err-clause-lacks : goal.returns-in-Err-clause-lacks
returns-in-Err-clause-lacks c = λ lacks.
    text_lacks c.args.enc c.args.text.now c.loop-c.c-index _ c.loop-c-test.true c.c-item.is (c.in-Err.ensures.refused.0 refl)

pub loop-c-preserved : goal.loop-c-preserved
loop-c-preserved c =
    text_more c.args.enc c.args.text.now c.loop-c.c-index _ c.args.into.now.items c.loop-c.into.items _ c.loop-c-test.true c.c-item.is
    c.in-Ok.ensures.written c.loop-c.invariant
    ∙ ap Some (sym c.in_ok-extend_from_slice.ensures.items)
