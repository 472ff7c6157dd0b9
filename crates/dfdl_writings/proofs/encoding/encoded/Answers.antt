use Rattle.std.proofs.Common.{[], refl, sym, ap, ◌∙◌, Some}
use Rattle.dfdl_chars.proofs.Texts.{text_lacks, text_more}
use Rattle.dfdl_writings.proofs.encoding.encoded.Goals as goal

pub returns-in-Err : goal.returns-in-Err
returns-in-Err c =
    sym (text_lacks c.args.encoding c.args.characters.now c.loop-c.c-index _ c.loop-c-test.true c.c-item.is (c.in-Err.ensures.refused.0 refl))

pub loop-c-preserved : goal.loop-c-preserved
loop-c-preserved c =
    text_more c.args.encoding c.args.characters.now c.loop-c.c-index _ [] c.loop-c.bytes.items _ c.loop-c-test.true c.c-item.is
    c.in-Ok.ensures.written c.loop-c.invariant
    ∙ ap Some (sym c.in_ok-extend_from_slice.ensures.items)
