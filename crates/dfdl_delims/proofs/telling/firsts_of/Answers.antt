use Rattle.dfdl_delims.proofs.Tellings.{all_told, byte_told}
use Rattle.dfdl_delims.proofs.telling.firsts_of.Goals as goal

pub loop-byte-preserved : goal.loop-byte-preserved
loop-byte-preserved c = λ place is_text stands.
    byte_told c.loop-byte.byte c.loop-byte.ones c.loop-byte.more c.with_if-ones.result c.with_if-more.result c.in_ok-alone.alone c.in_ok-alone.longer is_text
    c.with_if-ones.ensures c.with_if-more.ensures (c.in_ok-alone.ensures place is_text stands) (c.loop-byte.invariant place is_text stands)

pub returns : goal.returns
returns c = λ place is_text stands.
    all_told c.loop-byte.ones c.loop-byte.more c.some_whole.result c.some_longer.result c.loop-byte.byte is_text c.loop-byte-test.false
    (c.loop-byte.invariant place is_text stands) (c.some_whole.ensures place is_text stands) (c.some_longer.ensures.some place is_text stands)
    (c.some_longer.ensures.none place is_text stands)
