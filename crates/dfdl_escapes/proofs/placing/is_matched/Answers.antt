use Rattle.std.proofs.Common.{arith}
use Rattle.dfdl_delims.specs.Deciding.{goes_on}
use Rattle.dfdl_delims.specs.Longest.{found_shown}
use Rattle.dfdl_escapes.proofs.Matching.{told-matched}
use Rattle.dfdl_escapes.proofs.placing.is_matched.Goals as goal

pub returns : goal.returns
returns g c = λ opened holds.
    let decides = c.longer_texts_are_decided.ensures opened in
    let found = c.in_ok-glance.glance.found in
    told-matched c.args.window.now opened (goes_on opened) c.args.bytes.now c.args.from _ _ (found_shown found) c.is_text.result decides
    c.requires.holds c.requires.within (omega arith) (omega arith)
    (c.in_ok-glance.ensures.answers opened (goes_on opened) holds decides).reached c.is_text.ensures
