use Rattle.std.proofs.Common.{◌≡◌, ◌<◌, length, refl, ◌∙◌, arith}
use Rattle.std.proofs.lemmas.List.{length-set}
use Rattle.dfdl_pieces.proofs.ByteLists.{no_byte, one_byte, all_bytes, power_at}
use Rattle.dfdl_pieces.proofs.bytes.number_bytes.Goals.{in-Big, in-Little}
use Rattle.dfdl_pieces.proofs.bytes.number_bytes.Goals as goal

pub loop-place-init : goal.loop-place-init
loop-place-init c = (refl, no_byte c.args.by _ _ _)

pub loop-place-preserved : goal.loop-place-preserved
loop-place-preserved c =
    let bytes = c.loop-place.bytes in
    let here = c.loop-place-test.true in
    let few = c.requires in
    let long : length bytes ≡ 8 = c.loop-place.invariant.0 in
    let within : c.loop-place.place < length bytes = omega arith in
    let power : c.match-by.power ≡ power_at c.args.by c.args.count c.loop-place.place =
    elim c.match-by.branch [ in-Big w ↦ cc | in-Little w ↦ cc ] in
    (length-set bytes _ _ ∙ long, one_byte c.args.by _ _ _ c.match-by.power bytes here within power c.loop-place.invariant.1)

pub returns : goal.returns
returns c =
    let done : c.loop-place.place ≡ c.args.count = omega (arith, c.loop-place.auto.place-end, c.loop-place-test.false) in
    all_bytes c.args.by _ _ _ _ done c.loop-place.invariant.1
