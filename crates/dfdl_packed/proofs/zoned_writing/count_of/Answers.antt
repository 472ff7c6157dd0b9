use Rattle.std.proofs.Common.{◌≡◌, ◌≤◌, arith}
use Rattle.dfdl_packed.specs.Digits.{digit_count}
use Rattle.dfdl_packed.proofs.ScaledLemmas.{digit_count_is, digits_few}
use Rattle.dfdl_packed.proofs.zoned_writing.count_of.Goals as goal

pub returns-clause-count : goal.returns-clause-count
returns-clause-count c =
    let few : c.len.result ≤ 80 = digits_few c.args.size.now c.len.result 80 c.len.ensures.digits c.requires (omega arith) in
    let same : digit_count 79 c.args.size.now ≡ c.len.result = digit_count_is 79 c.args.size.now c.len.result c.len.ensures.digits few in
    rw same (omega arith)

pub returns-clause-few : goal.returns-clause-few
returns-clause-few c =
    let few : c.len.result ≤ 80 = digits_few c.args.size.now c.len.result 80 c.len.ensures.digits c.requires (omega arith) in
    omega arith
