use Rattle.std.proofs.Common.{◌≡◌, ◌+◌, ◌*◌, ◌<◌, sym, ◌∙◌, arith}
use Rattle.dfdl_bits.specs.Bits.{number_of}
use Rattle.dfdl_forms.specs.declared.order.BitOrder.TheVariants.{MostFirst, LeastFirst}
use Rattle.dfdl_forms.specs.declared.order.ByteOrder.TheVariants.{Big, Little}
use Rattle.dfdl_bits.proofs.Numbers.{big-split, least-split, least_any, number_below}
use Rattle.dfdl_bits.proofs.put.joined.Goals as goal

pub returns-in-MostFirst : goal.returns-in-MostFirst
returns-in-MostFirst c = λ bytes bit is.
    let all : number_of bytes bit 8 Big MostFirst ≡ 16 * c.args.first + c.args.last = rw c.in-MostFirst.is at is in
    let split : number_of bytes bit 8 Big MostFirst ≡ number_of bytes bit 4 Big MostFirst * 16 + number_of bytes (bit + 4) 4 Big MostFirst =
    big-split bytes bit 4 4 in
    let low : number_of bytes (bit + 4) 4 Big MostFirst < 16 = number_below bytes (bit + 4) 4 Big MostFirst in
    rw c.in-MostFirst.is (omega (arith), omega (arith))

pub returns-in-LeastFirst : goal.returns-in-LeastFirst
returns-in-LeastFirst c = λ bytes bit is.
    let all : number_of bytes bit 8 Big LeastFirst ≡ c.args.first + 16 * c.args.last = rw c.in-LeastFirst.is at is in
    let same = sym (least_any bytes bit 8 Big) ∙ all in
    let split : number_of bytes bit 8 Little LeastFirst ≡ number_of bytes bit 4 Little LeastFirst + number_of bytes (bit + 4) 4 Little LeastFirst * 16 =
    least-split bytes bit 4 4 in
    let low : number_of bytes bit 4 Little LeastFirst < 16 = number_below bytes bit 4 Little LeastFirst in
    rw c.in-LeastFirst.is (least_any bytes bit 4 Big ∙ omega (arith), least_any bytes (bit + 4) 4 Big ∙ omega (arith))
