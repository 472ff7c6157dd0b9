use Rattle.std.proofs.Common.{◌≡◌, ℕ, ◌+◌, ◌*◌, ◌/◌, ◌<◌, ◌≤◌, get_or, length, arith, inl, inr}
use Rattle.dfdl_bits.specs.declared.window.Seen.TheVariants.{Byte}
use Rattle.dfdl_chars.specs.Decoding.{in_box, no_look}
use Rattle.dfdl_chars.proofs.Runs.{utf8_single, narrow_single, utf8_stops, ascii_stops}
use Rattle.dfdl_chars.proofs.run.decode_run.Goals as goal

pub returns-in-Utf8-clause-each : goal.returns-in-Utf8-clause-each
returns-in-Utf8-clause-each g c = λ i within.
    let box = in_box c.args.window.now c.args.stop in
    let k : ℕ = c.args.bit / 8 + i in
    let inside : 8 * k + 8 ≤ c.args.stop = omega (arith, c.run_below.ensures.few) in
    let seen = c.run_below.ensures.seen i within in
    let small = c.run_below.ensures.below i 0 within in
    elim c.in-Utf8.is [
      | inl e ↦ rw e (utf8_single box k _ (c.args.steps.now + i) inside seen small)
      | inr e ↦ rw e (narrow_single box k _ (c.args.steps.now + i) inside seen 128 small)
    ]

pub returns-in-Utf8-clause-whole : goal.returns-in-Utf8-clause-whole
returns-in-Utf8-clause-whole g c = λ short.
    let box = in_box c.args.window.now c.args.stop in
    let count : ℕ = length c.run_below.result.now in
    let k : ℕ = c.args.bit / 8 + count in
    let high : (b : ℕ) → 8 * k + 8 ≤ box.stop → box.look k ≡ Byte b → 128 ≤ b =
    (λ b inside seen. c.run_below.ensures.whole b (omega arith) seen) in
    elim c.in-Utf8.is [
      | inl e ↦ rw e (utf8_stops box k (no_look c.run_below.new.steps) high)
      | inr e ↦ rw e (ascii_stops box k (no_look c.run_below.new.steps) high)
    ]

pub returns-in-Iso88591-clause-each : goal.returns-in-Iso88591-clause-each
returns-in-Iso88591-clause-each g c = λ i within.
    let box = in_box c.args.window.now c.args.stop in
    let k : ℕ = c.args.bit / 8 + i in
    let inside : 8 * k + 8 ≤ c.args.stop = omega (arith, c.run.ensures.few) in
    let byte : get_or c.run.result.now i 0 < 256 = c.run.ensures.bytes i 0 within in
    rw c.in-Iso88591.is
    (narrow_single box k _ (c.args.steps.now + i) inside (c.run.ensures.seen i within) 256 byte)
