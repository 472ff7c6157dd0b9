use Rattle.std.proofs.Common.{◌≡◌, ℕ, ◌+◌, ◌-◌, ◌/◌, ◌%◌, ◌^◌, ◌<◌, List, ◌++◌, length, nat_eq, take, drop, set, refl, ap, sym, ◌∙◌, arith}
use Rattle.std.proofs.lemmas.List.{take-append-drop}
use Rattle.dfdl_packed.specs.Digits.{padded_digits}
use Rattle.dfdl_packed.proofs.FillLemmas.{padded_none, padded_more, set_before, set_low}
use Rattle.dfdl_packed.proofs.ScaledLemmas.{next_quotient, none_left}
use Rattle.dfdl_packed.proofs.writing.fill.Goals as goal

pub loop-place-init : goal.loop-place-init
loop-place-init c =
    let none : c.args.to - c.args.to ≡ 0 = omega arith in
    record {
      filled = rw (none, padded_none c.args.number) (sym (take-append-drop c.args.to c.args.places.now));
      rest = rw none (omega arith);
      begins = c.requires.order;
      low = λ k low. low;
    }

pub loop-place-preserved : goal.loop-place-preserved
loop-place-preserved c =
    let old = c.args.places.now in
    let n : ℕ = c.args.number in
    let place : ℕ = c.loop-place.place - 1 in
    let done : ℕ = c.args.to - c.loop-place.place in
    let here : place + 1 ≡ c.loop-place.place = omega arith in
    let more : c.args.to - place ≡ done + 1 = omega arith in
    let digit : c.pop.result ≡ n / 10 ^ done % 10 = c.pop.ensures.digit ∙ ap (λ (x : ℕ). x % 10) c.loop-place.invariant.rest in
    let within : place < length old = omega arith in
    let kept : length c.loop-place.places ≡ length old = c.loop-place.auto.places in
    let ds : List ℕ = padded_digits done n ++ drop c.args.to old in
    record {
      filled =
          ap (λ (xs : List ℕ). set xs place c.pop.result) (c.loop-place.invariant.filled ∙ ap (λ (k : ℕ). take k old ++ ds) (sym here))
          ∙ set_before old ds place c.pop.result within
          ∙ rw (more, padded_more done n, digit) refl;
      rest = rw more (c.pop.ensures.rest ∙ ap (λ (x : ℕ). x / 10) c.loop-place.invariant.rest ∙ next_quotient n done);
      begins = omega arith;
      low = λ k low. set_low c.loop-place.places place c.pop.result k (omega arith) (omega (arith, c.pop.ensures.digit)) (c.loop-place.invariant.low k low);
    }

pub returns-clause-all : goal.returns-clause-all
returns-clause-all c =
    let over : c.loop-place.place ≡ c.args.from = omega (arith, c.loop-place.invariant.begins) in
    c.is_zero.ensures
    ∙ ap (λ (rest : ℕ). nat_eq rest 0) c.loop-place.invariant.rest
    ∙ rw over (none_left c.args.number (c.args.to - c.args.from))

pub returns-clause-filled : goal.returns-clause-filled
returns-clause-filled c =
    let over : c.loop-place.place ≡ c.args.from = omega (arith, c.loop-place.invariant.begins) in
    rw over at c.loop-place.invariant.filled
