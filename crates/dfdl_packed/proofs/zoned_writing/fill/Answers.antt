use Rattle.std.proofs.Common.{◌≡◌, ℕ, ◌+◌, ◌-◌, ◌/◌, ◌%◌, ◌^◌, ◌<◌, List, ◌++◌, map, length, take, drop, set, get_or-set_same, get_or-set_other, inl, inr, refl, ap, sym, ◌∙◌, arith}
use Rattle.std.proofs.lemmas.Bool.{cases_eq}
use Rattle.std.proofs.lemmas.List.{take-append-drop}
use Rattle.dfdl_packed.specs.Digits.{padded_digits}
use Rattle.dfdl_packed.specs.Zoned.{plain_char}
use Rattle.dfdl_packed.proofs.FillLemmas.{padded_none, padded_more, set_before}
use Rattle.dfdl_packed.proofs.ScaledLemmas.{next_quotient}
use Rattle.dfdl_packed.proofs.zoned_writing.fill.Goals as goal

pub loop-place-init : goal.loop-place-init
loop-place-init c =
    let none : c.args.count - c.args.count ≡ 0 = omega arith in
    record {
      filled = rw (none, padded_none c.args.number) (sym (take-append-drop c.args.count c.args.places.now));
      rest = rw none (omega arith);
      least = λ k above below. absurd (omega arith);
      most = λ k above below. absurd (omega arith);
    }

pub loop-place-preserved : goal.loop-place-preserved
loop-place-preserved c =
    let old = c.args.places.now in
    let n : ℕ = c.args.number in
    let place : ℕ = c.loop-place.place - 1 in
    let done : ℕ = c.args.count - c.loop-place.place in
    let here : place + 1 ≡ c.loop-place.place = omega arith in
    let more : c.args.count - place ≡ done + 1 = omega arith in
    let digit : c.pop.result ≡ n / 10 ^ done % 10 = c.pop.ensures.digit ∙ ap (λ (x : ℕ). x % 10) c.loop-place.invariant.rest in
    let char : c.from.result ≡ 48 + n / 10 ^ done % 10 = omega (arith, c.from.ensures, digit) in
    let within : place < length old = omega arith in
    let inside : place < length c.loop-place.places = omega (arith, c.loop-place.auto.places) in
    let ds : List ℕ = map plain_char (padded_digits done n) ++ drop c.args.count old in
    record {
      filled =
          ap (λ (xs : List ℕ). set xs place c.from.result) (c.loop-place.invariant.filled ∙ ap (λ (k : ℕ). take k old ++ ds) (sym here))
          ∙ set_before old ds place c.from.result within
          ∙ rw (more, padded_more done n, char) refl;
      rest = rw more (c.pop.ensures.rest ∙ ap (λ (x : ℕ). x / 10) c.loop-place.invariant.rest ∙ next_quotient n done);
      least = λ k above below. elim (cases_eq k place) [
        | inl at ↦ rw (at, get_or-set_same c.loop-place.places place c.from.result 0 inside) (omega arith)
        | inr other ↦ rw (get_or-set_other c.loop-place.places place k c.from.result 0 other) (c.loop-place.invariant.least k (omega arith) below)
      ];
      most = λ k above below. elim (cases_eq k place) [
        | inl at ↦ rw (at, get_or-set_same c.loop-place.places place c.from.result 0 inside) (omega arith)
        | inr other ↦ rw (get_or-set_other c.loop-place.places place k c.from.result 0 other) (c.loop-place.invariant.most k (omega arith) below)
      ];
    }
