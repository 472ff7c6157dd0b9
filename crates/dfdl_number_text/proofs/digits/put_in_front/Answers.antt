use Rattle.std.proofs.Common.{◌≡◌, ℕ, ◌+◌, ◌/◌, ◌%◌, ◌^◌, Bool, List, ◌∷◌, length, refl, ap, sym, subst, ◌∙◌, arith}
use Rattle.std.proofs.Math.Nat.{div-one, pow-zero}
use Rattle.dfdl_number_text.specs.Digits.{digit_character}
use Rattle.dfdl_number_text.specs.Written.{IsPut, digit_text, separator_behind, separator_if}
use Rattle.dfdl_number_text.proofs.DigitLemmas.{next_quotient}
use Rattle.dfdl_number_text.proofs.Grouping.{next_in_group}
use Rattle.dfdl_number_text.proofs.WriteLists.{put_none, put_before, text_none, text_more, text_length, text_longer}
use Rattle.dfdl_number_text.proofs.digits.put_in_front.Goals as goal

pub loop-behind-init : goal.loop-behind-init
loop-behind-init c =
    let d = c.args.digits in
    let none = text_none c.args.groups d.base d.number in
    record {
      place = omega (arith, ap length none);
      rest = sym (ap (λ (p : ℕ). d.number / p) (pow-zero d.base) ∙ div-one d.number);
      group = record { few = omega arith; some = λ some. absurd (omega (arith, some)); within = λ some. omega arith; same = λ some. refl };
      put = rw none (put_none c.args.into.now c.args.end);
    }

pub put_digit-place-requires-clause-room : goal.put_digit-place-requires-clause-room
put_digit-place-requires-clause-room c =
    let d = c.args.digits in
    let behind : ℕ = c.loop-behind.behind in
    let one = text_length c.args.groups d.base (behind + 1) behind d.number refl in
    let few = text_longer c.args.groups d.base (behind + 1) d.count d.number (omega arith) in
    let tail = ap (λ (b : Bool). length (separator_if b c.args.groups.separator)) (c.ends_group-ends.ensures.group behind c.loop-behind.invariant.group) in
    omega (arith, one, few, tail, c.loop-behind.invariant.place, c.requires.room)

pub loop-behind-preserved : goal.loop-behind-preserved
loop-behind-preserved c =
    let groups = c.args.groups in
    let d = c.args.digits in
    let behind : ℕ = c.loop-behind.behind in
    let piece : List ℕ = digit_character (d.number / d.base ^ behind % d.base) ∷ separator_behind groups.separator groups.size behind in
    let digit : c.last_digit-last.result.digit ≡ d.number / d.base ^ behind % d.base = c.last_digit-last.ensures.digit ∙ ap (λ (n : ℕ). n % d.base) c.loop-behind.invariant.rest in
    let one = text_length groups d.base (behind + 1) behind d.number refl in
    let ends = c.ends_group-ends.ensures.group behind c.loop-behind.invariant.group in
    let pieces : digit_character c.last_digit-last.result.digit ∷ separator_if c.ends_group-ends.result groups.separator ≡ piece =
    ap (λ (x : ℕ). digit_character x ∷ separator_if c.ends_group-ends.result groups.separator) digit
    ∙ ap (λ (b : Bool). digit_character (d.number / d.base ^ behind % d.base) ∷ separator_if b groups.separator) ends in
    let put : IsPut c.loop-behind.into c.put_digit-place.result piece c.put_digit-place.new.into =
    subst (λ (xs : List ℕ). IsPut c.loop-behind.into c.put_digit-place.result xs c.put_digit-place.new.into) pieces c.put_digit-place.ensures.put in
    let long = ap length pieces in
    record {
      place = omega (arith, one, long, c.loop-behind.invariant.place, c.put_digit-place.ensures.place);
      rest = c.last_digit-last.ensures.front ∙ ap (λ (n : ℕ). n / d.base) c.loop-behind.invariant.rest ∙ next_quotient d.base d.number behind;
      group = rw c.more_in_group-in_group.ensures (next_in_group groups.size behind c.loop-behind.in_group c.ends_group-ends.result c.loop-behind.invariant.group c.ends_group-ends.ensures.value);
      put = rw (text_more groups d.base behind d.number)
          (put_before c.args.into.now c.loop-behind.into c.put_digit-place.new.into c.put_digit-place.result c.loop-behind.place piece (digit_text groups d.base behind d.number)
          (omega (arith, c.loop-behind.invariant.place, c.requires.inside)) (omega (arith, c.put_digit-place.ensures.place)) c.loop-behind.invariant.put put);
    }

pub more_in_group-in_group-requires : goal.more_in_group-in_group-requires
more_in_group-in_group-requires c = let few = c.loop-behind.invariant.group.few in omega (arith, few)
