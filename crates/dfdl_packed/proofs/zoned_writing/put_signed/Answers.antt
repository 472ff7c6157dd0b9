use Rattle.std.proofs.Common.{◌≡◌, ℕ, ◌<◌, List, map, length, take, drop, set, get_or, refl, ap, ◌∙◌, arith}
use Rattle.std.proofs.lemmas.List.{length-map}
use Rattle.dfdl_forms.specs.Types.{form_of}
use Rattle.dfdl_packed.specs.Digits.{padded_digits}
use Rattle.dfdl_packed.specs.Zoned.{plain_char, char_in, signed_chars}
use Rattle.dfdl_packed.proofs.FillLemmas.{length-padded_digits}
use Rattle.dfdl_packed.proofs.ZonedLemmas.{signed_is, place_of_digit, set_in_front}
use Rattle.dfdl_packed.proofs.zoned_writing.put_signed.Goals as goal

pub returns-clause-chars : goal.returns-clause-chars
returns-clause-chars c = λ z negative size.
    let form = c.args.form.now in
    let count : ℕ = c.count_of-count.result in
    let digits : List ℕ = padded_digits count c.args.number.size in
    let place : ℕ = c.sign_place.result in
    let long : length digits ≡ count = length-padded_digits count c.args.number.size in
    let within : place < length digits = omega (arith, c.sign_place.ensures.inside) in
    let sign : ℕ = char_in (form_of form.kind) form.style c.args.number.negative (get_or digits place 0) in
    let signed : signed_chars (form_of form.kind) form c.args.number.negative digits ≡ set (map plain_char digits) place sign =
    signed_is (form_of form.kind) form c.args.number.negative digits place (omega (arith, c.count_of-count.ensures.some)) (rw long c.sign_place.ensures.place) in
    let written : take count c.put_sign.new.chars ≡ set (map plain_char digits) place sign =
    ap (take count) c.put_sign.ensures
    ∙ rw (c.fill.ensures.filled, place_of_digit digits (drop count c.args.into.now) place within)
    (set_in_front (map plain_char digits) (drop count c.args.into.now) place sign count (length-map digits plain_char ∙ long) c.sign_place.ensures.inside) in
    rw (← negative, ← size, ← c.count_of-count.ensures.count, written, signed) refl
