use Rattle.std.proofs.Common.{◌≡◌, ◌<◌, ◌^◌, ◌++◌, List, [], ℕ, length, filter, ap, subst}
use Rattle.std.specs.Char.{is_ascii_digit}
use Rattle.std.specs.Option.{SomeIff}
use Rattle.dfdl_value.specs.Texts.{number_of}
use Rattle.dfdl_number_text.proofs.BodyDigits.{kept_digits, kept_same, kept_ends}
use Rattle.dfdl_number_text.proofs.body.number_of.Goals as goal

pub returns : goal.returns
returns c =
    let whole : List ℕ = filter is_ascii_digit c.args.whole.now in
    let fraction : List ℕ = c.args.fraction.now in
    let kept : List ℕ = c.without_zeros-kept.result.now in
    let short : length fraction < c.args.scale → whole ≡ [] = λ less. ap (filter is_ascii_digit) (c.requires.whole less) in
    let is = c.without_zeros-kept.ensures.kept in
    let P : List ℕ → Type 0 = λ r. SomeIff c.held.result (number_of (whole ++ r) < 2 ^ 128) (number_of (whole ++ r)) in
    record {
      magnitude = number_of (whole ++ kept);
      held = subst P (kept_digits c.args.negative whole fraction kept c.args.scale c.requires.fraction c.requires.scale short is) c.held.ensures;
      ends = kept_ends c.args.negative whole fraction kept c.args.scale c.requires.fraction c.requires.scale short is;
      same = kept_same c.args.negative whole fraction kept c.args.scale c.requires.fraction c.requires.scale short is;
    }
