use Rattle.std.proofs.Common.{◌≡◌, ◌-◌, ◌∙◌, ap, arith, chars, length, take}
use Rattle.dfdl_operators.proofs.PlaceLemmas.{cut_there, front_chars}
use Rattle.dfdl_operators.proofs.substrings.front.Goals as goal

pub range-requires-clause-end_boundary : goal.range-requires-clause-end_boundary
range-requires-clause-end_boundary c =
    let rest = c.behind-rest in
    cut_there c.args.text.now rest.ensures.suffix.0 rest.result.now rest.ensures.suffix.1 c.utf8.text rest.utf8

pub returns : goal.returns
returns c =
    let rest = c.behind-rest in
    let end = length c.args.text.now - length rest.result.now in
    let same : end - 0 ≡ end = omega arith in
    ap chars (c.range.ensures.value ∙ ap (λ n. take n c.args.text.now) same)
    ∙ front_chars c.args.text.now rest.ensures.suffix.0 rest.result.now rest.ensures.suffix.1 c.utf8.text rest.utf8 c.args.count rest.ensures.left
