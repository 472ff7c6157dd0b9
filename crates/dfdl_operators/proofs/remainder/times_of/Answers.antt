use Rattle.std.proofs.Common.{◌≡◌, ℕ, ◌*◌, ◌/◌, ◌-◌, ◌^◌, ◌<◌, ◌∙◌, sym, ap, subst, arith, rules}
use Rattle.std.specs.Option.{SomeIff}
use Rattle.std.proofs.Math.Nat.{div-eq_of_lt}
use Rattle.dfdl_operators.proofs.DivisionLemmas.{zeros_above, zeros_below, some_longer}
use Rattle.dfdl_operators.proofs.remainder.times_of.Goals as goal

pub returns-then-left-right : goal.returns-then-left-right
returns-then-left-right c =
    let P : ℕ → Type 0 = λ n. SomeIff c.long.result.number (n < 2 ^ 128) n in
    subst P (zeros_above c.args.left.magnitude c.args.right.magnitude c.args.right.scale c.args.left.scale c.requires c.if-left-right.true) c.long.ensures.number

pub parted-requires : goal.parted-requires
parted-requires c = omega (arith, c.in-Some.ensures.1, some_longer c.args.right.magnitude (c.args.left.scale - c.args.right.scale) c.requires)

pub returns-in-Some : goal.returns-in-Some
returns-in-Some c =
    let x = c.args.left in
    let y = c.args.right in
    let is : c.parted.result.times ≡ x.magnitude * 10 ^ y.scale / (y.magnitude * 10 ^ x.scale) =
    c.parted.ensures.times ∙ ap (λ n. x.magnitude / n) c.in-Some.ensures.1 ∙ zeros_below x.magnitude y.magnitude y.scale x.scale c.requires (omega arith) in
    let fits : c.parted.result.times < 2 ^ 128 = search rules in
    (omega (arith, is, fits), is)

pub returns-in-None : goal.returns-in-None
returns-in-None c =
    let x = c.args.left in
    let y = c.args.right in
    let fits : x.magnitude < 2 ^ 128 = search rules in
    let less : x.magnitude < y.magnitude * 10 ^ (x.scale - y.scale) = omega (arith, fits, c.in-None.ensures) in
    let is : 0 ≡ x.magnitude * 10 ^ y.scale / (y.magnitude * 10 ^ x.scale) =
    sym (div-eq_of_lt less) ∙ zeros_below x.magnitude y.magnitude y.scale x.scale c.requires (omega arith) in
    (omega (arith, is), is)
