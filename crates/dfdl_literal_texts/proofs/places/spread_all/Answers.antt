use Rattle.std.proofs.Common.{◌≡◌, ◌∙◌, ap, sym, refl, arith, ℕ, length}
use Rattle.dfdl_literal_texts.specs.Texts.{after_any, spaces}
use Rattle.dfdl_literal_texts.specs.Places.{rest_at, some_marked, split}
use Rattle.dfdl_literal_texts.proofs.Marks.{split_all, split_none}
use Rattle.dfdl_literal_texts.proofs.places.spread_all.Goals as goal

pub loop-at-init : goal.loop-at-init
loop-at-init c = record {
  length = refl;
  spread = λ is_rest. split_none c.args.places.now (rest_at is_rest c.args.bytes.now) (rest_at (after_any c.args.encoding spaces is_rest) c.args.bytes.now);
}

pub returns-clause-spread : goal.returns-clause-spread
returns-clause-spread c = λ is_rest.
    let first = rest_at is_rest c.args.bytes.now in
    let second = rest_at (after_any c.args.encoding spaces is_rest) c.args.bytes.now in
    let all : c.loop-at.at ≡ length c.loop-at.places = omega (arith, c.loop-at-test.false, c.loop-at.auto.at-end, c.loop-at.invariant.length) in
    sym (split_all c.loop-at.places first second)
    ∙ ap (λ (k : ℕ). some_marked c.loop-at.places (split k first second)) (sym all)
    ∙ c.loop-at.invariant.spread is_rest
