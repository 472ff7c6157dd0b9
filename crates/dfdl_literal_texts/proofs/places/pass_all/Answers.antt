use Rattle.std.proofs.Common.{◌≡◌, ◌∙◌, ap, sym, refl, arith, ℕ}
use Rattle.dfdl_literal_texts.specs.Places.{rest_at, some_marked, split, taken_at}
use Rattle.dfdl_literal_texts.proofs.Marks.{split_all, split_none}
use Rattle.dfdl_literal_texts.proofs.places.pass_all.Goals as goal

pub loop-at-init : goal.loop-at-init
loop-at-init c = record {
  length = refl;
  passed = λ is_rest. split_all c.args.places.now (taken_at c.args.encoding c.args.fold c.args.piece is_rest c.args.bytes.now) (rest_at is_rest c.args.bytes.now);
}

pub returns-clause-passed : goal.returns-clause-passed
returns-clause-passed c = λ is_rest.
    let first = taken_at c.args.encoding c.args.fold c.args.piece is_rest c.args.bytes.now in
    let second = rest_at is_rest c.args.bytes.now in
    let none : c.loop-at.at ≡ 0 = omega (arith, c.loop-at-test.false) in
    sym (split_none c.loop-at.places first second)
    ∙ ap (λ (k : ℕ). some_marked c.loop-at.places (split k first second)) (sym none)
    ∙ c.loop-at.invariant.passed is_rest
