use Rattle.std.proofs.Common.{◌≡◌, ◌<◌, ◌-◌, ◌+◌, ◌∙◌, sym, ap, arith}
use Rattle.dfdl_writings.specs.Lengths.{first_count}
use Rattle.dfdl_writings.proofs.Counts.{found, further, none}
use Rattle.dfdl_writings.proofs.lengths.first_count.Goals as goal

pub returns-then-fits_bytes-clause-value : goal.returns-then-fits_bytes-clause-value
returns-then-fits_bytes-clause-value c =
    let some : 0 < c.args.most - c.loop-more.more = omega (arith, c.loop-more-test.true) in
    sym (found c.args.form.now c.args.value.now _ (c.loop-more.more + 1) some (sym c.fits_bytes.ensures ∙ c.if-fits_bytes.true))
    ∙ c.loop-more.invariant

pub loop-more-preserved : goal.loop-more-preserved
loop-more-preserved c =
    let some : 0 < c.args.most - c.loop-more.more = omega (arith, c.loop-more-test.true) in
    let fewer : c.args.most - (c.loop-more.more + 1) ≡ c.args.most - c.loop-more.more - 1 = omega arith in
    ap (λ n. first_count c.args.form.now c.args.value.now n (c.loop-more.more + 1 + 1)) fewer
    ∙ (sym (further c.args.form.now c.args.value.now _ (c.loop-more.more + 1) some (sym c.fits_bytes.ensures ∙ c.if-fits_bytes.false))
    ∙ c.loop-more.invariant)

pub returns-clause-value : goal.returns-clause-value
returns-clause-value c =
    let all : c.args.most - c.loop-more.more ≡ 0 = omega (arith, c.loop-more-test.false) in
    sym (none c.args.form.now c.args.value.now _ (c.loop-more.more + 1) all) ∙ c.loop-more.invariant
