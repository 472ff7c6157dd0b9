use Rattle.std.proofs.Common.{◌∙◌, sym}
use Rattle.dfdl_value.specs.Texts.{is_zero}
use Rattle.dfdl_lemmas.proofs.TrimmedLists.{without_trailing-end_passes, without_trailing-end_stops}
use Rattle.dfdl_number_text.proofs.BodyDigits.{last_zero, last_other, fewer_front}
use Rattle.dfdl_number_text.proofs.body_digits.without_zeros.Goals as goal

pub loop-rest-preserved : goal.loop-rest-preserved
loop-rest-preserved c = record {
  kept = without_trailing-end_passes is_zero c.loop-rest.rest.now c.in-len1-up.len_at_least
      (last_zero c.loop-rest.rest.now c.last-item.result c.in-len1-up.len_at_least c.last-item.is c.if-last-ne48.false) ∙ c.loop-rest.invariant.kept;
  fewer = fewer_front c.loop-rest.rest.now c.args.digits.now c.loop-rest.invariant.fewer;
}

pub returns-then-last-ne48-clause-kept : goal.returns-then-last-ne48-clause-kept
returns-then-last-ne48-clause-kept c =
    sym (without_trailing-end_stops is_zero c.loop-rest.rest.now c.in-len1-up.len_at_least
    (last_other c.loop-rest.rest.now c.last-item.result c.in-len1-up.len_at_least c.last-item.is c.if-last-ne48.true)) ∙ c.loop-rest.invariant.kept
