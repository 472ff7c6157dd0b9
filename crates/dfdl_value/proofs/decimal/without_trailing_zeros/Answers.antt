use Rattle.std.proofs.Common.{◌∙◌, sym, ap, rules}
use Rattle.std.specs.Char.{is_ascii_digit}
use Rattle.std.specs.List.{list_all}
use Rattle.dfdl_value.proofs.DecimalLemmas.{list_all-empty, list_all-without_trailing}
use Rattle.dfdl_value.specs.Texts.{is_zero}
use Rattle.dfdl_lemmas.proofs.TrimmedLists.{without_trailing-end_passes, without_trailing-end_stops}
use Rattle.dfdl_value.proofs.decimal.without_trailing_zeros.Goals as goal

pub loop-rest-preserved : goal.loop-rest-preserved
loop-rest-preserved c =
    without_trailing-end_passes is_zero c.loop-rest.rest.now c.in-len1-up.len_at_least (search rules) ∙ c.loop-rest.invariant

pub returns-then-last-ne48-clause-kept : goal.returns-then-last-ne48-clause-kept
returns-then-last-ne48-clause-kept c =
    sym (without_trailing-end_stops is_zero c.loop-rest.rest.now c.in-len1-up.len_at_least (search rules)) ∙ c.loop-rest.invariant

pub returns-then-last-ne48-clause-digits : goal.returns-then-last-ne48-clause-digits
returns-then-last-ne48-clause-digits c =
    ap (list_all is_ascii_digit) (returns-then-last-ne48-clause-kept c) ∙ list_all-without_trailing c.args.digits.now c.requires

pub returns-in_default-clause-digits : goal.returns-in_default-clause-digits
returns-in_default-clause-digits c = list_all-empty c.loop-rest.rest.now c.in_default.len_below
