use Rattle.std.proofs.Common.{◌∙◌}
use Rattle.dfdl_splice.proofs.Numbers.{same_bits}
use Rattle.dfdl_splice.proofs.copy.copy_few.Goals as goal

pub returns : goal.returns
returns c = record {
  copied = same_bits c.args.order _ _ c.args.at c.args.begin c.args.len (c.put_number_64.ensures.number ∙ c.number_at_64-number.ensures.number);
  kept = λ k h. c.put_number_64.ensures.kept.before k h;
}
