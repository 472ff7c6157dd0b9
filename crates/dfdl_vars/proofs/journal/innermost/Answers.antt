use Rattle.std.proofs.Common.{◌∙◌, arith, sym, ◌≡◌, ◌-◌, false}
use Rattle.dfdl_vars.specs.Instances.{has}
use Rattle.dfdl_vars.specs.Kept.{is_of}
use Rattle.dfdl_vars.proofs.Placed.{seek_on}
use Rattle.dfdl_vars.proofs.journal.innermost.Goals as goal

pub seeking-preserved : goal.seeking-preserved
seeking-preserved c =
    let no : has (is_of c.args.var) c.args.instances.now (c.seeking.place - 1) ≡ false = sym c.is_of_at.ensures ∙ c.if-is_of_at.false in
    record {
      from = omega (arith, c.seeking-test.true);
      same = seek_on c.args.instances.now c.args.globals c.args.var c.seeking.place c.seeking-test.true no ∙ c.seeking.invariant.same;
    }
