use Rattle.std.proofs.Common.{◌∙◌, ap}
use Rattle.dfdl_compile.specs.Components.{branch_keys}
use Rattle.dfdl_compile.specs.Keying.{keys_at_number, keys_told}
use Rattle.dfdl_compile.proofs.Fitting.{keys_end, keys_more}
use Rattle.dfdl_compile.proofs.keying.branch_keys.Goals as goal

pub loop-at-preserved : goal.loop-at-preserved
loop-at-preserved c =
    keys_more (keys_at_number c.args.schema.now c.args.judgements.now) c.args.branches.now c.loop-at.at _ c.in_ok-place.field-0
    (keys_told c.args.judgements.now c.number-number.result) c.loop-at.made.items c.push_told.new.made.items
    (branch_keys (keys_at_number c.args.schema.now c.args.judgements.now) 0 c.args.branches.now) c.loop-at-test.true c.in_ok-place.ensures
    (ap (keys_told c.args.judgements.now) c.number-number.ensures) c.in_ok-push_told.ensures c.loop-at.invariant

pub returns : goal.returns
returns c =
    c.from_vec.ensures
    ∙ keys_end (keys_at_number c.args.schema.now c.args.judgements.now) c.args.branches.now c.loop-at.at c.loop-at.made.items
    (branch_keys (keys_at_number c.args.schema.now c.args.judgements.now) 0 c.args.branches.now) c.loop-at-test.false c.loop-at.invariant
