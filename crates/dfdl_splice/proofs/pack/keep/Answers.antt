use Rattle.std.proofs.Common.{◌^◌, ◌-◌, arith}
use Rattle.dfdl_splice.proofs.Packs.{kept_joined, kept_behind, within_at}
use Rattle.dfdl_splice.proofs.pack.keep.Goals as goal

pub joined-requires-clause-first : goal.joined-requires-clause-first
joined-requires-clause-first c =
    within_at (2 ^ 62) c.args.kept c.args.entries.now.items (c.args.kept - 1) c.index.result.now c.requires.within (omega arith) (omega arith) c.index.ensures

pub returns-in-Some-clause-kept : goal.returns-in-Some-clause-kept
returns-in-Some-clause-kept c =
    kept_joined c.args.entries.now.items c.args.kept (c.args.kept - 1) c.index.result.now c.args.entry c.in-Some.both (omega arith) (omega arith) c.index.ensures c.in-Some.ensures

pub returns-in-None-clause-kept : goal.returns-in-None-clause-kept
returns-in-None-clause-kept c =
    kept_behind c.args.entries.now.items c.args.kept (c.args.kept - 1) c.index.result.now c.args.entry (omega arith) (omega arith) c.index.ensures c.in-None.ensures
