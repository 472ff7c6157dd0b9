use Rattle.std.proofs.Common.{length}
use Rattle.dfdl_expression_eval.proofs.Resumed.{innermost_held}
use Rattle.dfdl_expression_eval.proofs.evaluating.came.Goals as goal

pub resume-requires : goal.resume-requires
resume-requires g c = record {
  held = innermost_held c.args.scratch.now.frames.items c.innermost.new.frames.items c.in-Some.frame (length c.args.scratch.now.values.items) c.in-Some.ensures.some c.requires.held;
}
