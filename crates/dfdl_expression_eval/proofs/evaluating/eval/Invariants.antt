use Rattle.std.proofs.Common.{◌≡◌, ℕ, ◌+◌, length}
use Rattle.dfdl_expressions.specs.Nodes.{IsExpression}
use Rattle.dfdl_expression_eval.specs.Asks.{Is}
use Rattle.dfdl_expression_eval.specs.Machine.{comes_to, focus_left, frames_left, held_by, left_over}
use Rattle.dfdl_expression_eval.specs.Meanings.{meaning}
use Rattle.dfdl_expression_eval.specs.Nesting.{IsNested}
use Rattle.dfdl_expression_eval.specs.Rooms.{HasRoom}
use Rattle.dfdl_expression_eval.specs.Runs.{run}
use Rattle.dfdl_expression_eval.proofs.evaluating.eval.Given as goal

-- what is left comes to what the expression means
abbrev pub invariant-loop-next : goal.invariant-loop-next
invariant-loop-next g l =
    IsExpression l.expression
    × (held_by l.scratch.frames.items ≡ length l.scratch.values.items)
    × (comes_to g.E.Env.answers g.E.Env.read l.expression l.focus (left_over l.expression l.scratch.frames.items l.scratch.values.items (λ v. Is v)) l.env
    ≡ run g.E.Env.answers g.E.Env.read (meaning l.expression) l.fn.env)
    × IsNested l.expression l.scratch.frames.items l.focus
    × ((room : ℕ) → HasRoom room l.fn.scratch → HasRoom room l.scratch)
    × (g.E.Env.is_lean l.env ≡ g.E.Env.is_lean l.fn.env)

abbrev pub decreases-loop-next : goal.decreases-loop-next
decreases-loop-next g l = focus_left l.expression l.focus + frames_left l.expression l.scratch.frames.items
