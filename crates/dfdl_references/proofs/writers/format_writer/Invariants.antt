use Rattle.std.proofs.Common.{◌≡◌, ◌-◌}
use Rattle.dfdl_components.specs.Recursion.{count_of}
use Rattle.dfdl_components.specs.Sites.{IsSite}
use Rattle.dfdl_references.specs.Writers.{format_writer, writer_within}
use Rattle.dfdl_references.proofs.writers.format_writer.Given as goal

-- what is still looked at gives the same as all
abbrev pub invariant-loop-step : goal.invariant-loop-step
invariant-loop-step l =
    (writer_within (count_of l.schema - l.step) l.schema l.name l.current ≡ format_writer l.schema l.name l.fn.format) × IsSite l.schema l.current
