use Rattle.std.proofs.Common.{◌≡◌, false, ◌-◌, ◌*◌, ◌≤◌, ℕ, max}
use Rattle.dfdl_bits.specs.Window.{end_of}
use Rattle.dfdl_looks.specs.Looks.{Agrees}
use Rattle.dfdl_parse.specs.Opens.{Holds, NeedsFrom}
use Rattle.dfdl_parse.specs.Registered.{IsRegistered}
use Rattle.dfdl_parse.specs.Running.{Advanced, Reaches}
use Rattle.dfdl_parse.specs.Shown.{HasSameLimits, limits_of, shown, state_of}
use Rattle.dfdl_parse.proofs.Falls.{measure}
use Rattle.dfdl_parse.proofs.Goes.{padded}
use Rattle.dfdl_parse.proofs.run.run.Given as goal

abbrev pub invariant-steps : goal.invariant-steps
invariant-steps g l = record {
  low : NeedsFrom l.sight.base l.parser.focus l.parser.stack (state_of l.parser);
  holds : Holds l.sight.base l.parser.focus l.parser.stack (state_of l.parser);
  at : l.parser.at ≤ 8 * end_of l.sight;
  most : HasSameLimits l.fn.parser l.parser;
  registered : IsRegistered l.terms l.parser;
  steps : l.fn.steps ≤ l.steps;
  gone : Advanced l.terms l.fn.parser l.parser l.fn.sight l.sight (l.steps - l.fn.steps);
  agrees : Agrees l.sight (padded l.fn.sight);
  seen : l.sight.ended ≡ false → l.parser.far ≤ end_of l.sight;
  reaches : (last : ℕ) → Reaches last l.fn.sight l.fn.parser.focus (state_of l.fn.parser)
      → Reaches (max last l.parser.far) l.sight l.parser.focus (state_of l.parser);
}

abbrev pub decreases-steps : goal.decreases-steps
decreases-steps g l = measure
    (record { bytes = padded l.fn.sight; limits = limits_of l.fn.parser l.fn.sight })
    l.terms (shown l.parser)
