use Rattle.dfdl_checks.proofs.AlikeChains.{three}
use Rattle.dfdl_terms.specs.Framing.{no_fill}
use Rattle.dfdl_terms.specs.declared.framing.Framing.{Framing}
use Rattle.std.proofs.Common.{ℕ, None}
use Rattle.dfdl_checks.proofs.fill.fill_of.Goals as goal

-- fill by its parts
abbrev fill : ℕ → ℕ → ℕ → Framing
fill leading alignment trailing = record {
  before = no_fill.before;
  openings = no_fill.openings;
  settings = no_fill.settings;
  leading_skip = leading;
  alignment = alignment;
  initiator = None;
  terminator = None;
  trailing_skip = trailing;
  behind = no_fill.behind;
}

pub returns : goal.returns
returns c = three fill c.skip_of.ensures c.alignment_of.ensures c.skip_of-2.ensures
