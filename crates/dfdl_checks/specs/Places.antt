-- What is known of where a component stands.
use Rattle.std.specs.Prelude.{false, ◌||◌}
use Rattle.dfdl_checks.specs.declared.subject.Standing.{Standing}

-- in no group that asks anything of it
abbrev pub nowhere : Standing
nowhere = record { is_initiated = false; needs_bound = false; needs_key = false; repeats_key = false; resolves = false }

-- in two groups
abbrev pub both_of : Standing → Standing → Standing
both_of one other = record {
  is_initiated = one.is_initiated || other.is_initiated;
  needs_bound = one.needs_bound || other.needs_bound;
  needs_key = one.needs_key || other.needs_key;
  repeats_key = one.repeats_key || other.repeats_key;
  resolves = one.resolves || other.resolves;
}
