-- How often an element occurs.
use Rattle.std.specs.Prelude.{ℕ, Bool, nat_lt}
use Rattle.dfdl_terms.specs.declared.occurs.Occurs.{Occurs}

-- so many times, each of which is required
abbrev pub required_times : ℕ → Occurs
required_times count = record { least = count; further = 0; is_item = nat_lt 1 count }

-- once
abbrev pub occurs_once : Occurs
occurs_once = required_times 1

-- some of the occurrences are tried
abbrev pub has_tried : Occurs → Bool
has_tried occurs = nat_lt 0 occurs.further
