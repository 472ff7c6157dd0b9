-- Mirror for the prover: the events that were found so far, and the refusal that counts.
use Rattle.std.specs.Prelude.{nat_lt, if◌then◌else◌, List, [], ◌∷◌, ◌++◌, Option, None, Some}
use Rattle.dfdl_terms.specs.declared.event.Event.{Event}
use Rattle.dfdl_json.specs.Infosets.{Placed, Finding, Says, Refuses}

-- the events, and the refusal that counts, if there is one
pub record Found : Type 0 where
  pub events : List Event
  pub refused : Option Placed

-- of a refusal that counts so far and one behind it, the one that counts
abbrev pub kept : Option Placed → Placed → Placed
kept None next = next
kept (Some first) next = if nat_lt next.level first.level then next else first

-- one more finding
abbrev pub noted : Found → Finding → Found
noted found (Says event) = record { events = found.events ++ event ∷ []; refused = found.refused }
noted found (Refuses placed) = record { events = found.events; refused = Some (kept found.refused placed) }
