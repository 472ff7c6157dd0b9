-- What the text of an infoset says: it is read as JSON in UTF-8.
use Rattle.std.specs.Prelude.{ℕ, if◌then◌else◌, List, Option, None, Some, Result, Ok, Err}
use Rattle.std.specs.Str.{is_utf8}
use Rattle.serde_json.specs.Data.{Data}
use Rattle.serde_json.specs.Read.{read}
use Rattle.dfdl_terms.specs.declared.event.Event.{Event}
use Rattle.dfdl_terms.specs.Rows.{Table}
use Rattle.dfdl_report.specs.Paths.{whole_path}
use Rattle.dfdl_report.specs.declared.cause.InfosetCause.TheVariants.{NotJson}
use Rattle.dfdl_json.specs.Infosets.{Refusal, events_in}

-- the JSON value that was read, if one was
abbrev pub json_if : Option Data → Result Data Refusal
json_if None = Err (record { cause = NotJson; path = whole_path })
json_if (Some content) = Ok content

-- the JSON value of a text
abbrev pub json_in : List ℕ → Result Data Refusal
json_in text = json_if (if is_utf8 text then read text else None)

-- the events of a JSON value, if there is one
abbrev pub events_if : Table → Result Data Refusal → Result (List Event) Refusal
events_if t (Err refusal) = Err refusal
events_if t (Ok whole) = events_in t whole

-- the events of a text, or why it is no infoset
abbrev pub events_of_text : Table → List ℕ → Result (List Event) Refusal
events_of_text t text = events_if t (json_in text)
