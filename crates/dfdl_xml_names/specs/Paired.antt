-- Mirror for the prover: the pairs that a map has.
use Rattle.std.specs.Prelude.{ℕ, List, Bool, false, Option, Some, None, string_bytes}
use Rattle.std.specs.BTreeMap.{get_by_text}
use Rattle.std.specs.BTreeSet.{contains_text}
use Rattle.std.specs.Str.{bytes_eq}
use Rattle.dfdl_xml_names.specs.declared.pairs.Seconds.{Seconds}
use Rattle.dfdl_xml_names.specs.declared.pairs.Seconds.TheVariants.{One, Many}
use Rattle.dfdl_xml_names.specs.declared.pairs.Pairs.{Pairs}

-- one of the second texts is this one
abbrev pub has_second : Seconds → List ℕ → Bool
has_second (One text) b = bytes_eq (string_bytes text) b
has_second (Many set) b = contains_text set b

-- there are second texts, and this is one
abbrev pub has_in : Option Seconds → List ℕ → Bool
has_in None b = false
has_in (Some seconds) b = has_second seconds b

-- the pair is there
abbrev pub has_pair : Pairs → List ℕ → List ℕ → Bool
has_pair pairs a b = has_in (get_by_text pairs.seconds a) b
