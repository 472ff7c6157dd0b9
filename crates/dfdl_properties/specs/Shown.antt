-- Mirror for the prover: what properties are after more of them are written.
use Rattle.std.specs.Prelude.{◌≡◌, ℕ, List, map, get_or, Option, None, is_some, ◌||◌, if◌then◌else◌}
use Rattle.std.specs.Option.{option_or}
use Rattle.dfdl_scope.specs.Shown.{given, given_twice, format_given}
use Rattle.dfdl_scope.specs.declared.properties.Properties.{Properties}
use Rattle.dfdl_scope.specs.declared.format.Format.{Format}
use Rattle.dfdl_properties.specs.Written.{Written, first_of, has_second}

-- the new properties are the old ones with these written behind them
pub record IsWith (old : Properties) (written : List Written) (new : Properties) : Type 0 where
  pub values : (q : List ℕ) → given new q ≡ option_or (given old q) (first_of written q)
  pub twice : (q : List ℕ) → given_twice new q
      ≡ (given_twice old q || (if is_some (given old q) then is_some (first_of written q) else has_second written q))

-- the value of a property in the format of a number
abbrev pub value_by_format : List Format → ℕ → List ℕ → Option (List ℕ)
value_by_format formats format q = get_or (map (λ f. format_given f q) formats) format None

-- and in the formats of some numbers
abbrev pub values_by_formats : List Format → List ℕ → List ℕ → List (Option (List ℕ))
values_by_formats formats q numbers = map (λ format. value_by_format formats format q) numbers
