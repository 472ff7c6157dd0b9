-- What a pattern is built from.
use Rattle.std.specs.Prelude.{◌≡◌, ◌≢◌, ℕ, List}
use Rattle.regex.specs.Patterns.{default_config}
use Rattle.regex.specs.Strings.{regex_source, regex_config, IsReadFromSource}
use Rattle.regex.specs.Sources.{IsTextRefusal}
use Rattle.regex.specs.Failures.{IsRightKind}
use Rattle.regex.specs.declared.string.regex.Regex.{Regex}
use Rattle.regex.specs.declared.error.Error.{Error}
use Rattle.regex.specs.declared.error.Error.TheVariants as error

-- the pattern is the one that `regex` reads in this text, with its default options
pub record IsPatternOf (text : List ℕ) (pattern : Regex) : Type 0 where
  pub source : regex_source pattern ≡ text
  pub options : regex_config pattern ≡ default_config
  pub read : IsReadFromSource pattern

-- `regex` refuses the text for another cause than memory: the text is no pattern, or it is one that
-- is too big
pub record IsRefusedText (text : List ℕ) : Type 0 where
  pub fault : Error
  pub memory : fault ≢ error.OutOfMemory
  pub internal : fault ≢ error.Internal
  pub no_pattern : IsTextRefusal default_config text fault
  pub kind : IsRightKind default_config text fault
