-- Mirror for the prover: what properties are seen as.
use Rattle.std.specs.Prelude.{option_copied}
use Rattle.dfdl_escape_schemes.specs.Schemes.{SchemeTold}
use Rattle.dfdl_escape_schemes.specs.declared.reading.SchemeProperties.{SchemeProperties}

-- properties with texts that are lent
abbrev pub told_of : SchemeProperties → SchemeTold
told_of properties = record {
  kind = option_copied properties.kind;
  escape = option_copied properties.escape;
  escape_escape = option_copied properties.escape_escape;
  start = option_copied properties.start;
  end = option_copied properties.end;
  extra = option_copied properties.extra;
  generation = option_copied properties.generation;
}
