-- Mirror for the prover: the bindings that a scope has.
use Rattle.std.specs.Prelude.{List, [], ◌++◌}
use Rattle.std.specs.Option.{option_map_or}
use Rattle.dfdl_markup.specs.Values.{Binding}
use Rattle.dfdl_markup.specs.Machine.{scope_of}
use Rattle.dfdl_xml_names.specs.declared.scope.Scope.{Scope}

-- what the tag declares, before what is declared around it
abbrev pub scope_seen : Scope → List Binding
scope_seen scope = scope.declared.now ++ option_map_or (λ frames. scope_of frames.now) scope.outer []
