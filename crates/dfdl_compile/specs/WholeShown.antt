-- Mirror for the prover: the terms of a schema, where there are some.
use Rattle.std.specs.Prelude.{Result, Ok, Err}
use Rattle.dfdl_terms.specs.Rows.{Table}
use Rattle.dfdl_compile.specs.declared.fault.CompileFault.{CompileFault}
use Rattle.dfdl_compile.specs.declared.whole.CompiledSchema.{CompiledSchema}

-- the terms alone
abbrev pub terms_of : Result CompiledSchema CompileFault → Result Table CompileFault
terms_of (Ok whole) = Ok whole.terms
terms_of (Err fault) = Err fault
