use Rattle.std.proofs.Common.{refl, subst}
use Rattle.dfdl_compile.specs.Builds.{ComesToFault}
use Rattle.dfdl_run.specs.Schemas.{most_depth, most_rows, purpose_of}
use Rattle.dfdl_run.proofs.Loads.{compiled_described, fault_stops, memory_fault, refused_fault}
use Rattle.dfdl_run.proofs.loading.load_terms.Goals as goal

pub returns-in-Err-clause-err : goal.returns-in-Err-clause-err
returns-in-Err-clause-err g c =
    fault_stops _ _ _ _ _ _ _ _ c.stop_of.ensures c.in-Err.ensures.fault c.in-Err.ensures.still refl

pub returns-in-Ok-compiled-clause-ok : goal.returns-in-Ok-compiled-clause-ok
returns-in-Ok-compiled-clause-ok g c =
    compiled_described _ _ _ _ _ _ _ _ c.in-Ok.ensures.loaded c.in-Ok-compiled.ensures.rows

pub returns-in-Err-Refused-clause-err : goal.returns-in-Err-Refused-clause-err
returns-in-Err-Refused-clause-err g c =
    refused_fault _ _ _ _ _ _ _ _ c.in-Err-Refused.cause c.in-Err-Refused.place c.refused.ensures c.in-Ok.ensures.loaded
    (subst (ComesToFault (purpose_of c.args.verb) c.in-Ok.schema most_depth most_rows
    (record { faults = g.P.Patterns.faults c.args.patterns.now; last = g.P.Patterns.last_refused c.args.patterns.now })
    (record { faults = g.P.Patterns.faults c.compiled.new.patterns; last = g.P.Patterns.last_refused c.compiled.new.patterns })) c.in-Err-Refused.field-0-is c.in-Err-Refused.ensures.fault)

pub returns-clause-err : goal.returns-clause-err
returns-clause-err g c =
    memory_fault _ _ _ _ _ _ _ c.in-Ok.ensures.loaded
    (subst (ComesToFault (purpose_of c.args.verb) c.in-Ok.schema most_depth most_rows
    (record { faults = g.P.Patterns.faults c.args.patterns.now; last = g.P.Patterns.last_refused c.args.patterns.now })
    (record { faults = g.P.Patterns.faults c.compiled.new.patterns; last = g.P.Patterns.last_refused c.compiled.new.patterns })) c.in-Err-OutOfMemory.field-0-is c.in-Err-OutOfMemory.ensures.fault)
