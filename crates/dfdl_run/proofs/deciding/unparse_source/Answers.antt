use Rattle.std.proofs.Common.{arith}
use Rattle.dfdl_run.specs.declared.command.Verb.TheVariants.{Unparse}
use Rattle.dfdl_run.proofs.Decisions.{fault_end, read_end}
use Rattle.dfdl_run.proofs.deciding.unparse_source.Goals as goal

pub returns-in-Ok : goal.returns-in-Ok
returns-in-Ok g c =
    read_end Unparse _ _ _ c.deref.result.now _ c.unparse.ensures
    (rw c.deref.ensures.value c.in-Ok.ensures.bytes) (omega (arith, c.deref.ensures.len, c.in-Ok.ensures.fits))
    c.in-Ok.ensures.used_up (c.in-Ok.ensures.still (λ is. cc))

pub returns-in-Err : goal.returns-in-Err
returns-in-Err g c =
    fault_end Unparse _ _ _ _ c.in-Err.fault c.stop_of.ensures (λ is. c.in-Err.ensures.too_large (cc)) (λ is. c.in-Err.ensures.cause (cc))
    (λ none. c.in-Err.ensures.still (λ is. none (cc)))
