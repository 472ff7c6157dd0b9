use Rattle.dfdl_run.specs.declared.command.Verb.TheVariants.{Parse}
use Rattle.dfdl_run.proofs.Decisions.{fault_end, read_end}
use Rattle.dfdl_run.proofs.deciding.parse_source.Goals as goal

-- all bytes of the source were parsed
pub returns-in-Ok : goal.returns-in-Ok
returns-in-Ok g c =
    let read = c.in-Ok.ensures.parsed in
    read_end Parse _ _ _ read.bytes _ (c.parse.ensures read.bytes read.ended) read.all read.fits read.used_up (c.in-Ok.ensures.still (λ is. cc))

pub returns-in-Err : goal.returns-in-Err
returns-in-Err g c =
    fault_end Parse _ _ _ _ c.in-Err.fault c.stop_of.ensures (λ is. c.in-Err.ensures.too_large (cc)) (λ is. c.in-Err.ensures.cause (cc))
    (λ none. c.in-Err.ensures.still (λ is. none (cc)))
