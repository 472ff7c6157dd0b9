use Rattle.dfdl_compile.proofs.Coming.{faults_come, no_root, rows_come}
use Rattle.dfdl_compile.proofs.calls.compile_for.Goals as goal

pub compile_root-requires-clause-told : goal.compile_root-requires-clause-told
compile_root-requires-clause-told g c = (c.in_ok-judgements.ensures.judged.refused, c.in_ok-judgements.ensures.judged.told)

pub returns-in-Some-clause-compiled : goal.returns-in-Some-clause-compiled
returns-in-Some-clause-compiled g c =
    rows_come c.args.purpose c.args.schema.now c.args.depth c.args.rows _ _ _ c.in_ok-judgements.ensures.judged c.in-Some.root c.compile_root.result c.in-Some.ensures.root
    (c.compile_root.ensures.rows c.in_ok-judgements.ensures.judged.refused c.in_ok-judgements.ensures.judged.told)
    (c.compile_root.ensures.components c.in_ok-judgements.ensures.judged.refused c.in_ok-judgements.ensures.judged.told) c.compile_root.ensures.root
    (c.compile_root.ensures.writings c.in_ok-judgements.ensures.judged.refused c.in_ok-judgements.ensures.judged.told)

pub returns-in-Some-clause-fault : goal.returns-in-Some-clause-fault
returns-in-Some-clause-fault g c =
    faults_come c.args.purpose c.args.schema.now c.args.depth c.args.rows _ _ _ c.in_ok-judgements.ensures.judged c.in-Some.root c.compile_root.result c.in-Some.ensures.root
    (c.compile_root.ensures.fault c.in_ok-judgements.ensures.judged.refused c.in_ok-judgements.ensures.judged.told)

pub returns-in-None-clause-fault : goal.returns-in-None-clause-fault
returns-in-None-clause-fault g c =
    no_root c.args.purpose c.args.schema.now c.args.depth c.args.rows _ _ _ c.in_ok-judgements.ensures.judged c.in-None.ensures.root
