use Rattle.dfdl_run.proofs.Ends.{run_is}
use Rattle.dfdl_run.proofs.Rankings.{reading_of}
use Rattle.dfdl_run.proofs.call.run.Goals as goal

pub returns-clause-run : goal.returns-clause-run
returns-clause-run g c =
    run_is (record {
      documents = c.loading_is_one.ensures.documents;
      no_fault_due = c.loading_is_one.ensures.no_fault_due;
      no_fault = c.loading_is_one.ensures.no_fault;
      fault_due = c.loading_is_one.ensures.fault_due;
    }) (reading_of c.texts_are_read.ensures.0 c.texts_are_read.ensures.1) _ c.decide-end.ensures.0 _ _ _ _ c.decide-end.ensures.1 c.finish.ensures
