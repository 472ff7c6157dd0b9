use Rattle.dfdl_documents.proofs.Settled.{one_list, not_due, not_ended, as_due}
use Rattle.dfdl_documents.proofs.laws.loading_is_one.Goals as goal

pub returns-clause-documents : goal.returns-clause-documents
returns-clause-documents c = one_list c.refusals_are_one.ensures.no_tree c.trees_are_one.ensures

pub returns-clause-no_fault_due : goal.returns-clause-no_fault_due
returns-clause-no_fault_due c = not_due c.refusals_are_one.ensures.no_tree c.trees_are_one.ensures

pub returns-clause-no_fault : goal.returns-clause-no_fault
returns-clause-no_fault c = not_ended c.refusals_are_one.ensures.no_tree c.trees_are_one.ensures

pub returns-clause-fault_due : goal.returns-clause-fault_due
returns-clause-fault_due c =
    as_due c.refusals_are_one.ensures.no_tree c.trees_are_one.ensures c.refusals_are_one.ensures.one
