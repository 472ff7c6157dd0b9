use Rattle.dfdl_looks.proofs.Resumed.{asked}
use Rattle.dfdl_looks.proofs.Waiting.{kept, missed, waits_while}
use Rattle.dfdl_looks.proofs.laws.looks_resume.Goals as goal

pub returns-clause-same : goal.returns-clause-same
returns-clause-same c held whole program t agrees low found = asked held whole agrees program low t found

pub returns-clause-missed : goal.returns-clause-missed
returns-clause-missed c held whole program t agrees low all none missing =
    missed held whole agrees all (waits_while held program t missing).0 program low t none missing

pub returns-clause-kept : goal.returns-clause-kept
returns-clause-kept c held program t on low = kept held on program low t
