use Rattle.dfdl_unparse.proofs.tests.two_faults.Given as goal

abbrev pub ghosts-faulty : goal.ghosts-faulty
ghosts-faulty a = record { name = a.blank.name; parts = a.blank.parts }
