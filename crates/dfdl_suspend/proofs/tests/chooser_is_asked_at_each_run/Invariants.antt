use Rattle.dfdl_suspend.proofs.tests.chooser_is_asked_at_each_run.Given as goal

abbrev pub ghosts-asked : goal.ghosts-asked
ghosts-asked g a = record { name = a.blank.name; parts = a.blank.parts }
