use Rattle.dfdl_suspend.proofs.tests.events_add_unknowns.Given as goal

abbrev pub ghosts-after_events : goal.ghosts-after_events
ghosts-after_events g a = record { name = a.blank.name; parts = a.blank.parts }
