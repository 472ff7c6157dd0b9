use Rattle.dfdl_chars.proofs.run_tests.a_run_is_its_characters.Given as goal

abbrev pub ghosts-are_runs : goal.ghosts-are_runs
ghosts-are_runs g a = record { name = a.blank.name; parts = a.blank.parts }
