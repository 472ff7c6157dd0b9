use Rattle.dfdl_chars.proofs.tests.characters_and_bad_units.Given as goal

abbrev pub ghosts-shown : goal.ghosts-shown
ghosts-shown g a = record { name = a.blank.name; parts = a.blank.parts }
