use Rattle.dfdl_unparse.proofs.tests.a_circle.Given as goal

abbrev pub ghosts-circular : goal.ghosts-circular
ghosts-circular a = record { name = a.blank.name; parts = a.blank.parts }
