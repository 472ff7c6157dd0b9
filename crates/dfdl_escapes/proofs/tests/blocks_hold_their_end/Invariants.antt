use Rattle.dfdl_escapes.proofs.tests.blocks_hold_their_end.Given as goal

abbrev pub ghosts-scanned : goal.ghosts-scanned
ghosts-scanned g a = record { name = a.blank.name; parts = a.blank.parts }
