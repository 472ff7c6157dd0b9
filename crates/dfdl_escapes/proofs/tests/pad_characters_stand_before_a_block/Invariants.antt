use Rattle.dfdl_escapes.proofs.tests.pad_characters_stand_before_a_block.Given as goal

abbrev pub ghosts-scanned_in : goal.ghosts-scanned_in
ghosts-scanned_in g a = record { name = a.blank.name; parts = a.blank.parts }
