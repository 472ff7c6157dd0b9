use Rattle.dfdl_escapes.proofs.tests.contents_are_read_in_pieces.Given as goal

abbrev pub ghosts-read_in_pieces : goal.ghosts-read_in_pieces
ghosts-read_in_pieces g a = record { name = a.blank.name; parts = a.blank.parts }
