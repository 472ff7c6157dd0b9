use Rattle.dfdl_chars.proofs.tests.a_pair_in_pieces_and_the_end_of_a_box.Given as goal

abbrev pub ghosts-pieces : goal.ghosts-pieces
ghosts-pieces g a = record { name = a.blank.name; parts = a.blank.parts }
