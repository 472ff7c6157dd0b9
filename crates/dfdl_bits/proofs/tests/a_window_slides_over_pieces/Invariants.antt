use Rattle.dfdl_bits.proofs.tests.a_window_slides_over_pieces.Given as goal

abbrev pub ghosts-slide : goal.ghosts-slide
ghosts-slide g a = record { name = a.blank.name; parts = a.blank.parts }
