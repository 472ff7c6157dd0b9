use Rattle.dfdl_texts.proofs.tests.counted_texts.Given as goal

abbrev pub ghosts-read_in : goal.ghosts-read_in
ghosts-read_in g a = record { name = a.blank.name; parts = a.blank.parts }
