use Rattle.dfdl_escapes.proofs.tests.encodings_of_contents.Given as goal

abbrev pub ghosts-scanned_in : goal.ghosts-scanned_in
ghosts-scanned_in g a = record { name = a.blank.name; parts = a.blank.parts }
