use Rattle.dfdl_texts.proofs.tests.a_text_begins_at_its_byte.Given as goal

abbrev pub ghosts-read_in : goal.ghosts-read_in
ghosts-read_in g a = record { name = a.blank.name; parts = a.blank.parts }
