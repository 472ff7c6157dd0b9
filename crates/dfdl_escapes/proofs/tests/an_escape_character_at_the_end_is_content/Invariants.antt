use Rattle.dfdl_escapes.proofs.tests.an_escape_character_at_the_end_is_content.Given as goal

abbrev pub ghosts-scanned : goal.ghosts-scanned
ghosts-scanned g a = record { name = a.blank.name; parts = a.blank.parts }

abbrev pub ghosts-scanned_in : goal.ghosts-scanned_in
ghosts-scanned_in g a = record { name = a.blank.name; parts = a.blank.parts }
