use Rattle.dfdl_escapes.proofs.tests.an_escape_escape_character_escapes_the_escape_character.Given as goal

abbrev pub ghosts-scanned : goal.ghosts-scanned
ghosts-scanned g a = record { name = a.blank.name; parts = a.blank.parts }
