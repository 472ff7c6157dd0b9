use Rattle.dfdl_chars.proofs.tests.malformed_sequences_are_bad_byte_by_byte.Given as goal

abbrev pub ghosts-are_bad_bytes : goal.ghosts-are_bad_bytes
ghosts-are_bad_bytes g a = record { name = a.blank.name; parts = a.blank.parts }
