use Rattle.dfdl_delims.proofs.tests.a_list_is_named_by_its_place.Given as goal

abbrev pub ghosts-found_in : goal.ghosts-found_in
ghosts-found_in g a = record { name = a.blank.name; parts = a.blank.parts }
