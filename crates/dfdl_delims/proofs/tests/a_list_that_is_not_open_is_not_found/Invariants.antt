use Rattle.dfdl_delims.proofs.tests.a_list_that_is_not_open_is_not_found.Given as goal

abbrev pub ghosts-found_in : goal.ghosts-found_in
ghosts-found_in g a = record { name = a.blank.name; parts = a.blank.parts }
