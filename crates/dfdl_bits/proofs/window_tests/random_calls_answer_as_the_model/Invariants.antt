use Rattle.dfdl_bits.proofs.window_tests.random_calls_answer_as_the_model.Given as goal

abbrev pub ghosts-calls : goal.ghosts-calls
ghosts-calls g a = record { name = a.blank.name; parts = a.blank.parts }
