use Rattle.dfdl_suspend.proofs.tests.comes_to.Given as goal

abbrev pub ghosts-by_rounds : goal.ghosts-by_rounds
ghosts-by_rounds g a = record { name = a.blank.name; parts = a.blank.parts }

abbrev pub ghosts-on_board : goal.ghosts-on_board
ghosts-on_board g a = record { name = a.blank.name; parts = a.blank.parts }

abbrev pub ghosts-on_board-2 : goal.ghosts-on_board-2
ghosts-on_board-2 g a = record { name = a.blank.name; parts = a.blank.parts }

abbrev pub ghosts-on_board-3 : goal.ghosts-on_board-3
ghosts-on_board-3 g a = record { name = a.blank.name; parts = a.blank.parts }

abbrev pub ghosts-on_board-4 : goal.ghosts-on_board-4
ghosts-on_board-4 g a = record { name = a.blank.name; parts = a.blank.parts }
