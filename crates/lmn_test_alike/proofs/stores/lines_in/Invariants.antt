use Rattle.lmn_test_alike.proofs.stores.lines_in.Given as goal

abbrev pub ghosts-written_in : goal.ghosts-written_in
ghosts-written_in g a = record { name = a.blank.name; parts = a.blank.parts }
