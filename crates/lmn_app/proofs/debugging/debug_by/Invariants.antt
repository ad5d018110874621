use Rattle.lmn_app.proofs.debugging.debug_by.Given as goal

abbrev pub ghosts-debug_in : goal.ghosts-debug_in
ghosts-debug_in g a = record { name = a.blank.name; parts = a.blank.parts }
