use Rattle.lmn_app.proofs.executing.exec_listing.Given as goal

abbrev pub ghosts-exec_codes : goal.ghosts-exec_codes
ghosts-exec_codes g a = record { name = a.blank.name; parts = a.blank.parts }
