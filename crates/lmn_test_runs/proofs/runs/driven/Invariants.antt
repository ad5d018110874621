use Rattle.lmn_test_runs.proofs.runs.driven.Given as goal

abbrev pub ghosts-run_driven : goal.ghosts-run_driven
ghosts-run_driven g a = record { name = a.blank.name; parts = a.blank.parts }
