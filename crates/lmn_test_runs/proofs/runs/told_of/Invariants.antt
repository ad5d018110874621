use Rattle.lmn_test_runs.proofs.runs.told_of.Given as goal

abbrev pub ghosts-run_alone : goal.ghosts-run_alone
ghosts-run_alone g a = record { name = a.blank.name; parts = a.blank.parts }
