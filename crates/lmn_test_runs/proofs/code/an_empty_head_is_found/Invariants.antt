use Rattle.lmn_test_runs.proofs.code.an_empty_head_is_found.Given as goal

abbrev pub ghosts-search_once : goal.ghosts-search_once
ghosts-search_once g a = record { name = a.blank.name; parts = a.blank.parts }
