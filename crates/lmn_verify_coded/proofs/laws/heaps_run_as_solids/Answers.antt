use Rattle.lmn_verify_coded.proofs.OfSolids.{heaps_run_as_solids}
use Rattle.lmn_verify_coded.proofs.laws.heaps_run_as_solids.Goals as goal

pub returns : goal.returns
returns c = heaps_run_as_solids c.turns_are_choices.ensures c.successes_are_some.ensures c.commits_stay_unmarked.ensures c.heaps_have_one_line.ensures.one
