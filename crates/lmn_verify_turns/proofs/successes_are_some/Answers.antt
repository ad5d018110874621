use Rattle.lmn_verify_turns.proofs.Turns.{successes_are_some}
use Rattle.lmn_verify_turns.proofs.successes_are_some.Goals as goal

pub returns : goal.returns
returns c = let graphs = c.heaps_are_graphs.ensures in successes_are_some graphs.graphs graphs.preorder c.heads_are_alike.ensures
