use Rattle.lmn_verify_coded.proofs.Small.{no_codes_stop_at_once}
use Rattle.lmn_verify_coded.proofs.laws.no_codes_stop_at_once.Goals as goal

pub returns : goal.returns
returns c = no_codes_stop_at_once c.heaps_are_graphs.ensures.graphs
