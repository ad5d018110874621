use Rattle.lmn_store_heap.proofs.none_inside_itself.Goals as goal
use Rattle.lmn_store_heap.proofs.Heights.{valid_no_loop}

pub returns : goal.returns
returns c = valid_no_loop
