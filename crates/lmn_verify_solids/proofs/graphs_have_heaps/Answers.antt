use Rattle.lmn_verify_solids.proofs.GraphsHaveHeaps.{graph_same, heap_of, solid, unmarked, valid}
use Rattle.lmn_verify_solids.proofs.graphs_have_heaps.Goals as goal

pub returns : goal.returns
returns c = λ g S is. record { heap = heap_of g; is = graph_same g S is; valid = valid g S is; unmarked = unmarked g S is; solid = solid g S is }
