use Rattle.lmn_print.proofs.HeapLines.{one_heap_line, some_heap_line}
use Rattle.lmn_print.proofs.laws.heaps_have_one_line.Goals as goal

pub returns-clause-some : goal.returns-clause-some
returns-clause-some c = some_heap_line

pub returns-clause-one : goal.returns-clause-one
returns-clause-one c = one_heap_line
