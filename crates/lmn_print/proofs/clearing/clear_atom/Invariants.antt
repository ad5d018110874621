use Rattle.lmn_print.proofs.ClearedMarks.{ClearedTo}
use Rattle.lmn_print.proofs.clearing.clear_atom.Given as goal

abbrev pub invariant-loop-slot : goal.invariant-loop-slot
invariant-loop-slot g l = record {
  cleared : ClearedTo (g.S.LinkStore.heap l.initial.store) (g.S.LinkStore.heap l.store) (g.S.LinkStore.atom_id l.fn.atom) l.slot;
}
