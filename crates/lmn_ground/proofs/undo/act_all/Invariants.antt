use Rattle.std.proofs.Common.{◌≡◌, map, drop}
use Rattle.lmn_store_heap.specs.Heap.{Distinct}
use Rattle.lmn_ground_parts.specs.Copies.{AllAtoms}
use Rattle.lmn_ground.specs.Deeds.{CanDo, all_done}
use Rattle.lmn_ground.proofs.undo.act_all.Given as goal

abbrev pub invariant-loop-i : goal.invariant-loop-i
invariant-loop-i g l = record {
  there : AllAtoms (g.S.LinkStore.heap l.store) (map g.S.LinkStore.atom_id l.atoms);
  once : Distinct (drop l.i (map g.S.LinkStore.atom_id l.atoms));
  can : CanDo l.deed (drop l.i (map g.S.LinkStore.atom_id l.atoms)) (g.S.LinkStore.heap l.store);
  rest : all_done l.deed (drop l.i (map g.S.LinkStore.atom_id l.atoms)) (g.S.LinkStore.heap l.store) ≡ all_done l.deed (map g.S.LinkStore.atom_id l.atoms) (g.S.LinkStore.heap l.fn.store);
}
