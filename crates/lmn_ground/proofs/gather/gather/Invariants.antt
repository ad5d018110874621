use Rattle.std.proofs.Common.{None, map, ◌≤◌, ◌-◌, ◌^◌}
use Rattle.lmn_store_heap.specs.Heap.{IsAtom}
use Rattle.lmn_ground.specs.Spread.{Spreading}
use Rattle.lmn_ground.proofs.gather.gather.Given as goal

abbrev pub invariant-loop-root : goal.invariant-loop-root
invariant-loop-root g l = record {
  atom : IsAtom (g.S.LinkStore.heap l.store) (g.S.LinkStore.atom_id l.at.atom);
  walk : Spreading (g.S.LinkStore.heap l.fn.store) (g.S.LinkStore.heap l.store) (g.S.LinkStore.atom_id l.root.0, l.root.1) None (map g.S.LinkStore.atom_id l.atoms) l.at.depth (g.S.LinkStore.atom_id l.at.atom) l.at.port l.count;
  bound : l.count ≤ 2 ^ 48;
}

abbrev pub decreases-loop-root : goal.decreases-loop-root
decreases-loop-root g l = 2 ^ 48 - l.count
