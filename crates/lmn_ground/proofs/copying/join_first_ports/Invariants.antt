use Rattle.std.proofs.Common.{◌≡◌, ◌-◌, map}
use Rattle.lmn_store_heap.specs.Heap.{arity_of}
use Rattle.lmn_ground.specs.Marks.{first_marks}
use Rattle.lmn_ground.specs.Spread.{Numbered}
use Rattle.lmn_ground.specs.Copies.{Copying}
use Rattle.lmn_ground_parts.specs.Copies.{all_joined, answer}
use Rattle.lmn_ground.proofs.copying.join_first_ports.Given as goal
use Rattle.lmn_ground_parts.specs.Walks.{port_range}

abbrev pub invariant-loop-i : goal.invariant-loop-i
invariant-loop-i g l = record {
  copying : Copying (g.S.LinkStore.heap l.store) (g.S.LinkStore.atom_id l.root.0, l.root.1) (map g.S.LinkStore.atom_id l.atoms) (map g.S.LinkStore.atom_id l.copies);
  numbers : Numbered (first_marks (g.S.LinkStore.heap l.store)) 2 (map g.S.LinkStore.atom_id l.atoms);
  arity : arity_of (g.S.LinkStore.heap l.store) (g.S.LinkStore.atom_id l.a) ≡ l.i-end;
  rest : all_joined (answer (map g.S.LinkStore.atom_id l.atoms) (map g.S.LinkStore.atom_id l.copies)) (g.S.LinkStore.atom_id l.root.0, l.root.1) (g.S.LinkStore.heap l.store) (port_range (g.S.LinkStore.atom_id l.a) l.i (l.i-end - l.i))
      ≡ all_joined (answer (map g.S.LinkStore.atom_id l.atoms) (map g.S.LinkStore.atom_id l.copies)) (g.S.LinkStore.atom_id l.root.0, l.root.1) (g.S.LinkStore.heap l.fn.store) (port_range (g.S.LinkStore.atom_id l.a) 0 (arity_of (g.S.LinkStore.heap l.fn.store) (g.S.LinkStore.atom_id l.a)));
}
