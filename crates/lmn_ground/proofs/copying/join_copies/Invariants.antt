use Rattle.std.proofs.Common.{◌≡◌, ℕ, map, drop}
use Rattle.lmn_store_heap.specs.Heap.{arity_of}
use Rattle.lmn_ground.specs.Marks.{first_marks}
use Rattle.lmn_ground.specs.Spread.{Numbered}
use Rattle.lmn_ground.specs.Copies.{Copying}
use Rattle.lmn_ground_parts.specs.Copies.{all_joined, ports_of, answer}
use Rattle.lmn_ground.proofs.copying.join_copies.Given as goal

abbrev pub invariant-loop-k : goal.invariant-loop-k
invariant-loop-k g l = record {
  copying : Copying (g.S.LinkStore.heap l.store) (g.S.LinkStore.atom_id l.root.0, l.root.1) (map g.S.LinkStore.atom_id l.atoms) (map g.S.LinkStore.atom_id l.copies);
  numbers : Numbered (first_marks (g.S.LinkStore.heap l.store)) 2 (map g.S.LinkStore.atom_id l.atoms);
  arities : (c : ℕ) → arity_of (g.S.LinkStore.heap l.store) c ≡ arity_of (g.S.LinkStore.heap l.fn.store) c;
  rest : all_joined (answer (map g.S.LinkStore.atom_id l.atoms) (map g.S.LinkStore.atom_id l.copies)) (g.S.LinkStore.atom_id l.root.0, l.root.1) (g.S.LinkStore.heap l.store) (ports_of (g.S.LinkStore.heap l.fn.store) (drop l.k (map g.S.LinkStore.atom_id l.atoms)))
      ≡ all_joined (answer (map g.S.LinkStore.atom_id l.atoms) (map g.S.LinkStore.atom_id l.copies)) (g.S.LinkStore.atom_id l.root.0, l.root.1) (g.S.LinkStore.heap l.fn.store) (ports_of (g.S.LinkStore.heap l.fn.store) (map g.S.LinkStore.atom_id l.atoms));
}
