use Rattle.std.proofs.Common.{◌≡◌, ◌++◌, drop}
use Rattle.lmn_solid_firing.specs.Making.{leaves_atoms, leaves_next}
use Rattle.lmn_solid_firing.proofs.leaves.add_leaves.Given as goal

abbrev pub invariant-loop-leaf : goal.invariant-loop-leaf
invariant-loop-leaf l = record {
  next : leaves_next l.taken (drop l.leaf-index l.leaves) l.next ≡ leaves_next l.taken l.leaves l.fn.next;
  atoms : l.atoms ++ leaves_atoms l.flat l.taken l.next (drop l.leaf-index l.leaves) ≡ l.fn.atoms ++ leaves_atoms l.flat l.taken l.fn.next l.leaves;
}
