use Rattle.std.proofs.Common.{length}
use Rattle.lmn_store_heap.specs.Heap.{Unmarked}
use Rattle.lmn_ground.specs.Listed.{IsListed}
use Rattle.lmn_machine_commit.specs.Preparing.{AllUse}
use Rattle.lmn_machine_commit.specs.Committing.{IsDoneSoFar}
use Rattle.lmn_machine_commit.proofs.committing.take_first.Given as goal

abbrev pub invariant-loop-instr : goal.invariant-loop-instr
invariant-loop-instr g l = record {
  unmarked : Unmarked (g.S.LinkStore.heap l.store);
  uses : AllUse (length l.set.atoms) (length l.set.membranes) (length l.set.parts) (length l.set.copies) l.rest;
  done : IsDoneSoFar g.S.LinkStore.atom_id g.S.LinkStore.mem_id l.set l.code l.rest (g.S.LinkStore.heap l.fn.store) (g.S.LinkStore.heap l.store);
  listed : IsListed g.S.LinkStore.atom_id (g.S.LinkStore.heap l.store) l.set.listed;
}

abbrev pub decreases-loop-instr : goal.decreases-loop-instr
decreases-loop-instr g l = length l.rest
