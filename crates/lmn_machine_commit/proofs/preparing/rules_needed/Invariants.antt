use Rattle.std.proofs.Common.{◌≡◌, take}
use Rattle.lmn_store_heap.specs.Heap.{rules_in}
use Rattle.lmn_solid_bodies.specs.Running.{Registers}
use Rattle.lmn_machine_commit.specs.Registers.{AgreesWithCopies}
use Rattle.lmn_machine_commit.specs.Preparing.{needed}
use Rattle.lmn_machine_commit.proofs.preparing.rules_needed.Given as goal

abbrev pub invariant-loop-i : goal.invariant-loop-i
invariant-loop-i g l = (r : Registers) → AgreesWithCopies g.S.LinkStore.atom_id g.S.LinkStore.mem_id l.set r → l.count ≡ needed r (rules_in (g.S.LinkStore.heap l.store)) (take l.i l.code) (g.S.LinkStore.mem_id l.membrane)
