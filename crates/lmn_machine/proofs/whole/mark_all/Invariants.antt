use Rattle.std.proofs.Common.{◌≡◌, drop, map}
use Rattle.lmn_machine_commit.specs.Registers.{AreAtomHandles}
use Rattle.lmn_ground.specs.Rests.{own_marked}
use Rattle.lmn_machine.proofs.whole.mark_all.Given as goal

abbrev pub invariant-loop-i : goal.invariant-loop-i
invariant-loop-i g l = record {
  left : own_marked l.mark (map g.S.LinkStore.atom_id (drop l.i l.atoms)) (g.S.LinkStore.heap l.store)
      ≡ own_marked l.mark (map g.S.LinkStore.atom_id l.atoms) (g.S.LinkStore.heap l.fn.store);
  held : AreAtomHandles g.S.LinkStore.atom_id (g.S.LinkStore.heap l.store) l.atoms;
}
