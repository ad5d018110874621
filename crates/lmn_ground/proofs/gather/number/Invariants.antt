use Rattle.std.proofs.Common.{map, take}
use Rattle.lmn_ground_parts.specs.Copies.{AllAtoms}
use Rattle.lmn_ground.proofs.GatherRestLaws.{Numbering}
use Rattle.lmn_ground.proofs.gather.number.Given as goal

abbrev pub invariant-loop-i : goal.invariant-loop-i
invariant-loop-i g l = record {
  numbering : Numbering (g.S.LinkStore.heap l.fn.store) (g.S.LinkStore.heap l.store) (map g.S.LinkStore.atom_id (take l.i l.atoms));
  there : AllAtoms (g.S.LinkStore.heap l.store) (map g.S.LinkStore.atom_id l.atoms);
}
