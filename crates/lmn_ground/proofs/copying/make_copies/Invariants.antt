use Rattle.std.proofs.Common.{◌≡◌, map, length}
use Rattle.lmn_ground.specs.Copies.{Made}
use Rattle.lmn_ground_parts.specs.Copies.{AllAtoms}
use Rattle.lmn_ground.proofs.copying.make_copies.Given as goal

abbrev pub invariant-loop-i : goal.invariant-loop-i
invariant-loop-i g l = record {
  there : AllAtoms (g.S.LinkStore.heap l.store) (map g.S.LinkStore.atom_id l.atoms);
  made : Made (g.S.LinkStore.heap l.fn.store) (g.S.LinkStore.heap l.store) (map g.S.LinkStore.atom_id l.atoms) (map g.S.LinkStore.atom_id l.copies);
  long : length l.copies ≡ l.i;
}
