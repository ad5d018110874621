use Rattle.std.proofs.Common.{◌≡◌, map, drop}
use Rattle.lmn_ground.specs.Copies.{unmarked_all}
use Rattle.lmn_ground_parts.specs.Copies.{AllAtoms}
use Rattle.lmn_ground.proofs.gather.clear.Given as goal

abbrev pub invariant-loop-i : goal.invariant-loop-i
invariant-loop-i g l = record {
  there : AllAtoms (g.S.LinkStore.heap l.store) (map g.S.LinkStore.atom_id l.atoms);
  rest : unmarked_all (g.S.LinkStore.heap l.store) (drop l.i (map g.S.LinkStore.atom_id l.atoms)) ≡ unmarked_all (g.S.LinkStore.heap l.fn.store) (map g.S.LinkStore.atom_id l.atoms);
}
