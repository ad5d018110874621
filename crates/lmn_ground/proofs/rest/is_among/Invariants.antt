use Rattle.std.proofs.Common.{◌≡◌, map, drop}
use Rattle.lmn_ground_parts.specs.Walks.{is_in}
use Rattle.lmn_ground.specs.Rests.{AreMembranes}
use Rattle.lmn_ground.proofs.rest.is_among.Given as goal

abbrev pub invariant-loop-other : goal.invariant-loop-other
invariant-loop-other g l = record {
  there : AreMembranes (g.S.LinkStore.heap l.store) (map g.S.LinkStore.mem_id (drop l.other-index l.out));
  left : is_in (map g.S.LinkStore.mem_id (drop l.other-index l.out)) (g.S.LinkStore.mem_id l.m) ≡ is_in (map g.S.LinkStore.mem_id l.out) (g.S.LinkStore.mem_id l.m);
}
