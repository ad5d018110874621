use Rattle.std.proofs.Common.{◌≡◌, drop}
use Rattle.lmn_solid_firing.specs.Making.{integer_atoms}
use Rattle.lmn_solid_firing.proofs.leaves.add_integer.Given as goal

abbrev pub invariant-loop-other : goal.invariant-loop-other
invariant-loop-other l = record {
  left : integer_atoms (drop l.other-index l.integers) l.name l.link ≡ integer_atoms l.integers l.name l.link;
  same : l.atoms ≡ l.fn.atoms;
}
