use Rattle.std.proofs.Common.{◌≡◌, ◌+◌, ◌++◌, drop, length}
use Rattle.lmn_solid_heads.specs.Heads.{atoms_of}
use Rattle.lmn_solid_firing.specs.Pieces.{ends_from}
use Rattle.lmn_solid_firing.proofs.wires.ends_of.Given as goal

abbrev pub invariant-loop-item : goal.invariant-loop-item
invariant-loop-item l = record {
  ends : l.ends ++ ends_from l.flat l.images l.number (atoms_of (drop l.item-index l.items)) ≡ ends_from l.flat l.images 0 (atoms_of l.items);
  count : l.number + length (atoms_of (drop l.item-index l.items)) ≡ length (atoms_of l.items);
}
