use Rattle.std.proofs.Common.{◌≡◌, drop}
use Rattle.std.specs.List.{AllByRecursion}
use Rattle.lmn_solid_tables.specs.Flats.{heap_of}
use Rattle.lmn_solid_firing.specs.Making.{HasAtoms, typed_atoms, typed_next}
use Rattle.lmn_solid_firing.proofs.leaves.add_typed.Given as goal

abbrev pub invariant-loop-part : goal.invariant-loop-part
invariant-loop-part l = record {
  there : AllByRecursion (HasAtoms (heap_of l.flat)) (drop l.part-index l.part-items);
  left : typed_atoms l.flat (drop l.part-index l.part-items) l.taken.integers l.name l.link l.next ≡ typed_atoms l.flat l.taken.parts l.taken.integers l.name l.link l.fn.next;
  left_next : typed_next l.taken.links (drop l.part-index l.part-items) l.name l.next ≡ typed_next l.taken.links l.taken.parts l.name l.fn.next;
  same : l.atoms ≡ l.fn.atoms;
}
