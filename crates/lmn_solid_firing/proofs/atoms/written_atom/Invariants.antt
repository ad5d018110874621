use Rattle.std.proofs.Common.{◌≡◌, ◌++◌, ◌-◌, map}
use Rattle.lmn_store_heap.specs.Solid.{links_from}
use Rattle.lmn_solid_tables.specs.Flats.{link_at}
use Rattle.lmn_solid_firing.specs.Making.{written}
use Rattle.lmn_solid_firing.proofs.atoms.written_atom.Given as goal

abbrev pub invariant-loop-index : goal.invariant-loop-index
invariant-loop-index l = l.links ++ map (written l.writing) (links_from (link_at l.flat) l.atom l.index (l.functor.arity - l.index)) ≡ map (written l.writing) (links_from (link_at l.flat) l.atom 0 l.functor.arity)
