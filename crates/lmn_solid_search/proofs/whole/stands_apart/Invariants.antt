use Rattle.std.proofs.Common.{ℕ, take}
use Rattle.lmn_base.specs.Lists.{In}
use Rattle.lmn_solid_tables.specs.Flats.{heap_of}
use Rattle.lmn_solid_search.specs.Walking.{Fits}
use Rattle.lmn_solid_search.proofs.whole.stands_apart.Given as goal

abbrev pub invariant-loop-atom : goal.invariant-loop-atom
invariant-loop-atom l = (a : ℕ) → In a (take l.atom-index l.atoms) → Fits (heap_of l.flat) l.home l.images a
