use Rattle.std.proofs.Common.{ap, sym}
use Rattle.lmn_store_slab.specs.Cells.{atoms_in_cells}
use Rattle.lmn_store_slab.specs.Kept.{Kept, heap_of}
use Rattle.lmn_store_slab.proofs.slab_store.SlabStoreLinkStore.first_with.Goals as goal

pub returns-clause-functor : goal.returns-clause-functor
returns-clause-functor c = c.seek.ensures.functor (heap_of c.args.self.now) (ap (λ (z : Kept). atoms_in_cells z.atoms) (sym c.self.view_is))
