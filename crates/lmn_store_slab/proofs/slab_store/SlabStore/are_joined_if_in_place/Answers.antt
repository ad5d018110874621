use Rattle.std.proofs.Common.{◌≡◌, refl, sym, subst, rules}
use Rattle.lmn_store_heap.specs.Heap.{arity_of}
use Rattle.lmn_store_slab.specs.SlabStores.{kept_by}
use Rattle.lmn_store_slab.specs.Kept.{Kept, heap_of}
use Rattle.lmn_store_slab.proofs.SeekLemmas.{functor_at}
use Rattle.lmn_store_slab.proofs.slab_store.SlabStore.are_joined_if_in_place.Goals as goal

pub are_joined-requires-clause-arity : goal.are_joined-requires-clause-arity
are_joined-requires-clause-arity c =
    subst (λ (z : Kept). c.in-Some.cell.now.functor.arity ≡ arity_of (heap_of z) c.args.a) c.self.view_is
    (sym (c.self.invariant.fits.shaped.ports c.args.a c.in-Some.cell.now.functor
    (functor_at (heap_of (kept_by c.self.inside)) c.self.inside.atoms.slots c.args.a c.in-Some.cell.now refl (search rules))))
