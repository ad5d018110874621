use Rattle.std.proofs.Common.{◌≡◌, sym, subst, IfSome}
use Rattle.lmn_store_heap.specs.Heap.{IsInPlace, home_of}
use Rattle.lmn_store_slab.specs.Kept.{Kept, heap_of}
use Rattle.lmn_store_slab.proofs.HoldsLemmas.{own_list_there}
use Rattle.lmn_store_slab.proofs.ReadLemmas.{next_homes}
use Rattle.lmn_store_slab.proofs.slab_store.SlabStoreLinkStore.next_atom.Goals as goal

pub next-requires-clause-list : goal.next-requires-clause-list
next-requires-clause-list c =
    own_list_there _ _ _ _ c.self.invariant c.args.a c.index.result.now c.index.ensures (subst (λ (z : Kept). IsInPlace (heap_of z) c.args.a) (sym c.self.view_is) c.requires)

pub returns-clause-home : goal.returns-clause-home
returns-clause-home c =
    subst (λ (z : Kept). IfSome c.next.result (λ b. home_of (heap_of z) b ≡ home_of (heap_of z) c.args.a)) c.self.view_is
    (next_homes _ _ _ _ c.self.invariant c.args.a c.index.result.now c.index.ensures c.next.result c.next.ensures)
