use Rattle.std.proofs.Common.{◌≡◌, refl, sym, subst, IfSome, Some, ℕ}
use Rattle.std.specs.Option.{option_map}
use Rattle.lmn_base.specs.declared.functor.Functor.{Functor}
use Rattle.lmn_store_heap.specs.Lists.{from, after}
use Rattle.lmn_store_heap.specs.Heap.{IsInPlace, home_of, functor_of, atoms_in}
use Rattle.lmn_store_heap.specs.Functors.{with_functor}
use Rattle.lmn_store_slab.specs.SlabStores.{kept_by}
use Rattle.lmn_store_slab.specs.Kept.{Kept, heap_of}
use Rattle.lmn_store_slab.proofs.HoldsLemmas.{own_list_there}
use Rattle.lmn_store_slab.proofs.SeekLemmas.{if_next}
use Rattle.lmn_store_slab.proofs.ReadLemmas.{next_with_list, next_with_functor}
use Rattle.lmn_store_slab.proofs.slab_store.SlabStoreLinkStore.next_with.Goals as goal

pub next-start-requires-clause-list : goal.next-start-requires-clause-list
next-start-requires-clause-list c =
    own_list_there _ _ _ _ c.self.invariant c.args.a c.index-cell.result.now c.index-cell.ensures (subst (λ (z : Kept). IsInPlace (heap_of z) c.args.a) (sym c.self.view_is) c.requires)

pub seek-requires-clause-start : goal.seek-requires-clause-start
seek-requires-clause-start c = if_next c.next-start.result c.args.a _ c.next-start.ensures

pub returns-clause-list : goal.returns-clause-list
returns-clause-list c =
    subst (λ (z : Kept). (m : ℕ) (f : Functor) → home_of (heap_of z) c.args.a ≡ Some m → functor_of (heap_of z) c.args.a ≡ Some f →
    from (option_map (λ x. x) c.seek.result) (with_functor (heap_of z) f (atoms_in (heap_of z) m)) ≡ after c.args.a (with_functor (heap_of z) f (atoms_in (heap_of z) m))) c.self.view_is
    (next_with_list _ _ _ _ c.self.invariant c.args.a c.index-cell.result.now c.index-cell.ensures (subst (λ (z : Kept). IsInPlace (heap_of z) c.args.a) (sym c.self.view_is) c.requires)
    c.next-start.result c.seek.result c.next-start.ensures (c.seek.ensures.first (heap_of (kept_by c.self.inside)) refl))

pub returns-clause-functor : goal.returns-clause-functor
returns-clause-functor c =
    subst (λ (z : Kept). IfSome c.seek.result (λ b. functor_of (heap_of z) b ≡ functor_of (heap_of z) c.args.a)) c.self.view_is
    (next_with_functor _ _ _ _ c.self.invariant c.args.a c.index-cell.result.now c.index-cell.ensures (subst (λ (z : Kept). IsInPlace (heap_of z) c.args.a) (sym c.self.view_is) c.requires)
    c.next-start.result c.seek.result c.next-start.ensures (c.seek.ensures.first (heap_of (kept_by c.self.inside)) refl) (c.seek.ensures.functor (heap_of (kept_by c.self.inside)) refl))
