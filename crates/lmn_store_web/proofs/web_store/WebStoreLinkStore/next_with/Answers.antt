use Rattle.std.proofs.Common.{subst, sym, ◌≡◌, IfSome, Some, ℕ}
use Rattle.std.specs.Option.{option_map}
use Rattle.lmn_base.specs.declared.functor.Functor.{Functor}
use Rattle.lmn_store_heap.specs.Lists.{from, after}
use Rattle.lmn_store_heap.specs.Heap.{IsInPlace, functor_of, home_of, atoms_in}
use Rattle.lmn_store_heap.specs.Functors.{with_functor}
use Rattle.lmn_web_cells.specs.CellIds.{cell_id}
use Rattle.lmn_web_merging.specs.Keepers.{merged_by}
use Rattle.lmn_store_web.specs.WebHeaps.{KeptWeb, heap_of}
use Rattle.lmn_store_web.specs.WebStores.{kept_by}
use Rattle.lmn_store_web.proofs.SoundLemmas.{merged_formed}
use Rattle.lmn_store_web.proofs.CallLemmas.{has_home}
use Rattle.lmn_store_web.proofs.WithLemmas.{in_place_kind, next_with_list, next_with_functor, next_with_home}
use Rattle.lmn_store_web.proofs.web_store.WebStoreLinkStore.next_with.Goals as goal

pub next_with-requires-clause-home : goal.next_with-requires-clause-home
next_with-requires-clause-home c =
    let a = cell_id c.args.a in
    let k = kept_by c.self.inside in
    let s = subst (λ (z : KeptWeb). IsInPlace (heap_of z) a) (sym c.self.view_is) c.requires in
    has_home k.posts k.table (merged_by k.web) c.self.invariant.store.stored c.listed.ensures a s

pub next_with-requires-clause-atom : goal.next_with-requires-clause-atom
next_with-requires-clause-atom c =
    let a = cell_id c.args.a in
    let k = kept_by c.self.inside in
    let s = subst (λ (z : KeptWeb). IsInPlace (heap_of z) a) (sym c.self.view_is) c.requires in
    in_place_kind k.posts k.table (merged_by k.web) c.self.invariant.store.stored c.listed.ensures a s

pub returns-clause-list : goal.returns-clause-list
returns-clause-list c =
    let a = cell_id c.args.a in
    let k = kept_by c.self.inside in
    let s = subst (λ (z : KeptWeb). IsInPlace (heap_of z) a) (sym c.self.view_is) c.requires in
    subst (λ (z : KeptWeb). (m : ℕ) (f : Functor) → home_of (heap_of z) a ≡ Some m → functor_of (heap_of z) a ≡ Some f
    → from (option_map cell_id c.next_with.result) (with_functor (heap_of z) f (atoms_in (heap_of z) m)) ≡ after a (with_functor (heap_of z) f (atoms_in (heap_of z) m))) c.self.view_is
    (next_with_list k.posts k.table (merged_by k.web) c.self.invariant.store.stored c.listed.ensures c.paired.ensures (merged_formed k.web) cell_id c.next_with.result a c.next_with.ensures.list)

pub returns-clause-functor : goal.returns-clause-functor
returns-clause-functor c =
    let a = cell_id c.args.a in
    let k = kept_by c.self.inside in
    let s = subst (λ (z : KeptWeb). IsInPlace (heap_of z) a) (sym c.self.view_is) c.requires in
    subst (λ (z : KeptWeb). IfSome c.next_with.result (λ b. functor_of (heap_of z) (cell_id b) ≡ functor_of (heap_of z) a)) c.self.view_is
    (next_with_functor k.posts k.table (merged_by k.web) c.self.invariant.store.stored c.listed.ensures c.paired.ensures (merged_formed k.web) cell_id c.next_with.result a c.next_with.ensures.list s)

pub returns-clause-home : goal.returns-clause-home
returns-clause-home c =
    let a = cell_id c.args.a in
    let k = kept_by c.self.inside in
    let s = subst (λ (z : KeptWeb). IsInPlace (heap_of z) a) (sym c.self.view_is) c.requires in
    subst (λ (z : KeptWeb). IfSome c.next_with.result (λ b. home_of (heap_of z) (cell_id b) ≡ home_of (heap_of z) a)) c.self.view_is
    (next_with_home k.posts k.table (merged_by k.web) c.self.invariant.store.stored c.listed.ensures c.paired.ensures (merged_formed k.web) cell_id c.next_with.result a c.next_with.ensures.list s)
