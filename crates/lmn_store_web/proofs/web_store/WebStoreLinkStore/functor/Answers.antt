use Rattle.std.proofs.Common.{subst, sym, ◌≡◌, Some}
use Rattle.lmn_store_heap.specs.Heap.{IsAtom}
use Rattle.lmn_web_cells.specs.CellIds.{cell_id}
use Rattle.lmn_web_merging.specs.Keepers.{merged_by}
use Rattle.lmn_store_web.specs.WebHeaps.{KeptWeb, heap_of}
use Rattle.lmn_store_web.specs.WebStores.{kept_by}
use Rattle.lmn_store_web.proofs.ReadLemmas.{atom_there, functor_is}
use Rattle.lmn_store_web.proofs.web_store.WebStoreLinkStore.functor.Goals as goal
use Rattle.lmn_base.specs.declared.functor.Functor.{Functor}
use Rattle.lmn_store_heap.specs.Heap.{functor_of}

pub arity-requires-clause-atom : goal.arity-requires-clause-atom
arity-requires-clause-atom c =
    let a = cell_id c.args.a in let k = kept_by c.self.inside in
    (atom_there k.posts k.table (merged_by k.web) a (subst (λ (z : KeptWeb). IsAtom (heap_of z) a) (sym c.self.view_is) c.requires)).1

pub label_of-requires : goal.label_of-requires
label_of-requires c =
    let a = cell_id c.args.a in
    let k = kept_by c.self.inside in
    let i = atom_there k.posts k.table (merged_by k.web) a (subst (λ (z : KeptWeb). IsAtom (heap_of z) a) (sym c.self.view_is) c.requires) in
    (k.posts.by_value, c.self.invariant.store.stored.labels a c.label.result i.1 c.label.ensures)

pub returns : goal.returns
returns c =
    let a = cell_id c.args.a in
    let k = kept_by c.self.inside in
    let i = atom_there k.posts k.table (merged_by k.web) a (subst (λ (z : KeptWeb). IsAtom (heap_of z) a) (sym c.self.view_is) c.requires) in
    let f : Functor = record { label = c.label_of.result; arity = c.arity.result } in
    subst (λ (z : KeptWeb). functor_of (heap_of z) a ≡ Some f) c.self.view_is
    (functor_is k.posts k.table (merged_by k.web) a i.1 c.label.result c.arity.result f c.label.ensures c.arity.ensures (λ j. record { label = c.label_of.ensures j; arity = c.arity.result }))

pub label-requires : goal.label-requires
label-requires c =
    let a = cell_id c.args.a in let k = kept_by c.self.inside in
    (atom_there k.posts k.table (merged_by k.web) a (subst (λ (z : KeptWeb). IsAtom (heap_of z) a) (sym c.self.view_is) c.requires)).0

pub arity-requires-clause-there : goal.arity-requires-clause-there
arity-requires-clause-there c =
    let a = cell_id c.args.a in let k = kept_by c.self.inside in
    (atom_there k.posts k.table (merged_by k.web) a (subst (λ (z : KeptWeb). IsAtom (heap_of z) a) (sym c.self.view_is) c.requires)).0
