use Rattle.std.proofs.Common.{subst, sym, ap, ◌≡◌, ◌∙◌, IfSome, Some}
use Rattle.std.specs.Option.{option_map}
use Rattle.lmn_store_heap.specs.Lists.{from}
use Rattle.lmn_store_heap.specs.Heap.{IsMem, functor_of, home_of, atoms_in}
use Rattle.lmn_store_heap.specs.Functors.{with_functor}
use Rattle.lmn_web_cells.specs.CellIds.{cell_id}
use Rattle.lmn_web.specs.declared.kind.CellKind.TheVariants.{Atom}
use Rattle.lmn_web.specs.Webs.{cells_in, with_label}
use Rattle.lmn_web_merging.specs.Keepers.{merged_by}
use Rattle.lmn_store_web.specs.Labels.{label_by}
use Rattle.lmn_store_web.specs.WebHeaps.{KeptWeb, heap_of}
use Rattle.lmn_store_web.specs.WebStores.{kept_by}
use Rattle.lmn_store_web.proofs.ReadLemmas.{mem_there}
use Rattle.lmn_store_web.proofs.WithLemmas.{first_with_list, first_with_functor, first_with_home}
use Rattle.lmn_store_web.proofs.web_store.WebStoreLinkStore.first_with.Goals as goal

pub first_with-requires : goal.first_with-requires
first_with-requires c =
    let m = cell_id c.args.m in
    let k = kept_by c.self.inside in
    (mem_there k.posts k.table (merged_by k.web) m (subst (λ (z : KeptWeb). IsMem (heap_of z) m) (sym c.self.view_is) c.requires)).1

pub returns-clause-list : goal.returns-clause-list
returns-clause-list c =
    let m = cell_id c.args.m in
    let k = kept_by c.self.inside in
    let v = merged_by k.web in
    let f = c.args.f in
    let back = ap label_by (sym c.number_of.ensures.number) ∙ c.number_of.ensures.back in
    let list = subst (λ n. from (option_map cell_id c.first_with.result) (with_label v n f.arity (cells_in v m Atom)) ≡ with_label v n f.arity (cells_in v m Atom)) c.number_of.ensures.number c.first_with.ensures.list in
    let s = subst (λ (z : KeptWeb). IsMem (heap_of z) m) (sym c.self.view_is) c.requires in
    subst (λ (z : KeptWeb). from (option_map cell_id c.first_with.result) (with_functor (heap_of z) f (atoms_in (heap_of z) m)) ≡ with_functor (heap_of z) f (atoms_in (heap_of z) m)) c.self.view_is
    (first_with_list k.posts k.table v c.self.invariant.store.stored c.listed.ensures f back cell_id c.first_with.result m s list)

pub returns-clause-functor : goal.returns-clause-functor
returns-clause-functor c =
    let m = cell_id c.args.m in
    let k = kept_by c.self.inside in
    let v = merged_by k.web in
    let f = c.args.f in
    let back = ap label_by (sym c.number_of.ensures.number) ∙ c.number_of.ensures.back in
    let list = subst (λ n. from (option_map cell_id c.first_with.result) (with_label v n f.arity (cells_in v m Atom)) ≡ with_label v n f.arity (cells_in v m Atom)) c.number_of.ensures.number c.first_with.ensures.list in
    let s = subst (λ (z : KeptWeb). IsMem (heap_of z) m) (sym c.self.view_is) c.requires in
    subst (λ (z : KeptWeb). IfSome c.first_with.result (λ a. functor_of (heap_of z) (cell_id a) ≡ Some f)) c.self.view_is
    (first_with_functor k.posts k.table v c.self.invariant.store.stored c.listed.ensures f back cell_id c.first_with.result m s list)

pub returns-clause-home : goal.returns-clause-home
returns-clause-home c =
    let m = cell_id c.args.m in
    let k = kept_by c.self.inside in
    let v = merged_by k.web in
    let f = c.args.f in
    let back = ap label_by (sym c.number_of.ensures.number) ∙ c.number_of.ensures.back in
    let list = subst (λ n. from (option_map cell_id c.first_with.result) (with_label v n f.arity (cells_in v m Atom)) ≡ with_label v n f.arity (cells_in v m Atom)) c.number_of.ensures.number c.first_with.ensures.list in
    let s = subst (λ (z : KeptWeb). IsMem (heap_of z) m) (sym c.self.view_is) c.requires in
    subst (λ (z : KeptWeb). IfSome c.first_with.result (λ a. home_of (heap_of z) (cell_id a) ≡ Some m)) c.self.view_is
    (first_with_home k.posts k.table v c.self.invariant.store.stored c.listed.ensures f back cell_id c.first_with.result m s list)
