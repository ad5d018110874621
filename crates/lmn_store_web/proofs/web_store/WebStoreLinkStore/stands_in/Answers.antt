use Rattle.std.proofs.Common.{subst, sym, ap, ◌≡◌, ◌∙◌, Option, Some, IsSome, IfSome, false}
use Rattle.std.specs.Prelude.{◌↔◌, IsTrue}
use Rattle.std.specs.Option.{option_map}
use Rattle.lmn_store_heap.specs.Heap.{IsAtom, IsMem, home_of}
use Rattle.lmn_web_cells.specs.CellIds.{cell_id}
use Rattle.lmn_web_cells.specs.declared.handle.Cell.{Cell}
use Rattle.lmn_web_merging.specs.Keepers.{merged_by}
use Rattle.lmn_store_web.specs.WebHeaps.{KeptWeb, heap_of}
use Rattle.lmn_store_web.specs.WebStores.{kept_by}
use Rattle.lmn_store_web.proofs.ReadLemmas.{atom_there, mem_there}
use Rattle.lmn_store_web.proofs.CallLemmas.{home_there, stands_by, stands_nowhere}
use Rattle.lmn_store_web.proofs.web_store.WebStoreLinkStore.stands_in.Goals as goal

pub home-requires : goal.home-requires
home-requires c =
    let a = cell_id c.args.a in let k = kept_by c.self.inside in
    (atom_there k.posts k.table (merged_by k.web) a (subst (λ (z : KeptWeb). IsAtom (heap_of z) a) (sym c.self.view_is) c.requires.atom)).0

pub same-requires-clause-first : goal.same-requires-clause-first
same-requires-clause-first c =
    let k = kept_by c.self.inside in
    subst (λ (o : Option Cell). IfSome o (λ m. IsSome (merged_by k.web (cell_id m)))) c.in-Some.is
    (home_there k.posts k.table (merged_by k.web) c.self.invariant.store.stored c.listed.ensures cell_id c.home.result (cell_id c.args.a) c.home.ensures)

pub same-requires-clause-second : goal.same-requires-clause-second
same-requires-clause-second c =
    let m = cell_id c.args.m in let k = kept_by c.self.inside in
    (mem_there k.posts k.table (merged_by k.web) m (subst (λ (z : KeptWeb). IsMem (heap_of z) m) (sym c.self.view_is) c.requires.membrane)).0

pub returns-in-None : goal.returns-in-None
returns-in-None c =
    let a = cell_id c.args.a in let m = cell_id c.args.m in let k = kept_by c.self.inside in
    subst (λ (z : KeptWeb). IsTrue false ↔ (home_of (heap_of z) a ≡ Some m)) c.self.view_is
    (stands_nowhere k.posts k.table (merged_by k.web) c.self.invariant.store.stored c.listed.ensures a m
    (subst (λ (z : KeptWeb). IsAtom (heap_of z) a) (sym c.self.view_is) c.requires.atom) (c.home.ensures ∙ ap (option_map cell_id) c.in-None.is))

pub returns-in-Some : goal.returns-in-Some
returns-in-Some c =
    let a = cell_id c.args.a in let m = cell_id c.args.m in let k = kept_by c.self.inside in
    subst (λ (z : KeptWeb). IsTrue c.same.result ↔ (home_of (heap_of z) a ≡ Some m)) c.self.view_is
    (stands_by k.posts k.table (merged_by k.web) c.self.invariant.store.stored c.listed.ensures c.same.result a (cell_id c.in-Some.home) m
    (subst (λ (z : KeptWeb). IsAtom (heap_of z) a) (sym c.self.view_is) c.requires.atom) (subst (λ (z : KeptWeb). IsMem (heap_of z) m) (sym c.self.view_is) c.requires.membrane)
    (c.home.ensures ∙ ap (option_map cell_id) c.in-Some.is) c.same.ensures)
