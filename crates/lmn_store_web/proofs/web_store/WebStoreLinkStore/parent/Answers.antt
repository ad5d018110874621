use Rattle.std.proofs.Common.{subst, sym, ap, ◌≡◌, ◌∙◌, IfSome, IsSome}
use Rattle.std.specs.Option.{option_map}
use Rattle.lmn_store_heap.specs.Heap.{IsMem, parent_of, home_by}
use Rattle.lmn_web_cells.specs.CellIds.{cell_id}
use Rattle.lmn_web_merging.specs.Keepers.{merged_by}
use Rattle.lmn_store_web.specs.WebHeaps.{KeptWeb, heap_of, place_at}
use Rattle.lmn_store_web.specs.WebStores.{kept_by}
use Rattle.lmn_store_web.proofs.ReadLemmas.{mem_there}
use Rattle.lmn_store_web.proofs.CallLemmas.{home_there, parent_answer}
use Rattle.lmn_store_web.proofs.web_store.WebStoreLinkStore.parent.Goals as goal

pub standing-requires : goal.standing-requires
standing-requires c = subst (λ (z : KeptWeb). IfSome c.home.result (λ m. IsSome (merged_by z.web (cell_id m)))) c.self.view_is (home_there _ _ _ c.self.invariant.store.stored c.listed.ensures cell_id c.home.result (cell_id c.args.m) c.home.ensures)

pub returns : goal.returns
returns c =
    let a = cell_id c.args.m in
    let k = kept_by c.self.inside in
    subst (λ (z : KeptWeb). parent_of (heap_of z) a ≡ option_map cell_id c.standing.result) c.self.view_is
    (parent_answer k.posts k.table (merged_by k.web) c.self.invariant.store.stored c.listed.ensures cell_id c.home.result c.standing.result a (subst (λ (z : KeptWeb). IsMem (heap_of z) a) (sym c.self.view_is) c.requires) c.home.ensures (ap (λ (z : KeptWeb). home_by (place_at z.posts (option_map cell_id c.home.result))) c.self.view_is ∙ c.standing.ensures))

pub home-requires : goal.home-requires
home-requires c =
    let m = cell_id c.args.m in let k = kept_by c.self.inside in
    (mem_there k.posts k.table (merged_by k.web) m (subst (λ (z : KeptWeb). IsMem (heap_of z) m) (sym c.self.view_is) c.requires)).0
