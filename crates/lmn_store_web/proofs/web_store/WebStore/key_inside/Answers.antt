use Rattle.std.proofs.Common.{◌≡◌, [], Some, inl, map, refl, sym, ap, subst, ◌∙◌}
use Rattle.lmn_base.specs.Lists.{In}
use Rattle.lmn_store_heap.specs.Heap.{IsMem, mems_in}
use Rattle.lmn_store_heap.specs.Lists.{from}
use Rattle.lmn_store_heap.proofs.Common.{in_map}
use Rattle.lmn_web_cells.specs.CellIds.{cell_id}
use Rattle.lmn_web.specs.declared.kind.CellKind.TheVariants.{Membrane}
use Rattle.lmn_web.specs.Webs.{cells_in}
use Rattle.lmn_web_merging.specs.Keepers.{merged_by}
use Rattle.lmn_store_web.specs.WebHeaps.{KeptWeb, heap_of}
use Rattle.lmn_store_web.specs.WebStores.{HasRules, kept_by}
use Rattle.lmn_store_web.specs.Indexes.{key_of}
use Rattle.lmn_store_web.proofs.ReadLemmas.{mem_there, mems_is}
use Rattle.lmn_store_web.proofs.CallLemmas.{homed_mem}
use Rattle.lmn_store_web.proofs.IndexLemmas.{key_is}
use Rattle.lmn_store_web.proofs.web_store.WebStore.key_inside.Goals as goal

pub first-requires : goal.first-requires
first-requires c =
    let m = cell_id c.args.m in let k = kept_by c.self.inside in
    (mem_there k.posts k.table (merged_by k.web) m (subst (λ (z : KeptWeb). IsMem (heap_of z) m) (sym c.self.view_is) c.requires)).1

pub returns-in-None : goal.returns-in-None
returns-in-None c =
    let k = kept_by c.self.inside in let w = merged_by k.web in let m = cell_id c.args.m in
    let i = mem_there k.posts k.table w m (subst (λ (z : KeptWeb). IsMem (heap_of z) m) (sym c.self.view_is) c.requires) in
    let none : [] ≡ cells_in w m Membrane = c.in-None.ensures.list in
    subst (λ (z : KeptWeb). map (key_of (merged_by z.web)) (mems_in (heap_of z) m) ≡ []) c.self.view_is (ap (λ xs. map (key_of w) xs) (mems_is k.posts k.table w m i.1 i.2 i.3 ∙ sym none))

pub returns-in-Some : goal.returns-in-Some
returns-in-Some c =
    let k = kept_by c.self.inside in let w = merged_by k.web in let m = cell_id c.args.m in let n = cell_id c.in-Some.n in
    let i = mem_there k.posts k.table w m (subst (λ (z : KeptWeb). IsMem (heap_of z) m) (sym c.self.view_is) c.requires) in
    let first : from (Some n) (cells_in w m Membrane) ≡ cells_in w m Membrane = c.in-Some.ensures.list in
    let inside : In n (mems_in (heap_of k) m) = subst (λ us. In n us) (first ∙ sym (mems_is k.posts k.table w m i.1 i.2 i.3)) (inl refl) in
    let rules = subst (λ (z : KeptWeb). HasRules z.table (merged_by z.web) n c.place_of_rules.result) (sym c.self.view_is) c.place_of_rules.ensures in
    subst (λ (z : KeptWeb). In c.place_of_rules.result (map (key_of (merged_by z.web)) (mems_in (heap_of z) m))) c.self.view_is
    (subst (λ r. In r (map (key_of w) (mems_in (heap_of k) m))) (key_is w n c.place_of_rules.result rules.0) (in_map (key_of w) n (mems_in (heap_of k) m) inside))

pub place_of_rules-requires : goal.place_of_rules-requires
place_of_rules-requires c =
    let k = kept_by c.self.inside in let w = merged_by k.web in let m = cell_id c.args.m in let n = cell_id c.in-Some.n in
    let first : from (Some n) (cells_in w m Membrane) ≡ cells_in w m Membrane = c.in-Some.ensures.list in
    let h = c.listed.ensures.homes m n Membrane (subst (λ us. In n us) first (inl refl)) in
    subst (λ (z : KeptWeb). IsMem (heap_of z) n) c.self.view_is (homed_mem k.posts k.table w c.self.invariant.store.stored c.listed.ensures n m h.0 h.1)
