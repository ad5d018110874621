use Rattle.std.proofs.Common.{◌≡◌, ◌≢◌, [], ℕ, Option, Some, IsSome, refl, sym, ap, subst, ◌∙◌, inl, inr}
use Rattle.std.specs.Option.{option_map}
use Rattle.lmn_store_heap.specs.Lists.{from}
use Rattle.lmn_store_heap.specs.Heap.{IsMem, IsMemInPlace, placed_mem}
use Rattle.lmn_web_cells.specs.CellIds.{cell_id}
use Rattle.lmn_web.specs.declared.kind.CellKind.TheVariants.{Membrane}
use Rattle.lmn_web.specs.Webs.{cells_in}
use Rattle.lmn_web_merging.specs.Keepers.{merged_by}
use Rattle.lmn_store_web.specs.WebHeaps.{KeptWeb, heap_of}
use Rattle.lmn_store_web.specs.WebStores.{kept_by}
use Rattle.lmn_store_web.proofs.SendLemmas.{sent_stored, sent_counts}
use Rattle.lmn_store_web.proofs.PlaceLemmas.{first_some, placing, placed_mem_heap}
use Rattle.std.proofs.Common.{map}
use Rattle.lmn_base.specs.Lists.{In}
use Rattle.lmn_store_web_preorder.specs.Indexed.{IsNested}
use Rattle.lmn_store_web.specs.WebHeaps.{heap_by}
use Rattle.lmn_store_web.specs.WebStores.{HasRules}
use Rattle.lmn_store_web.specs.Indexes.{key_of}
use Rattle.lmn_web_merging.proofs.Sending.{kind_there}
use Rattle.lmn_store_web.proofs.ReadLemmas.{mem_is}
use Rattle.lmn_store_web.proofs.CallLemmas.{homed_mem}
use Rattle.lmn_store_web.proofs.SoundLemmas.{heap_sound, merged_formed}
use Rattle.lmn_store_web.proofs.SendLemmas.{label_same}
use Rattle.lmn_store_web.proofs.IndexLemmas.{index_by, index_put, index_placed, key_by, key_is}
use Rattle.lmn_store_web.proofs.web_store.WebStoreLinkStore.place_mem.Goals as goal
use Rattle.lmn_store_heap.proofs.Calls.{stands_some}

pub unwrap-n-requires : goal.unwrap-n-requires
unwrap-n-requires c =
    let k = kept_by c.self.inside in
    first_some cell_id c.first.result (cells_in (merged_by k.web) k.posts.waiting Membrane) c.first.ensures.list (subst (λ (z : KeptWeb). (heap_of z).new_mems ≢ []) (sym c.self.view_is) c.requires.waiting)

pub send-requires-clause-listed : goal.send-requires-clause-listed
send-requires-clause-listed c =
    let k = kept_by c.self.inside in let w = merged_by k.web in let x = cell_id c.unwrap-n.result in let n = cell_id c.args.m in
    let first : from (Some x) (cells_in w k.posts.waiting Membrane) ≡ cells_in w k.posts.waiting Membrane = subst (λ o. from (option_map cell_id o) (cells_in w k.posts.waiting Membrane) ≡ cells_in w k.posts.waiting Membrane) c.unwrap-n.ensures c.first.ensures.list in
    let q = placing k.posts k.table w c.self.invariant.store.stored c.listed.ensures Membrane x n first (subst (λ (z : KeptWeb). IsMemInPlace (heap_of z) n) (sym c.self.view_is) c.requires.mem) in
    subst (λ (o : Option ℕ). IsSome o) (sym q.home) refl

pub send-requires-clause-membrane : goal.send-requires-clause-membrane
send-requires-clause-membrane c =
    let k = kept_by c.self.inside in let w = merged_by k.web in let x = cell_id c.unwrap-n.result in let n = cell_id c.args.m in
    let first : from (Some x) (cells_in w k.posts.waiting Membrane) ≡ cells_in w k.posts.waiting Membrane = subst (λ o. from (option_map cell_id o) (cells_in w k.posts.waiting Membrane) ≡ cells_in w k.posts.waiting Membrane) c.unwrap-n.ensures c.first.ensures.list in
    let q = placing k.posts k.table w c.self.invariant.store.stored c.listed.ensures Membrane x n first (subst (λ (z : KeptWeb). IsMemInPlace (heap_of z) n) (sym c.self.view_is) c.requires.mem) in
    q.membrane

pub send-requires-clause-own : goal.send-requires-clause-own
send-requires-clause-own c _ =
    let k = kept_by c.self.inside in let w = merged_by k.web in let x = cell_id c.unwrap-n.result in let n = cell_id c.args.m in
    let first : from (Some x) (cells_in w k.posts.waiting Membrane) ≡ cells_in w k.posts.waiting Membrane = subst (λ o. from (option_map cell_id o) (cells_in w k.posts.waiting Membrane) ≡ cells_in w k.posts.waiting Membrane) c.unwrap-n.ensures c.first.ensures.list in
    let q = placing k.posts k.table w c.self.invariant.store.stored c.listed.ensures Membrane x n first (subst (λ (z : KeptWeb). IsMemInPlace (heap_of z) n) (sym c.self.view_is) c.requires.mem) in
    inl (c.self.invariant.store.stored.plain x q.kind (inr (inr q.home)))

pub send-requires-clause-kind : goal.send-requires-clause-kind
send-requires-clause-kind c =
    let k = kept_by c.self.inside in let w = merged_by k.web in let x = cell_id c.unwrap-n.result in let n = cell_id c.args.m in
    let first : from (Some x) (cells_in w k.posts.waiting Membrane) ≡ cells_in w k.posts.waiting Membrane = subst (λ o. from (option_map cell_id o) (cells_in w k.posts.waiting Membrane) ≡ cells_in w k.posts.waiting Membrane) c.unwrap-n.ensures c.first.ensures.list in
    let q = placing k.posts k.table w c.self.invariant.store.stored c.listed.ensures Membrane x n first (subst (λ (z : KeptWeb). IsMemInPlace (heap_of z) n) (sym c.self.view_is) c.requires.mem) in
    q.kind

pub send-requires-clause-differ : goal.send-requires-clause-differ
send-requires-clause-differ c =
    let k = kept_by c.self.inside in let w = merged_by k.web in let x = cell_id c.unwrap-n.result in let n = cell_id c.args.m in
    let first : from (Some x) (cells_in w k.posts.waiting Membrane) ≡ cells_in w k.posts.waiting Membrane = subst (λ o. from (option_map cell_id o) (cells_in w k.posts.waiting Membrane) ≡ cells_in w k.posts.waiting Membrane) c.unwrap-n.ensures c.first.ensures.list in
    let q = placing k.posts k.table w c.self.invariant.store.stored c.listed.ensures Membrane x n first (subst (λ (z : KeptWeb). IsMemInPlace (heap_of z) n) (sym c.self.view_is) c.requires.mem) in
    q.differ

pub send-requires-clause-elsewhere : goal.send-requires-clause-elsewhere
send-requires-clause-elsewhere c =
    let k = kept_by c.self.inside in let w = merged_by k.web in let x = cell_id c.unwrap-n.result in let n = cell_id c.args.m in
    let first : from (Some x) (cells_in w k.posts.waiting Membrane) ≡ cells_in w k.posts.waiting Membrane = subst (λ o. from (option_map cell_id o) (cells_in w k.posts.waiting Membrane) ≡ cells_in w k.posts.waiting Membrane) c.unwrap-n.ensures c.first.ensures.list in
    let q = placing k.posts k.table w c.self.invariant.store.stored c.listed.ensures Membrane x n first (subst (λ (z : KeptWeb). IsMemInPlace (heap_of z) n) (sym c.self.view_is) c.requires.mem) in
    q.elsewhere

pub invariant_of-self : goal.invariant_of-self
invariant_of-self c =
    let k = kept_by c.self.inside in let w = merged_by k.web in let x = cell_id c.unwrap-n.result in let n = cell_id c.args.m in
    let first : from (Some x) (cells_in w k.posts.waiting Membrane) ≡ cells_in w k.posts.waiting Membrane = subst (λ o. from (option_map cell_id o) (cells_in w k.posts.waiting Membrane) ≡ cells_in w k.posts.waiting Membrane) c.unwrap-n.ensures c.first.ensures.list in
    let q = placing k.posts k.table w c.self.invariant.store.stored c.listed.ensures Membrane x n first (subst (λ (z : KeptWeb). IsMemInPlace (heap_of z) n) (sym c.self.view_is) c.requires.mem) in
    let v = merged_by c.send.new.web in
    let s = c.send.ensures k.posts.waiting q.home in
    let a = subst (λ (z : KeptWeb). HasRules z.table (merged_by z.web) n c.place_of_rules-parent.result) (sym c.self.view_is) c.place_of_rules-parent.ensures in
    let b = subst (λ (z : KeptWeb). HasRules z.table (merged_by z.web) x c.place_of_rules-child.result) (sym c.self.view_is) c.place_of_rules-child.ensures in
    let ka = key_is w n c.place_of_rules-parent.result a.0 in
    let kb = key_is w x c.place_of_rules-child.result b.0 in
    let index = c.self.invariant.index in
    let listed = (heap_sound k.posts k.table w c.self.invariant.store.stored c.listed.ensures c.paired.ensures (merged_formed k.web)).listed in
    let there = mem_is k.posts k.table w n q.membrane q.no_line q.no_end (kind_there (w n) q.membrane) in
    let waits = (listed.new_mems x).0 (subst (λ us. In x us) first (inl refl)) in
    let can = index_put _ _ _ _ index listed n x _ _ there q.differ waits ka kb in
    let heap = placed_mem_heap k.posts k.table w v n x s c.self.invariant.store.stored.waiting q.no_line q.no_end q.kind first in
    record {
      atoms = c.self.invariant.atoms;
      mems = c.self.invariant.mems;
      sum = c.self.invariant.sum;
      store = record {
        stored = sent_stored w v k.posts.waiting n x s k.posts k.table c.self.invariant.store.stored q.home q.no_line q.fits c.self.invariant.store.stored.apart;
        counts = sent_counts w v k.posts.waiting n x s k.posts k.table _ _ _ c.self.invariant.store.counts;
      };
      index = index_by (IsNested c.put_last.new.self) (map cell_id c.self.inside.mems.items) (key_of w) (key_of v) (placed_mem (heap_of k) n x) (heap_by k.posts k.table v) (λ y. key_by w v y (label_same w v k.posts.waiting n x s y)) heap
          (index_placed _ _ _ _ index listed (IsNested c.put_last.new.self) n x _ _ there ka kb (c.put_last.ensures index.nest index.nested can));
    }

pub returns-clause-first : goal.returns-clause-first
returns-clause-first c =
    let k = kept_by c.self.inside in let w = merged_by k.web in let x = cell_id c.unwrap-n.result in
    let first : from (Some x) (cells_in w k.posts.waiting Membrane) ≡ cells_in w k.posts.waiting Membrane = subst (λ o. from (option_map cell_id o) (cells_in w k.posts.waiting Membrane) ≡ cells_in w k.posts.waiting Membrane) c.unwrap-n.ensures c.first.ensures.list in
    subst (λ (z : KeptWeb). from (Some x) (heap_of z).new_mems ≡ (heap_of z).new_mems) c.self.view_is first

pub returns-clause-placed : goal.returns-clause-placed
returns-clause-placed c =
    let k = kept_by c.self.inside in let w = merged_by k.web in let x = cell_id c.unwrap-n.result in let n = cell_id c.args.m in
    let first : from (Some x) (cells_in w k.posts.waiting Membrane) ≡ cells_in w k.posts.waiting Membrane = subst (λ o. from (option_map cell_id o) (cells_in w k.posts.waiting Membrane) ≡ cells_in w k.posts.waiting Membrane) c.unwrap-n.ensures c.first.ensures.list in
    let q = placing k.posts k.table w c.self.invariant.store.stored c.listed.ensures Membrane x n first (subst (λ (z : KeptWeb). IsMemInPlace (heap_of z) n) (sym c.self.view_is) c.requires.mem) in
    let v = merged_by c.send.new.web in
    placed_mem_heap k.posts k.table w v n x (c.send.ensures k.posts.waiting q.home) c.self.invariant.store.stored.waiting q.no_line q.no_end q.kind first
    ∙ ap (λ (z : KeptWeb). placed_mem (heap_of z) n x) c.self.view_is

pub put_last-requires : goal.put_last-requires
put_last-requires c =
    let k = kept_by c.self.inside in let w = merged_by k.web in let x = cell_id c.unwrap-n.result in let n = cell_id c.args.m in
    let first : from (Some x) (cells_in w k.posts.waiting Membrane) ≡ cells_in w k.posts.waiting Membrane = subst (λ o. from (option_map cell_id o) (cells_in w k.posts.waiting Membrane) ≡ cells_in w k.posts.waiting Membrane) c.unwrap-n.ensures c.first.ensures.list in
    let q = placing k.posts k.table w c.self.invariant.store.stored c.listed.ensures Membrane x n first (subst (λ (z : KeptWeb). IsMemInPlace (heap_of z) n) (sym c.self.view_is) c.requires.mem) in
    let a = subst (λ (z : KeptWeb). HasRules z.table (merged_by z.web) n c.place_of_rules-parent.result) (sym c.self.view_is) c.place_of_rules-parent.ensures in
    let b = subst (λ (z : KeptWeb). HasRules z.table (merged_by z.web) x c.place_of_rules-child.result) (sym c.self.view_is) c.place_of_rules-child.ensures in
    let ka = key_is w n c.place_of_rules-parent.result a.0 in
    let kb = key_is w x c.place_of_rules-child.result b.0 in
    let index = c.self.invariant.index in
    let listed = (heap_sound k.posts k.table w c.self.invariant.store.stored c.listed.ensures c.paired.ensures (merged_formed k.web)).listed in
    let there = mem_is k.posts k.table w n q.membrane q.no_line q.no_end (kind_there (w n) q.membrane) in
    let waits = (listed.new_mems x).0 (subst (λ us. In x us) first (inl refl)) in
    let can = index_put _ _ _ _ index listed n x _ _ there q.differ waits ka kb in
    (index.nest, index.nested, can)

pub first-requires : goal.first-requires
first-requires c = c.self.invariant.store.stored.waiting

pub place_of_rules-child-requires : goal.place_of_rules-child-requires
place_of_rules-child-requires c =
    let k = kept_by c.self.inside in let w = merged_by k.web in let x = cell_id c.unwrap-n.result in let n = cell_id c.args.m in
    let first : from (Some x) (cells_in w k.posts.waiting Membrane) ≡ cells_in w k.posts.waiting Membrane = subst (λ o. from (option_map cell_id o) (cells_in w k.posts.waiting Membrane) ≡ cells_in w k.posts.waiting Membrane) c.unwrap-n.ensures c.first.ensures.list in
    let q = placing k.posts k.table w c.self.invariant.store.stored c.listed.ensures Membrane x n first (subst (λ (z : KeptWeb). IsMemInPlace (heap_of z) n) (sym c.self.view_is) c.requires.mem) in
    subst (λ (z : KeptWeb). IsMem (heap_of z) x) c.self.view_is (homed_mem k.posts k.table w c.self.invariant.store.stored c.listed.ensures x k.posts.waiting q.home q.kind)

pub place_of_rules-parent-requires : goal.place_of_rules-parent-requires
place_of_rules-parent-requires c = stands_some ((heap_of c.args.self.now).mems (cell_id c.args.m)) c.requires.mem
