use Rattle.std.proofs.Common.{ℕ, Option, IsSome, refl, sym, ap, subst, ◌∙◌, inl, inr}
use Rattle.lmn_store_heap.specs.Heap.{IsPlacedMem, parent_of, taken_mem}
use Rattle.lmn_web_cells.specs.CellIds.{cell_id}
use Rattle.lmn_web_merging.specs.Keepers.{merged_by}
use Rattle.lmn_store_web.specs.WebHeaps.{KeptWeb, heap_of, heap_by}
use Rattle.lmn_store_web.specs.WebStores.{kept_by}
use Rattle.lmn_store_web.proofs.CallLemmas.{mem_in_place}
use Rattle.lmn_store_web.proofs.SendLemmas.{sent_stored, sent_counts}
use Rattle.lmn_store_web.proofs.PlaceLemmas.{taking, taken_mem_heap}
use Rattle.std.proofs.Common.{◌≡◌, Some, None, map}
use Rattle.std.specs.Option.{option_map}
use Rattle.lmn_store_heap.specs.Heap.{IsMem, within}
use Rattle.lmn_store_heap.proofs.Heights.{parent_place, mem_of_list, mem_of_place}
use Rattle.lmn_store_web_preorder.specs.Indexed.{IsNested}
use Rattle.lmn_store_web.specs.WebStores.{HasRules}
use Rattle.lmn_store_web.specs.Indexes.{key_of}
use Rattle.lmn_store_web.proofs.SoundLemmas.{heap_sound, merged_formed}
use Rattle.lmn_store_web.proofs.SendLemmas.{label_same}
use Rattle.lmn_store_web.proofs.IndexLemmas.{index_by, index_take, index_taken, key_by, key_is}
use Rattle.lmn_store_web.proofs.web_store.WebStoreLinkStore.take_mem.Goals as goal
use Rattle.lmn_base.proofs.Lists.{some_is}
use Rattle.lmn_store_heap.proofs.Common.{placed_is_mem}
use Rattle.lmn_store_web.proofs.ReadLemmas.{mem_there}

some_of : {A : Type 0} (f : A → ℕ) (o : Option A) → IsSome (option_map f o) → IsSome o
some_of f None s = absurd (cc)
some_of f (Some a) s = refl

pub unwrap-home-requires : goal.unwrap-home-requires
unwrap-home-requires c =
    let k = kept_by c.self.inside in let w = merged_by k.web in let x = cell_id c.args.m in
    let h = some_is (parent_of (heap_by k.posts k.table w) x) (subst (λ (z : KeptWeb). IsPlacedMem (heap_of z) x) (sym c.self.view_is) c.requires) in
    let i = mem_in_place k.posts k.table w c.self.invariant.store.stored c.listed.ensures x h.0 h.1 in
    some_of cell_id c.home.result (subst (λ (o : Option ℕ). IsSome o) (sym i.1 ∙ c.home.ensures) refl)

pub send_plain-requires-clause-files : goal.send_plain-requires-clause-files
send_plain-requires-clause-files c = c.self.invariant.store.stored.files (kept_by c.self.inside).posts.gone (inr refl)

pub send_plain-requires-clause-plain : goal.send_plain-requires-clause-plain
send_plain-requires-clause-plain c = c.self.invariant.store.stored.plain (kept_by c.self.inside).posts.gone c.self.invariant.store.stored.gone (inr (inl refl))

pub send_plain-requires-clause-kind : goal.send_plain-requires-clause-kind
send_plain-requires-clause-kind c =
    let k = kept_by c.self.inside in let w = merged_by k.web in let x = cell_id c.args.m in
    let h = some_is (parent_of (heap_by k.posts k.table w) x) (subst (λ (z : KeptWeb). IsPlacedMem (heap_of z) x) (sym c.self.view_is) c.requires) in
    let i = mem_in_place k.posts k.table w c.self.invariant.store.stored c.listed.ensures x h.0 h.1 in
    i.0

pub send_plain-requires-clause-listed : goal.send_plain-requires-clause-listed
send_plain-requires-clause-listed c =
    let k = kept_by c.self.inside in let w = merged_by k.web in let x = cell_id c.args.m in
    let h = some_is (parent_of (heap_by k.posts k.table w) x) (subst (λ (z : KeptWeb). IsPlacedMem (heap_of z) x) (sym c.self.view_is) c.requires) in
    let i = mem_in_place k.posts k.table w c.self.invariant.store.stored c.listed.ensures x h.0 h.1 in
    let q = taking k.posts k.table w c.self.invariant.store.stored c.listed.ensures x h.0 i.1 i.2 i.3 in
    subst (λ (o : Option ℕ). IsSome o) (sym q.home) refl

pub send_plain-requires-clause-differ : goal.send_plain-requires-clause-differ
send_plain-requires-clause-differ c =
    let k = kept_by c.self.inside in let w = merged_by k.web in let x = cell_id c.args.m in
    let h = some_is (parent_of (heap_by k.posts k.table w) x) (subst (λ (z : KeptWeb). IsPlacedMem (heap_of z) x) (sym c.self.view_is) c.requires) in
    let i = mem_in_place k.posts k.table w c.self.invariant.store.stored c.listed.ensures x h.0 h.1 in
    let q = taking k.posts k.table w c.self.invariant.store.stored c.listed.ensures x h.0 i.1 i.2 i.3 in
    q.differ

pub send_plain-requires-clause-elsewhere : goal.send_plain-requires-clause-elsewhere
send_plain-requires-clause-elsewhere c =
    let k = kept_by c.self.inside in let w = merged_by k.web in let x = cell_id c.args.m in
    let h = some_is (parent_of (heap_by k.posts k.table w) x) (subst (λ (z : KeptWeb). IsPlacedMem (heap_of z) x) (sym c.self.view_is) c.requires) in
    let i = mem_in_place k.posts k.table w c.self.invariant.store.stored c.listed.ensures x h.0 h.1 in
    let q = taking k.posts k.table w c.self.invariant.store.stored c.listed.ensures x h.0 i.1 i.2 i.3 in
    q.elsewhere

pub invariant_of-self : goal.invariant_of-self
invariant_of-self c =
    let k = kept_by c.self.inside in let w = merged_by k.web in let x = cell_id c.args.m in
    let h = some_is (parent_of (heap_by k.posts k.table w) x) (subst (λ (z : KeptWeb). IsPlacedMem (heap_of z) x) (sym c.self.view_is) c.requires) in
    let i = mem_in_place k.posts k.table w c.self.invariant.store.stored c.listed.ensures x h.0 h.1 in
    let q = taking k.posts k.table w c.self.invariant.store.stored c.listed.ensures x h.0 i.1 i.2 i.3 in
    let v = merged_by c.send_plain.new.web in
    let s = c.send_plain.ensures h.0 q.home in
    let listed = (heap_sound k.posts k.table w c.self.invariant.store.stored c.listed.ensures c.paired.ensures (merged_formed k.web)).listed in
    let stands = (listed.mems h.0 x).1 (parent_place (heap_of k) x h.0 h.1) in
    let there = mem_of_list (heap_of k) h.0 x stands in
    let self_there = mem_of_place (heap_of k) x (within h.0) (parent_place (heap_of k) x h.0 h.1) in
    let home : Some (cell_id c.unwrap-home.result) ≡ Some h.0 = sym (c.home.ensures ∙ ap (option_map cell_id) c.unwrap-home.ensures) ∙ i.1 in
    let same : cell_id c.unwrap-home.result ≡ h.0 = (cc) in
    let a = subst (λ (z : KeptWeb). HasRules z.table (merged_by z.web) (cell_id c.unwrap-home.result) c.place_of_rules-parent.result) (sym c.self.view_is) c.place_of_rules-parent.ensures in
    let b = subst (λ (z : KeptWeb). HasRules z.table (merged_by z.web) x c.place_of_rules-child.result) (sym c.self.view_is) c.place_of_rules-child.ensures in
    let ka = ap (key_of w) (sym same) ∙ key_is w (cell_id c.unwrap-home.result) c.place_of_rules-parent.result a.0 in
    let kb = key_is w x c.place_of_rules-child.result b.0 in
    let index = c.self.invariant.index in
    let can = index_take _ _ _ _ index listed h.0 x _ _ there stands ka kb in
    let heap = taken_mem_heap k.posts k.table w v h.0 x s c.self.invariant.store.stored.apart q.no_line i.0 h.1 in
    record {
      atoms = c.self.invariant.atoms;
      mems = c.self.invariant.mems;
      sum = c.self.invariant.sum;
      store = record {
        stored = sent_stored w v h.0 k.posts.gone x s k.posts k.table c.self.invariant.store.stored q.home (λ e. c.self.invariant.store.stored.apart (sym e)) q.fits i.3;
        counts = sent_counts w v h.0 k.posts.gone x s k.posts k.table _ _ _ c.self.invariant.store.counts;
      };
      index = index_by (IsNested c.take.new.self) (map cell_id c.self.inside.mems.items) (key_of w) (key_of v) (taken_mem (heap_of k) x) (heap_by k.posts k.table v) (λ y. key_by w v y (label_same w v h.0 k.posts.gone x s y)) heap
          (index_taken _ _ _ _ index listed (IsNested c.take.new.self) h.0 x _ _ h.1 there self_there ka kb (c.take.ensures index.nest index.nested can));
    }

pub returns : goal.returns
returns c =
    let k = kept_by c.self.inside in let w = merged_by k.web in let x = cell_id c.args.m in
    let h = some_is (parent_of (heap_by k.posts k.table w) x) (subst (λ (z : KeptWeb). IsPlacedMem (heap_of z) x) (sym c.self.view_is) c.requires) in
    let i = mem_in_place k.posts k.table w c.self.invariant.store.stored c.listed.ensures x h.0 h.1 in
    let q = taking k.posts k.table w c.self.invariant.store.stored c.listed.ensures x h.0 i.1 i.2 i.3 in
    let v = merged_by c.send_plain.new.web in
    taken_mem_heap k.posts k.table w v h.0 x (c.send_plain.ensures h.0 q.home) c.self.invariant.store.stored.apart q.no_line i.0 h.1
    ∙ ap (λ (z : KeptWeb). taken_mem (heap_of z) x) c.self.view_is

pub take-requires : goal.take-requires
take-requires c =
    let k = kept_by c.self.inside in let w = merged_by k.web in let x = cell_id c.args.m in
    let h = some_is (parent_of (heap_by k.posts k.table w) x) (subst (λ (z : KeptWeb). IsPlacedMem (heap_of z) x) (sym c.self.view_is) c.requires) in
    let i = mem_in_place k.posts k.table w c.self.invariant.store.stored c.listed.ensures x h.0 h.1 in
    let listed = (heap_sound k.posts k.table w c.self.invariant.store.stored c.listed.ensures c.paired.ensures (merged_formed k.web)).listed in
    let stands = (listed.mems h.0 x).1 (parent_place (heap_of k) x h.0 h.1) in
    let there = mem_of_list (heap_of k) h.0 x stands in
    let self_there = mem_of_place (heap_of k) x (within h.0) (parent_place (heap_of k) x h.0 h.1) in
    let home : Some (cell_id c.unwrap-home.result) ≡ Some h.0 = sym (c.home.ensures ∙ ap (option_map cell_id) c.unwrap-home.ensures) ∙ i.1 in
    let same : cell_id c.unwrap-home.result ≡ h.0 = (cc) in
    let a = subst (λ (z : KeptWeb). HasRules z.table (merged_by z.web) (cell_id c.unwrap-home.result) c.place_of_rules-parent.result) (sym c.self.view_is) c.place_of_rules-parent.ensures in
    let b = subst (λ (z : KeptWeb). HasRules z.table (merged_by z.web) x c.place_of_rules-child.result) (sym c.self.view_is) c.place_of_rules-child.ensures in
    let ka = ap (key_of w) (sym same) ∙ key_is w (cell_id c.unwrap-home.result) c.place_of_rules-parent.result a.0 in
    let kb = key_is w x c.place_of_rules-child.result b.0 in
    let index = c.self.invariant.index in
    let can = index_take _ _ _ _ index listed h.0 x _ _ there stands ka kb in
    (index.nest, index.nested, can)

pub place_of_rules-parent-requires : goal.place_of_rules-parent-requires
place_of_rules-parent-requires c =
    let k = kept_by c.self.inside in let w = merged_by k.web in let x = cell_id c.args.m in
    let h = some_is (parent_of (heap_by k.posts k.table w) x) (subst (λ (z : KeptWeb). IsPlacedMem (heap_of z) x) (sym c.self.view_is) c.requires) in
    let i = mem_in_place k.posts k.table w c.self.invariant.store.stored c.listed.ensures x h.0 h.1 in
    let listed = (heap_sound k.posts k.table w c.self.invariant.store.stored c.listed.ensures c.paired.ensures (merged_formed k.web)).listed in
    let stands = (listed.mems h.0 x).1 (parent_place (heap_of k) x h.0 h.1) in
    let there = mem_of_list (heap_of k) h.0 x stands in
    let self_there = mem_of_place (heap_of k) x (within h.0) (parent_place (heap_of k) x h.0 h.1) in
    let home : Some (cell_id c.unwrap-home.result) ≡ Some h.0 = sym (c.home.ensures ∙ ap (option_map cell_id) c.unwrap-home.ensures) ∙ i.1 in
    let same : cell_id c.unwrap-home.result ≡ h.0 = (cc) in
    subst (λ (z : KeptWeb). IsMem (heap_of z) (cell_id c.unwrap-home.result)) c.self.view_is (subst (λ z. IsMem (heap_of k) z) (sym same) there)

pub home-requires : goal.home-requires
home-requires c =
    let m = cell_id c.args.m in let k = kept_by c.self.inside in
    (mem_there k.posts k.table (merged_by k.web) m (subst (λ (z : KeptWeb). IsMem (heap_of z) m) (sym c.self.view_is) (placed_is_mem ((heap_of c.args.self.now).mems m) c.requires))).0

pub place_of_rules-child-requires : goal.place_of_rules-child-requires
place_of_rules-child-requires c = placed_is_mem ((heap_of c.args.self.now).mems (cell_id c.args.m)) c.requires
