use Rattle.std.proofs.Common.{◌≡◌, Some, sym, ap, subst, ◌∙◌}
use Rattle.lmn_web.specs.Webs.{home_at}
use Rattle.lmn_store_heap.specs.Heap.{gone, mem_place_of, IsMemInPlace, moved_all}
use Rattle.lmn_store_heap.specs.Conditions.{IsOutside}
use Rattle.lmn_web_cells.specs.CellIds.{cell_id}
use Rattle.lmn_web_merging.specs.Keepers.{merged_by}
use Rattle.lmn_store_web.specs.WebHeaps.{KeptWeb, heap_of}
use Rattle.lmn_store_web.specs.WebStores.{kept_by}
use Rattle.lmn_store_web.proofs.MoveLemmas.{can_send}
use Rattle.lmn_store_web.proofs.PlaceLemmas.{in_place_mem, in_place_stays}
use Rattle.lmn_store_web.proofs.MergeLemmas.{gone_at, labels_stay, merged_counts, merged_stored, merged_heap}
use Rattle.std.proofs.Common.{map}
use Rattle.lmn_store_heap.specs.Heap.{mems_in}
use Rattle.lmn_store_web_preorder.specs.Indexed.{IsNested}
use Rattle.lmn_store_web_preorder.specs.Nests.{IsOneOf}
use Rattle.lmn_store_web.specs.WebHeaps.{heap_by}
use Rattle.lmn_store_web.specs.WebStores.{HasRules}
use Rattle.lmn_store_web.specs.Indexes.{key_of}
use Rattle.lmn_web_merging.proofs.Sending.{kind_there}
use Rattle.lmn_store_web.proofs.ReadLemmas.{mem_is}
use Rattle.lmn_store_web.proofs.SoundLemmas.{heap_sound, merged_formed}
use Rattle.lmn_store_web.proofs.IndexLemmas.{index_by, index_move, index_moved, key_by, key_is}
use Rattle.lmn_store_web.proofs.web_store.WebStoreLinkStore.move_all.Goals as goal
use Rattle.lmn_store_heap.proofs.Calls.{stands_some}
use Rattle.lmn_store_heap.proofs.Heights.{mem_of_place}

pub move_all-requires-clause-source : goal.move_all-requires-clause-source
move_all-requires-clause-source c =
    let k = kept_by c.self.inside in let w = merged_by k.web in let m = cell_id c.args.m in let n = cell_id c.args.n in
    let h = can_send k.posts k.table w m n c.self.invariant.atoms c.self.invariant.mems c.self.inside.spare_count c.self.invariant.store.stored c.self.invariant.store.counts
    (subst (λ (z : KeptWeb). mem_place_of (heap_of z) m ≡ Some gone) (sym c.self.view_is) c.requires.gone) (subst (λ (z : KeptWeb). IsMemInPlace (heap_of z) n) (sym c.self.view_is) c.requires.mem) (subst (λ (z : KeptWeb). IsOutside (heap_of z) n m) (sym c.self.view_is) c.requires.outside) in
    let at : home_at w m ≡ Some k.posts.gone = gone_at k.posts k.table w m (subst (λ (z : KeptWeb). mem_place_of (heap_of z) m ≡ Some gone) (sym c.self.view_is) c.requires.gone) in
    h.source

pub move_all-requires-clause-target : goal.move_all-requires-clause-target
move_all-requires-clause-target c =
    let k = kept_by c.self.inside in let w = merged_by k.web in let m = cell_id c.args.m in let n = cell_id c.args.n in
    let h = can_send k.posts k.table w m n c.self.invariant.atoms c.self.invariant.mems c.self.inside.spare_count c.self.invariant.store.stored c.self.invariant.store.counts
    (subst (λ (z : KeptWeb). mem_place_of (heap_of z) m ≡ Some gone) (sym c.self.view_is) c.requires.gone) (subst (λ (z : KeptWeb). IsMemInPlace (heap_of z) n) (sym c.self.view_is) c.requires.mem) (subst (λ (z : KeptWeb). IsOutside (heap_of z) n m) (sym c.self.view_is) c.requires.outside) in
    let at : home_at w m ≡ Some k.posts.gone = gone_at k.posts k.table w m (subst (λ (z : KeptWeb). mem_place_of (heap_of z) m ≡ Some gone) (sym c.self.view_is) c.requires.gone) in
    h.target

pub move_all-requires-clause-apart : goal.move_all-requires-clause-apart
move_all-requires-clause-apart c =
    let k = kept_by c.self.inside in let w = merged_by k.web in let m = cell_id c.args.m in let n = cell_id c.args.n in
    let h = can_send k.posts k.table w m n c.self.invariant.atoms c.self.invariant.mems c.self.inside.spare_count c.self.invariant.store.stored c.self.invariant.store.counts
    (subst (λ (z : KeptWeb). mem_place_of (heap_of z) m ≡ Some gone) (sym c.self.view_is) c.requires.gone) (subst (λ (z : KeptWeb). IsMemInPlace (heap_of z) n) (sym c.self.view_is) c.requires.mem) (subst (λ (z : KeptWeb). IsOutside (heap_of z) n m) (sym c.self.view_is) c.requires.outside) in
    let at : home_at w m ≡ Some k.posts.gone = gone_at k.posts k.table w m (subst (λ (z : KeptWeb). mem_place_of (heap_of z) m ≡ Some gone) (sym c.self.view_is) c.requires.gone) in
    h.apart

pub move_all-requires-clause-inside : goal.move_all-requires-clause-inside
move_all-requires-clause-inside c =
    let k = kept_by c.self.inside in let w = merged_by k.web in let m = cell_id c.args.m in let n = cell_id c.args.n in
    let h = can_send k.posts k.table w m n c.self.invariant.atoms c.self.invariant.mems c.self.inside.spare_count c.self.invariant.store.stored c.self.invariant.store.counts
    (subst (λ (z : KeptWeb). mem_place_of (heap_of z) m ≡ Some gone) (sym c.self.view_is) c.requires.gone) (subst (λ (z : KeptWeb). IsMemInPlace (heap_of z) n) (sym c.self.view_is) c.requires.mem) (subst (λ (z : KeptWeb). IsOutside (heap_of z) n m) (sym c.self.view_is) c.requires.outside) in
    let at : home_at w m ≡ Some k.posts.gone = gone_at k.posts k.table w m (subst (λ (z : KeptWeb). mem_place_of (heap_of z) m ≡ Some gone) (sym c.self.view_is) c.requires.gone) in
    λ e. h.target_goes (let z : Some n ≡ Some k.posts.gone = sym e ∙ at in cc)

pub move_all-requires-clause-outside : goal.move_all-requires-clause-outside
move_all-requires-clause-outside c =
    let k = kept_by c.self.inside in let w = merged_by k.web in let m = cell_id c.args.m in let n = cell_id c.args.n in
    let h = can_send k.posts k.table w m n c.self.invariant.atoms c.self.invariant.mems c.self.inside.spare_count c.self.invariant.store.stored c.self.invariant.store.counts
    (subst (λ (z : KeptWeb). mem_place_of (heap_of z) m ≡ Some gone) (sym c.self.view_is) c.requires.gone) (subst (λ (z : KeptWeb). IsMemInPlace (heap_of z) n) (sym c.self.view_is) c.requires.mem) (subst (λ (z : KeptWeb). IsOutside (heap_of z) n m) (sym c.self.view_is) c.requires.outside) in
    let at : home_at w m ≡ Some k.posts.gone = gone_at k.posts k.table w m (subst (λ (z : KeptWeb). mem_place_of (heap_of z) m ≡ Some gone) (sym c.self.view_is) c.requires.gone) in
    h.outside

pub move_all-requires-clause-own : goal.move_all-requires-clause-own
move_all-requires-clause-own c e =
    let k = kept_by c.self.inside in let w = merged_by k.web in let n = cell_id c.args.n in let stored = c.self.invariant.store.stored in
    let there : IsMemInPlace (heap_of k) n = subst (λ (z : KeptWeb). IsMemInPlace (heap_of z) n) (sym c.self.view_is) c.requires.mem in
    in_place_stays k.posts k.table w n stored.apart there (stored.lent n (in_place_mem k.posts k.table w n there).0 e)

pub move_all-requires-clause-owned : goal.move_all-requires-clause-owned
move_all-requires-clause-owned c x in_m membrane e =
    let k = kept_by c.self.inside in let w = merged_by k.web in let m = cell_id c.args.m in let n = cell_id c.args.n in
    let h = can_send k.posts k.table w m n c.self.invariant.atoms c.self.invariant.mems c.self.inside.spare_count c.self.invariant.store.stored c.self.invariant.store.counts
    (subst (λ (z : KeptWeb). mem_place_of (heap_of z) m ≡ Some gone) (sym c.self.view_is) c.requires.gone) (subst (λ (z : KeptWeb). IsMemInPlace (heap_of z) n) (sym c.self.view_is) c.requires.mem) (subst (λ (z : KeptWeb). IsOutside (heap_of z) n m) (sym c.self.view_is) c.requires.outside) in
    h.source_goes (let z : Some m ≡ Some k.posts.gone = sym in_m ∙ c.self.invariant.store.stored.lent x membrane e in cc)

pub invariant_of-self : goal.invariant_of-self
invariant_of-self c =
    let k = kept_by c.self.inside in let w = merged_by k.web in let m = cell_id c.args.m in let n = cell_id c.args.n in
    let h = can_send k.posts k.table w m n c.self.invariant.atoms c.self.invariant.mems c.self.inside.spare_count c.self.invariant.store.stored c.self.invariant.store.counts
    (subst (λ (z : KeptWeb). mem_place_of (heap_of z) m ≡ Some gone) (sym c.self.view_is) c.requires.gone) (subst (λ (z : KeptWeb). IsMemInPlace (heap_of z) n) (sym c.self.view_is) c.requires.mem) (subst (λ (z : KeptWeb). IsOutside (heap_of z) n m) (sym c.self.view_is) c.requires.outside) in
    let at : home_at w m ≡ Some k.posts.gone = gone_at k.posts k.table w m (subst (λ (z : KeptWeb). mem_place_of (heap_of z) m ≡ Some gone) (sym c.self.view_is) c.requires.gone) in
    let v = merged_by c.move_all.new.self in
    let out = subst (λ (z : KeptWeb). IsOutside (heap_of z) n m) (sym c.self.view_is) c.requires.outside in
    let source = subst (λ (z : KeptWeb). HasRules z.table (merged_by z.web) m c.place_of_rules-source.result) (sym c.self.view_is) c.place_of_rules-source.ensures in
    let target = subst (λ (z : KeptWeb). HasRules z.table (merged_by z.web) n c.place_of_rules-target.result) (sym c.self.view_is) c.place_of_rules-target.ensures in
    let one = subst (λ (z : KeptWeb). IsOneOf c.key_inside-one.result (map (key_of (merged_by z.web)) (mems_in (heap_of z) m))) (sym c.self.view_is) c.key_inside-one.ensures in
    let km = key_is w m c.place_of_rules-source.result source.0 in
    let kn = key_is w n c.place_of_rules-target.result target.0 in
    let index = c.self.invariant.index in
    let listed = (heap_sound k.posts k.table w c.self.invariant.store.stored c.listed.ensures c.paired.ensures (merged_formed k.web)).listed in
    let m_there = mem_is k.posts k.table w m h.source h.source_waits h.source_goes (kind_there (w m) h.source) in
    let n_there = mem_is k.posts k.table w n h.target h.target_waits h.target_goes (kind_there (w n) h.target) in
    let can = index_move _ _ _ _ index listed m n _ _ c.key_inside-one.result m_there n_there out one km kn in
    let heap = merged_heap k.posts k.table w v m n _ _ _ h c.listed.ensures c.move_all.ensures in
    record {
      atoms = c.self.invariant.atoms;
      mems = c.self.invariant.mems;
      sum = c.self.invariant.sum;
      store = record { stored = merged_stored k.posts k.table w v m n _ _ _ h c.listed.ensures c.move_all.ensures at; counts = merged_counts k.posts k.table w v m n _ _ _ h c.listed.ensures c.move_all.ensures };
      index = index_by (IsNested c.move_inside.new.self) (map cell_id c.self.inside.mems.items) (key_of w) (key_of v) (moved_all (heap_of k) m n) (heap_by k.posts k.table v) (λ y. key_by w v y (labels_stay k.posts k.table w v m n _ _ _ h c.listed.ensures c.move_all.ensures y)) heap
          (index_moved _ _ _ _ index (IsNested c.move_inside.new.self) m n _ _ m_there n_there h.apart km kn (c.move_inside.ensures index.nest index.nested can));
    }

pub returns : goal.returns
returns c =
    let k = kept_by c.self.inside in let w = merged_by k.web in let m = cell_id c.args.m in let n = cell_id c.args.n in
    let h = can_send k.posts k.table w m n c.self.invariant.atoms c.self.invariant.mems c.self.inside.spare_count c.self.invariant.store.stored c.self.invariant.store.counts
    (subst (λ (z : KeptWeb). mem_place_of (heap_of z) m ≡ Some gone) (sym c.self.view_is) c.requires.gone) (subst (λ (z : KeptWeb). IsMemInPlace (heap_of z) n) (sym c.self.view_is) c.requires.mem) (subst (λ (z : KeptWeb). IsOutside (heap_of z) n m) (sym c.self.view_is) c.requires.outside) in
    let at : home_at w m ≡ Some k.posts.gone = gone_at k.posts k.table w m (subst (λ (z : KeptWeb). mem_place_of (heap_of z) m ≡ Some gone) (sym c.self.view_is) c.requires.gone) in
    merged_heap k.posts k.table w (merged_by c.move_all.new.self) m n _ _ _ h c.listed.ensures c.move_all.ensures ∙ ap (λ (z : KeptWeb). moved_all (heap_of z) m n) c.self.view_is

pub move_inside-requires : goal.move_inside-requires
move_inside-requires c =
    let k = kept_by c.self.inside in let w = merged_by k.web in let m = cell_id c.args.m in let n = cell_id c.args.n in
    let h = can_send k.posts k.table w m n c.self.invariant.atoms c.self.invariant.mems c.self.inside.spare_count c.self.invariant.store.stored c.self.invariant.store.counts
    (subst (λ (z : KeptWeb). mem_place_of (heap_of z) m ≡ Some gone) (sym c.self.view_is) c.requires.gone) (subst (λ (z : KeptWeb). IsMemInPlace (heap_of z) n) (sym c.self.view_is) c.requires.mem) (subst (λ (z : KeptWeb). IsOutside (heap_of z) n m) (sym c.self.view_is) c.requires.outside) in
    let out = subst (λ (z : KeptWeb). IsOutside (heap_of z) n m) (sym c.self.view_is) c.requires.outside in
    let source = subst (λ (z : KeptWeb). HasRules z.table (merged_by z.web) m c.place_of_rules-source.result) (sym c.self.view_is) c.place_of_rules-source.ensures in
    let target = subst (λ (z : KeptWeb). HasRules z.table (merged_by z.web) n c.place_of_rules-target.result) (sym c.self.view_is) c.place_of_rules-target.ensures in
    let one = subst (λ (z : KeptWeb). IsOneOf c.key_inside-one.result (map (key_of (merged_by z.web)) (mems_in (heap_of z) m))) (sym c.self.view_is) c.key_inside-one.ensures in
    let km = key_is w m c.place_of_rules-source.result source.0 in
    let kn = key_is w n c.place_of_rules-target.result target.0 in
    let index = c.self.invariant.index in
    let listed = (heap_sound k.posts k.table w c.self.invariant.store.stored c.listed.ensures c.paired.ensures (merged_formed k.web)).listed in
    let m_there = mem_is k.posts k.table w m h.source h.source_waits h.source_goes (kind_there (w m) h.source) in
    let n_there = mem_is k.posts k.table w n h.target h.target_waits h.target_goes (kind_there (w n) h.target) in
    let can = index_move _ _ _ _ index listed m n _ _ c.key_inside-one.result m_there n_there out one km kn in
    (index.nest, index.nested, can)

pub place_of_rules-source-requires : goal.place_of_rules-source-requires
place_of_rules-source-requires c = mem_of_place (heap_of c.args.self.now) (cell_id c.args.m) gone c.requires.gone

pub place_of_rules-target-requires : goal.place_of_rules-target-requires
place_of_rules-target-requires c = stands_some ((heap_of c.args.self.now).mems (cell_id c.args.n)) c.requires.mem

pub key_inside-one-requires : goal.key_inside-one-requires
key_inside-one-requires c = mem_of_place (heap_of c.args.self.now) (cell_id c.args.m) gone c.requires.gone
