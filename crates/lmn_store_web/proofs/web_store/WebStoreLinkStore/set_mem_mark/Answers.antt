use Rattle.std.proofs.Common.{subst, sym, ap, ◌∙◌, ℕ, inr, refl}
use Rattle.std.specs.Prelude.{Option}
use Rattle.std.proofs.lemmas.Bool.{eq-eqb, eqb-true}
use Rattle.lmn_store_heap.specs.Heap.{IsMem, mem_marked}
use Rattle.lmn_store_counts.specs.Counts.{HasCounts}
use Rattle.lmn_web_cells.specs.CellIds.{cell_id}
use Rattle.lmn_web.specs.Webs.{WebCell}
use Rattle.lmn_web_merging.specs.Keepers.{merged_by}
use Rattle.lmn_store_web.specs.WebHeaps.{KeptWeb, heap_of, heap_by, atoms_of, mems_of}
use Rattle.lmn_store_web.specs.WebStores.{IsStored, kept_by}
use Rattle.lmn_store_web.proofs.ReadLemmas.{mem_there}
use Rattle.lmn_web_merging.proofs.Sending.{kind_there}
use Rattle.lmn_store_web.proofs.SoundLemmas.{merged_formed}
use Rattle.lmn_store_web.proofs.CoreLemmas.{stored_same}
use Rattle.lmn_store_web.proofs.MarkLemmas.{core_same}
use Rattle.lmn_store_web.proofs.MemMarkLemmas.{mem_marked_heap, mem_marked_counts}
use Rattle.std.proofs.Common.{map, ◌≡◌, ◌≢◌, ◌<◌, ◌==◌}
use Rattle.lmn_base.proofs.Truth.{never_both}
use Rattle.lmn_store_web_preorder.specs.Indexed.{IsNested}
use Rattle.lmn_web.specs.Webs.{web_label}
use Rattle.lmn_store_web.specs.WebStores.{HasRules}
use Rattle.lmn_store_web.specs.Indexes.{key_of}
use Rattle.lmn_store_web.proofs.ReadLemmas.{mem_mark_is}
use Rattle.lmn_store_web.proofs.CoreLemmas.{label_same}
use Rattle.lmn_store_web.proofs.IndexLemmas.{below, index_by, index_marked, index_root_marked, key_by, key_is}
use Rattle.lmn_store_web.proofs.web_store.WebStoreLinkStore.set_mem_mark.Goals as goal

pub invariant_of-self-2 : goal.invariant_of-self-2
invariant_of-self-2 c =
    let m = cell_id c.args.m in
    let k = kept_by c.self.inside in
    let v = merged_by k.web in
    let i = mem_there k.posts k.table v m (subst (λ (z : KeptWeb). IsMem (heap_of z) m) (sym c.self.view_is) c.requires) in
    let e = c.set_mark-2.ensures in
    let s = subst (λ (z : KeptWeb). IsMem (heap_of z) m) (sym c.self.view_is) c.requires in
    let x = c.self.invariant.index in
    let w = merged_by c.set_mark-2.new.self in
    let rules = subst (λ (z : KeptWeb). HasRules z.table (merged_by z.web) m c.place_of_rules-key.result) (sym c.self.view_is) c.place_of_rules-key.ensures in
    let key = key_is v m c.place_of_rules-key.result rules.0 in
    let low = subst (λ z. z < x.nest.keys) key (below _ _ _ _ x m s) in
    let other : m ≢ k.posts.root = λ q. never_both (m == k.posts.root) (eq-eqb m k.posts.root q) (sym c.same.ensures ∙ c.if-same.false) in
    let was : x.nest.awake c.place_of_rules-key.result ≡ (c.mark-was.result == 0) = sym (ap x.nest.awake key) ∙ x.agrees.awake m s other ∙ ap (λ z. z == 0) (mem_mark_is k.posts k.table v m i.1 i.2 i.3 ∙ sym c.mark-was.ensures) in
    let heap = ap (λ (f : ℕ → Option WebCell). heap_by k.posts k.table f) e ∙ mem_marked_heap k.posts k.table v m c.args.v i.1 (merged_formed k.web) in
    let now = c.wake.ensures x.nest x.nested low was in
    record {
      atoms = c.self.invariant.atoms;
      mems = c.self.invariant.mems;
      sum = c.self.invariant.sum;
      store = record {
        stored = subst (λ (f : ℕ → Option WebCell). IsStored k.posts k.table f) (sym e) (stored_same v _ (core_same k.posts k.table v m 0 c.args.v (inr refl)) k.posts k.table c.self.invariant.store.stored);
        counts = subst (λ (f : ℕ → Option WebCell). HasCounts (atoms_of k.posts f) (mems_of k.posts k.table f) c.self.invariant.atoms c.self.invariant.mems c.self.inside.spare_count) (sym e)
            (mem_marked_counts k.posts k.table v m c.args.v i.1 (merged_formed k.web) _ _ _ c.self.invariant.store.counts);
      };
      index = index_by (IsNested c.wake.new.index) (map cell_id c.self.inside.mems.items) (key_of v) (key_of w) (mem_marked (heap_of k) m c.args.v) (heap_by k.posts k.table w) (λ y. key_by v w y (ap (λ (f : ℕ → Option WebCell). web_label f y) e ∙ label_same v _ (core_same k.posts k.table v m 0 c.args.v (inr refl)) y)) heap
          (index_marked _ _ _ _ x (IsNested c.wake.new.index) m c.args.v _ s key now);
    }

pub returns : goal.returns
returns c =
    let m = cell_id c.args.m in
    let k = kept_by c.self.inside in
    let v = merged_by k.web in
    let i = mem_there k.posts k.table v m (subst (λ (z : KeptWeb). IsMem (heap_of z) m) (sym c.self.view_is) c.requires) in
    ap (λ (f : ℕ → Option WebCell). heap_by k.posts k.table f) c.set_mark-2.ensures ∙ mem_marked_heap k.posts k.table v m c.args.v i.1 (merged_formed k.web)
    ∙ ap (λ (z : KeptWeb). mem_marked (heap_of z) m c.args.v) c.self.view_is

pub wake-requires : goal.wake-requires
wake-requires c =
    let m = cell_id c.args.m in
    let k = kept_by c.self.inside in
    let v = merged_by k.web in
    let s = subst (λ (z : KeptWeb). IsMem (heap_of z) m) (sym c.self.view_is) c.requires in
    let x = c.self.invariant.index in
    let rules = subst (λ (z : KeptWeb). HasRules z.table (merged_by z.web) m c.place_of_rules-key.result) (sym c.self.view_is) c.place_of_rules-key.ensures in
    (x.nest, x.nested, subst (λ z. z < x.nest.keys) (key_is v m c.place_of_rules-key.result rules.0) (below _ _ _ _ x m s))

pub set_mark-requires-2-clause-there : goal.set_mark-requires-2-clause-there
set_mark-requires-2-clause-there c =
    let m = cell_id c.args.m in let k = kept_by c.self.inside in
    (mem_there k.posts k.table (merged_by k.web) m (subst (λ (z : KeptWeb). IsMem (heap_of z) m) (sym c.self.view_is) c.requires)).0

pub mark-was-requires-clause-there : goal.mark-was-requires-clause-there
mark-was-requires-clause-there c =
    let m = cell_id c.args.m in let k = kept_by c.self.inside in
    (mem_there k.posts k.table (merged_by k.web) m (subst (λ (z : KeptWeb). IsMem (heap_of z) m) (sym c.self.view_is) c.requires)).0

pub same-requires-clause-second : goal.same-requires-clause-second
same-requires-clause-second c =
    let k = kept_by c.self.inside in
    kind_there (merged_by k.web k.posts.root) c.self.invariant.store.stored.root

pub invariant_of-self : goal.invariant_of-self
invariant_of-self c =
    let m = cell_id c.args.m in
    let k = kept_by c.self.inside in
    let v = merged_by k.web in
    let i = mem_there k.posts k.table v m (subst (λ (z : KeptWeb). IsMem (heap_of z) m) (sym c.self.view_is) c.requires) in
    let e = c.set_mark.ensures in
    let w = merged_by c.set_mark.new.self in
    let root = eqb-true m k.posts.root (sym c.same.ensures ∙ c.if-same.true) in
    let heap = ap (λ (f : ℕ → Option WebCell). heap_by k.posts k.table f) e ∙ mem_marked_heap k.posts k.table v m c.args.v i.1 (merged_formed k.web) in
    record {
      atoms = c.self.invariant.atoms;
      mems = c.self.invariant.mems;
      sum = c.self.invariant.sum;
      store = record {
        stored = subst (λ (f : ℕ → Option WebCell). IsStored k.posts k.table f) (sym e) (stored_same v _ (core_same k.posts k.table v m 0 c.args.v (inr refl)) k.posts k.table c.self.invariant.store.stored);
        counts = subst (λ (f : ℕ → Option WebCell). HasCounts (atoms_of k.posts f) (mems_of k.posts k.table f) c.self.invariant.atoms c.self.invariant.mems c.self.inside.spare_count) (sym e)
            (mem_marked_counts k.posts k.table v m c.args.v i.1 (merged_formed k.web) _ _ _ c.self.invariant.store.counts);
      };
      index = index_by (IsNested c.self.inside.index) (map cell_id c.self.inside.mems.items) (key_of v) (key_of w) (mem_marked (heap_of k) m c.args.v) (heap_by k.posts k.table w) (λ y. key_by v w y (ap (λ (f : ℕ → Option WebCell). web_label f y) e ∙ label_same v _ (core_same k.posts k.table v m 0 c.args.v (inr refl)) y)) heap
          (index_root_marked _ _ _ _ c.self.invariant.index m c.args.v root);
    }

pub returns-then-same : goal.returns-then-same
returns-then-same c =
    let m = cell_id c.args.m in
    let k = kept_by c.self.inside in
    let v = merged_by k.web in
    let i = mem_there k.posts k.table v m (subst (λ (z : KeptWeb). IsMem (heap_of z) m) (sym c.self.view_is) c.requires) in
    ap (λ (f : ℕ → Option WebCell). heap_by k.posts k.table f) c.set_mark.ensures ∙ mem_marked_heap k.posts k.table v m c.args.v i.1 (merged_formed k.web)
    ∙ ap (λ (z : KeptWeb). mem_marked (heap_of z) m c.args.v) c.self.view_is
