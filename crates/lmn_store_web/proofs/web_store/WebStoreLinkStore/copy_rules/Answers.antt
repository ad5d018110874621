use Rattle.std.proofs.Common.{subst, sym, ap, ◌+◌, ◌-◌, ◌≤◌, ◌∙◌, length, arith, List, Some, ℕ}
use Rattle.std.specs.Option.{option_map}
use Rattle.lmn_store_heap.specs.Heap.{IsMem, spare_of, rules_in, rules_by, rules_copied, alter, mem_with_rules}
use Rattle.lmn_store_counts.specs.Counts.{HasCounts}
use Rattle.lmn_web_cells.specs.CellIds.{cell_id}
use Rattle.lmn_web_merging.specs.Keepers.{merged_by}
use Rattle.lmn_store_web.specs.Tables.{rows}
use Rattle.lmn_store_web.specs.WebHeaps.{KeptWeb, heap_of, atoms_of, mems_of}
use Rattle.lmn_store_web.specs.WebStores.{kept_by, HasRules}
use Rattle.lmn_store_web.proofs.TableLemmas.{row_there, rules_are}
use Rattle.lmn_store_web.proofs.RulingLemmas.{row_room, fewer, more_stored, more_counts, more_heap}
use Rattle.lmn_store_web.proofs.IndexLemmas.{index_kept}
use Rattle.lmn_store_web.proofs.MemLists.{seen_by, seen_rules}
use Rattle.lmn_store_heap.specs.Heap.{Heap}
use Rattle.std.proofs.Common.{refl}
use Rattle.lmn_store_web.proofs.web_store.WebStoreLinkStore.copy_rules.Goals as goal

pub append-count-requires-clause-there : goal.append-count-requires-clause-there
append-count-requires-clause-there c =
    let a = cell_id c.args.m in
    let b = cell_id c.args.n in
    let k = kept_by c.self.inside in
    let v = merged_by k.web in
    let inv = c.self.invariant.store.stored in
    let s = subst (λ (z : KeptWeb). IsMem (heap_of z) a) (sym c.self.view_is) c.requires.m in
    let u = subst (λ (z : KeptWeb). IsMem (heap_of z) b) (sym c.self.view_is) c.requires.n in
    let h = subst (λ (z : KeptWeb). HasRules z.table (merged_by z.web) a c.place_of_rules-from.result) (sym c.self.view_is) c.place_of_rules-from.ensures in
    let g = subst (λ (z : KeptWeb). HasRules z.table (merged_by z.web) b c.place_of_rules-to.result) (sym c.self.view_is) c.place_of_rules-to.ensures in
    row_there k.table c.place_of_rules-from.result ∙ h.1

pub append-count-requires-clause-differ : goal.append-count-requires-clause-differ
append-count-requires-clause-differ c = λ e.
    let a = cell_id c.args.m in
    let b = cell_id c.args.n in
    let k = kept_by c.self.inside in
    let v = merged_by k.web in
    let inv = c.self.invariant.store.stored in
    let s = subst (λ (z : KeptWeb). IsMem (heap_of z) a) (sym c.self.view_is) c.requires.m in
    let u = subst (λ (z : KeptWeb). IsMem (heap_of z) b) (sym c.self.view_is) c.requires.n in
    let h = subst (λ (z : KeptWeb). HasRules z.table (merged_by z.web) a c.place_of_rules-from.result) (sym c.self.view_is) c.place_of_rules-from.ensures in
    let g = subst (λ (z : KeptWeb). HasRules z.table (merged_by z.web) b c.place_of_rules-to.result) (sym c.self.view_is) c.place_of_rules-to.ensures in
    c.requires.differ (inv.own_rules a b c.place_of_rules-to.result s u (h.0 ∙ ap Some e) g.0)

pub append-count-requires-clause-spare : goal.append-count-requires-clause-spare
append-count-requires-clause-spare c x e =
    let a = cell_id c.args.m in
    let b = cell_id c.args.n in
    let k = kept_by c.self.inside in
    let v = merged_by k.web in
    let inv = c.self.invariant.store.stored in
    let s = subst (λ (z : KeptWeb). IsMem (heap_of z) a) (sym c.self.view_is) c.requires.m in
    let u = subst (λ (z : KeptWeb). IsMem (heap_of z) b) (sym c.self.view_is) c.requires.n in
    let h = subst (λ (z : KeptWeb). HasRules z.table (merged_by z.web) a c.place_of_rules-from.result) (sym c.self.view_is) c.place_of_rules-from.ensures in
    let g = subst (λ (z : KeptWeb). HasRules z.table (merged_by z.web) b c.place_of_rules-to.result) (sym c.self.view_is) c.place_of_rules-to.ensures in
    let ks = rules_by (rows k.table c.place_of_rules-from.result) in
    let is = rules_are k.posts k.table v inv a c.place_of_rules-from.result s h.0 in
    let room : length ks ≤ spare_of (heap_of k) b = subst (λ (xs : List ℕ). length xs ≤ spare_of (heap_of k) b) is
    (subst (λ (z : KeptWeb). length (rules_in (heap_of z) a) ≤ spare_of (heap_of z) b) (sym c.self.view_is) c.requires.spare) in
    row_room k.posts k.table v inv b c.place_of_rules-to.result u g (length ks) room x e

pub overflow_sub-self : goal.overflow_sub-self
overflow_sub-self c =
    let a = cell_id c.args.m in
    let b = cell_id c.args.n in
    let k = kept_by c.self.inside in
    let v = merged_by k.web in
    let inv = c.self.invariant.store.stored in
    let s = subst (λ (z : KeptWeb). IsMem (heap_of z) a) (sym c.self.view_is) c.requires.m in
    let u = subst (λ (z : KeptWeb). IsMem (heap_of z) b) (sym c.self.view_is) c.requires.n in
    let h = subst (λ (z : KeptWeb). HasRules z.table (merged_by z.web) a c.place_of_rules-from.result) (sym c.self.view_is) c.place_of_rules-from.ensures in
    let g = subst (λ (z : KeptWeb). HasRules z.table (merged_by z.web) b c.place_of_rules-to.result) (sym c.self.view_is) c.place_of_rules-to.ensures in
    let ks = rules_by (rows k.table c.place_of_rules-from.result) in
    let is = rules_are k.posts k.table v inv a c.place_of_rules-from.result s h.0 in
    let room : length ks ≤ spare_of (heap_of k) b = subst (λ (xs : List ℕ). length xs ≤ spare_of (heap_of k) b) is
    (subst (λ (z : KeptWeb). length (rules_in (heap_of z) a) ≤ spare_of (heap_of z) b) (sym c.self.view_is) c.requires.spare) in
    let less = fewer k.posts k.table v inv b c.place_of_rules-to.result u g _ _ _ c.self.invariant.store.counts (length ks) room in
    let count = c.append-count.ensures.count in
    omega (arith, less, count)

pub invariant_of-self : goal.invariant_of-self
invariant_of-self c =
    let a = cell_id c.args.m in
    let b = cell_id c.args.n in
    let k = kept_by c.self.inside in
    let v = merged_by k.web in
    let inv = c.self.invariant.store.stored in
    let s = subst (λ (z : KeptWeb). IsMem (heap_of z) a) (sym c.self.view_is) c.requires.m in
    let u = subst (λ (z : KeptWeb). IsMem (heap_of z) b) (sym c.self.view_is) c.requires.n in
    let h = subst (λ (z : KeptWeb). HasRules z.table (merged_by z.web) a c.place_of_rules-from.result) (sym c.self.view_is) c.place_of_rules-from.ensures in
    let g = subst (λ (z : KeptWeb). HasRules z.table (merged_by z.web) b c.place_of_rules-to.result) (sym c.self.view_is) c.place_of_rules-to.ensures in
    let ks = rules_by (rows k.table c.place_of_rules-from.result) in
    let is = rules_are k.posts k.table v inv a c.place_of_rules-from.result s h.0 in
    let room : length ks ≤ spare_of (heap_of k) b = subst (λ (xs : List ℕ). length xs ≤ spare_of (heap_of k) b) is
    (subst (λ (z : KeptWeb). length (rules_in (heap_of z) a) ≤ spare_of (heap_of z) b) (sym c.self.view_is) c.requires.spare) in
    let t1 = c.append-count.new.table.slots in
    let e = more_heap k.posts k.table v inv b c.place_of_rules-to.result u g _ _ _ c.self.invariant.store.counts t1 ks c.append-count.ensures.rows in
    let less = fewer k.posts k.table v inv b c.place_of_rules-to.result u g _ _ _ c.self.invariant.store.counts (length ks) room in
    let count = c.append-count.ensures.count in let sum = c.self.invariant.sum in
    record {
      atoms = c.self.invariant.atoms;
      mems = c.self.invariant.mems + c.append-count.result;
      sum = omega (arith, less, count, sum);
      store = record {
        stored = more_stored k.posts k.table v inv b c.place_of_rules-to.result u g _ _ _ c.self.invariant.store.counts t1 ks c.append-count.ensures.rows;
        counts = subst (λ z. HasCounts (atoms_of k.posts v) (mems_of k.posts t1 v) c.self.invariant.atoms (c.self.invariant.mems + z) (c.self.inside.spare_count - z)) (sym c.append-count.ensures.count)
            (more_counts k.posts k.table v inv b c.place_of_rules-to.result u g _ _ _ c.self.invariant.store.counts t1 ks c.append-count.ensures.rows room);
      };
      index = index_kept _ _ _ _ c.self.invariant.index _ _ refl (λ m. refl) (λ y. ap (λ (z : Heap). seen_by (z.mems y)) e ∙ seen_rules (heap_of k) b ks y);
    }

pub returns : goal.returns
returns c =
    let a = cell_id c.args.m in
    let b = cell_id c.args.n in
    let k = kept_by c.self.inside in
    let v = merged_by k.web in
    let inv = c.self.invariant.store.stored in
    let s = subst (λ (z : KeptWeb). IsMem (heap_of z) a) (sym c.self.view_is) c.requires.m in
    let u = subst (λ (z : KeptWeb). IsMem (heap_of z) b) (sym c.self.view_is) c.requires.n in
    let h = subst (λ (z : KeptWeb). HasRules z.table (merged_by z.web) a c.place_of_rules-from.result) (sym c.self.view_is) c.place_of_rules-from.ensures in
    let g = subst (λ (z : KeptWeb). HasRules z.table (merged_by z.web) b c.place_of_rules-to.result) (sym c.self.view_is) c.place_of_rules-to.ensures in
    let ks = rules_by (rows k.table c.place_of_rules-from.result) in
    let is = rules_are k.posts k.table v inv a c.place_of_rules-from.result s h.0 in
    let room : length ks ≤ spare_of (heap_of k) b = subst (λ (xs : List ℕ). length xs ≤ spare_of (heap_of k) b) is
    (subst (λ (z : KeptWeb). length (rules_in (heap_of z) a) ≤ spare_of (heap_of z) b) (sym c.self.view_is) c.requires.spare) in
    let t1 = c.append-count.new.table.slots in
    more_heap k.posts k.table v inv b c.place_of_rules-to.result u g _ _ _ c.self.invariant.store.counts t1 ks c.append-count.ensures.rows
    ∙ ap (λ (xs : List ℕ). record (heap_of k) { mems = alter (mems_of k.posts k.table v) b (option_map (mem_with_rules xs)) }) (sym is)
    ∙ ap (λ (z : KeptWeb). rules_copied (heap_of z) a b) c.self.view_is
