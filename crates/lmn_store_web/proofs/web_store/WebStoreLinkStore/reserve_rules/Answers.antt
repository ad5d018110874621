use Rattle.std.proofs.Common.{subst, sym, ap, ◌≤◌, ◌∙◌, arith, List}
use Rattle.std.specs.Prelude.{Option}
use Rattle.lmn_base.proofs.Lists.{on_err}
use Rattle.lmn_store_counts.specs.RuleLists.{RuleList}
use Rattle.lmn_store_counts.specs.Counts.{HasCounts}
use Rattle.lmn_store_heap.specs.Heap.{IsMem, spare_of, reserved}
use Rattle.lmn_web_cells.specs.CellIds.{cell_id}
use Rattle.lmn_web_merging.specs.Keepers.{merged_by}
use Rattle.lmn_store_web.specs.WebHeaps.{KeptWeb, heap_of, heap_by, atoms_of, mems_of}
use Rattle.lmn_store_web.specs.WebStores.{kept_by, HasRules, IsStored}
use Rattle.lmn_store_web.proofs.RulingLemmas.{room_kept, room_is, room_stored, room_heap, room_now, room_counts}
use Rattle.lmn_store_web.proofs.IndexLemmas.{index_kept, index_by}
use Rattle.lmn_store_web.proofs.MemLists.{seen_by, seen_reserved}
use Rattle.lmn_store_heap.specs.Heap.{Heap}
use Rattle.std.proofs.Common.{refl}
use Rattle.lmn_store_web.proofs.web_store.WebStoreLinkStore.reserve_rules.Goals as goal

pub index-requires : goal.index-requires
index-requires c = (subst (λ (z : KeptWeb). HasRules z.table (merged_by z.web) (cell_id c.args.m) c.place_of_rules-place.result) (sym c.self.view_is) c.place_of_rules-place.ensures).1

pub invariant_of-self-2 : goal.invariant_of-self-2
invariant_of-self-2 c =
    let m = cell_id c.args.m in
    let k = kept_by c.self.inside in
    let s = subst (λ (z : KeptWeb). IsMem (heap_of z) m) (sym c.self.view_is) c.requires in
    let h = subst (λ (z : KeptWeb). HasRules z.table (merged_by z.web) m c.place_of_rules-place.result) (sym c.self.view_is) c.place_of_rules-place.ensures in
    let low = c.if-n-spare-2.false in
    let more = c.if-n-spare.false in
    let bound = c.self.invariant.store.counts.bound in let sum = c.self.invariant.sum in
    let is = room_is k.posts k.table (merged_by k.web) c.self.invariant.store.stored m c.place_of_rules-place.result s h c.index.result.now c.index.ensures ∙ sym c.spare-spare.ensures in
    let t = room_heap k.posts k.table (merged_by k.web) c.self.invariant.store.stored m c.place_of_rules-place.result s h _ _ _ c.self.invariant.store.counts _ c.args.n c.in_ok-reserve.ensures.ok in
    record {
      atoms = c.self.invariant.atoms;
      mems = c.self.invariant.mems;
      sum = omega (arith, sum);
      store = record {
        stored = room_stored k.posts k.table (merged_by k.web) c.self.invariant.store.stored m c.place_of_rules-place.result s h _ _ _ c.self.invariant.store.counts _ c.args.n c.in_ok-reserve.ensures.ok;
        counts = room_counts k.posts k.table (merged_by k.web) c.self.invariant.store.stored m c.place_of_rules-place.result s h _ _ _ c.self.invariant.store.counts _ c.args.n c.in_ok-reserve.ensures.ok c.spare-spare.result is (omega (arith, more)) (omega (arith, low, more, bound, sum));
      };
      index = index_kept _ _ _ _ c.self.invariant.index _ _ refl (λ m. refl) (λ y. ap (λ (u : Heap). seen_by (u.mems y)) t ∙ seen_reserved (heap_of k) m c.args.n y);
    }

pub returns-clause-least : goal.returns-clause-least
returns-clause-least c =
    let m = cell_id c.args.m in
    let k = kept_by c.self.inside in
    let s = subst (λ (z : KeptWeb). IsMem (heap_of z) m) (sym c.self.view_is) c.requires in
    let h = subst (λ (z : KeptWeb). HasRules z.table (merged_by z.web) m c.place_of_rules-place.result) (sym c.self.view_is) c.place_of_rules-place.ensures in
    subst (λ j. c.args.n ≤ j) (sym (room_now k.posts k.table (merged_by k.web) c.self.invariant.store.stored m c.place_of_rules-place.result s h _ _ _ c.self.invariant.store.counts _ c.args.n c.in_ok-reserve.ensures.ok)) (omega arith)

pub returns-clause-ok : goal.returns-clause-ok
returns-clause-ok c =
    let m = cell_id c.args.m in
    let k = kept_by c.self.inside in
    let s = subst (λ (z : KeptWeb). IsMem (heap_of z) m) (sym c.self.view_is) c.requires in
    let h = subst (λ (z : KeptWeb). HasRules z.table (merged_by z.web) m c.place_of_rules-place.result) (sym c.self.view_is) c.place_of_rules-place.ensures in
    room_heap k.posts k.table (merged_by k.web) c.self.invariant.store.stored m c.place_of_rules-place.result s h _ _ _ c.self.invariant.store.counts _ c.args.n c.in_ok-reserve.ensures.ok
    ∙ ap (λ (z : KeptWeb). reserved (heap_of z) m c.args.n) c.self.view_is ∙ ap (reserved (heap_of c.args.self.now) m) (sym (room_now k.posts k.table (merged_by k.web) c.self.invariant.store.stored m c.place_of_rules-place.result s h _ _ _ c.self.invariant.store.counts _ c.args.n c.in_ok-reserve.ensures.ok))

pub returns-then-n-spare-clause-ok : goal.returns-then-n-spare-clause-ok
returns-then-n-spare-clause-ok c = room_kept (heap_of c.args.self.now) (cell_id c.args.m)

pub returns-then-n-spare-clause-least : goal.returns-then-n-spare-clause-least
returns-then-n-spare-clause-least c =
    let m = cell_id c.args.m in
    let k = kept_by c.self.inside in
    let s = subst (λ (z : KeptWeb). IsMem (heap_of z) m) (sym c.self.view_is) c.requires in
    let h = subst (λ (z : KeptWeb). HasRules z.table (merged_by z.web) m c.place_of_rules-place.result) (sym c.self.view_is) c.place_of_rules-place.ensures in
    let is = room_is k.posts k.table (merged_by k.web) c.self.invariant.store.stored m c.place_of_rules-place.result s h c.index.result.now c.index.ensures ∙ sym c.spare-spare.ensures in
    let low = c.if-n-spare.true in
    subst (λ (z : KeptWeb). c.args.n ≤ spare_of (heap_of z) m) c.self.view_is (omega (arith, is, low))

pub invariant_of-self : goal.invariant_of-self
invariant_of-self c =
    let k = kept_by c.self.inside in
    let p = k.posts in
    let v = merged_by k.web in
    let same = c.in_err-reserve.ensures.err in
    record {
      atoms = c.self.invariant.atoms;
      mems = c.self.invariant.mems;
      sum = c.self.invariant.sum;
      store = record {
        stored = subst (λ (t : List (Option RuleList)). IsStored p t v) (sym same) c.self.invariant.store.stored;
        counts = subst (λ (t : List (Option RuleList)). HasCounts (atoms_of p v) (mems_of p t v) c.self.invariant.atoms c.self.invariant.mems c.self.inside.spare_count) (sym same) c.self.invariant.store.counts;
      };
      index = index_by _ _ _ _ (heap_of k) (heap_by p c.reserve.new.table.slots v) (λ m. refl) (ap (λ (t : List (Option RuleList)). heap_by p t v) same) c.self.invariant.index;
    }

pub returns-in_err-reserve-clause-err : goal.returns-in_err-reserve-clause-err
returns-in_err-reserve-clause-err c =
    let k = kept_by c.self.inside in
    let p = k.posts in
    let v = merged_by k.web in
    let same = c.in_err-reserve.ensures.err in
    on_err _ _ (ap (λ (t : List (Option RuleList)). heap_by p t v) same ∙ ap (λ (z : KeptWeb). heap_of z) c.self.view_is)
