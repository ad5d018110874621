use Rattle.std.proofs.Common.{refl, subst, sym, ap, ◌≤◌, ◌∙◌, ℕ, inl}
use Rattle.lmn_store_heap.specs.Heap.{IsAtom, arity_of}
use Rattle.lmn_web_cells.specs.CellIds.{cell_id}
use Rattle.lmn_web_merging.specs.Keepers.{merged_by}
use Rattle.lmn_store_web.specs.WebHeaps.{KeptWeb, heap_of}
use Rattle.lmn_store_web.specs.WebStores.{kept_by}
use Rattle.lmn_store_web.proofs.ReadLemmas.{atom_there, arity_is}
use Rattle.lmn_store_web.proofs.IndexLemmas.{index_kept, key_by}
use Rattle.lmn_store_web.proofs.MemLists.{seen_by}
use Rattle.lmn_store_web.proofs.CoreLemmas.{label_same}
use Rattle.lmn_store_heap.specs.Heap.{Heap}
use Rattle.lmn_web.specs.Webs.{web_label}
use Rattle.lmn_store_web.proofs.web_store.WebStoreLinkStore.set_mark.Goals as goal
use Rattle.lmn_store_heap.specs.Heap.{marked}
use Rattle.lmn_web.specs.Webs.{WebCell}
use Rattle.lmn_store_web.specs.WebHeaps.{atoms_of, mems_of, heap_by}
use Rattle.lmn_store_web.specs.WebStores.{IsStored}
use Rattle.lmn_store_counts.specs.Counts.{HasCounts}
use Rattle.lmn_store_web.proofs.CoreLemmas.{stored_same}
use Rattle.lmn_store_web.proofs.MarkLemmas.{core_same, marked_heap, marked_counts}
use Rattle.std.specs.Prelude.{Option}

pub set_mark-requires-clause-slot : goal.set_mark-requires-clause-slot
set_mark-requires-clause-slot c =
    let a = cell_id c.args.a in
    let k = kept_by c.self.inside in
    let i = atom_there k.posts k.table (merged_by k.web) a (subst (λ (z : KeptWeb). IsAtom (heap_of z) a) (sym c.self.view_is) c.requires.atom) in
    subst (λ n. c.args.slot ≤ n) (arity_is k.posts k.table (merged_by k.web) a i.1) (subst (λ (z : KeptWeb). c.args.slot ≤ arity_of (heap_of z) a) (sym c.self.view_is) c.requires.slot)

pub invariant_of-self : goal.invariant_of-self
invariant_of-self c =
    let a = cell_id c.args.a in
    let k = kept_by c.self.inside in
    let v = merged_by k.web in
    let i = atom_there k.posts k.table v a (subst (λ (z : KeptWeb). IsAtom (heap_of z) a) (sym c.self.view_is) c.requires.atom) in
    let e = c.set_mark.ensures in
    let t = ap (λ (f : ℕ → Option WebCell). heap_by k.posts k.table f) e ∙ marked_heap k.posts k.table v a c.args.slot c.args.v (inl i.1) i.1 in
    record {
      atoms = c.self.invariant.atoms;
      mems = c.self.invariant.mems;
      sum = c.self.invariant.sum;
      store = record {
        stored = subst (λ (f : ℕ → Option WebCell). IsStored k.posts k.table f) (sym e) (stored_same v _ (core_same k.posts k.table v a c.args.slot c.args.v (inl i.1)) k.posts k.table c.self.invariant.store.stored);
        counts = subst (λ (f : ℕ → Option WebCell). HasCounts (atoms_of k.posts f) (mems_of k.posts k.table f) c.self.invariant.atoms c.self.invariant.mems c.self.inside.spare_count) (sym e) (marked_counts k.posts k.table v a c.args.slot c.args.v (inl i.1) i.1 _ _ _ c.self.invariant.store.counts);
      };
      index = index_kept _ _ _ _ c.self.invariant.index _ _ refl (λ m. key_by v (merged_by c.set_mark.new.self) m (ap (λ (f : ℕ → Option WebCell). web_label f m) e ∙ label_same v _ (core_same k.posts k.table v a c.args.slot c.args.v (inl i.1)) m)) (λ m. ap (λ (h : Heap). seen_by (h.mems m)) t);
    }

pub returns : goal.returns
returns c =
    let a = cell_id c.args.a in
    let k = kept_by c.self.inside in
    let v = merged_by k.web in
    let i = atom_there k.posts k.table v a (subst (λ (z : KeptWeb). IsAtom (heap_of z) a) (sym c.self.view_is) c.requires.atom) in
    ap (λ (f : ℕ → Option WebCell). heap_by k.posts k.table f) c.set_mark.ensures ∙ marked_heap k.posts k.table v a c.args.slot c.args.v (inl i.1) i.1
    ∙ ap (λ (z : KeptWeb). marked (heap_of z) a c.args.slot c.args.v) c.self.view_is

pub set_mark-requires-clause-there : goal.set_mark-requires-clause-there
set_mark-requires-clause-there c =
    let a = cell_id c.args.a in let k = kept_by c.self.inside in
    (atom_there k.posts k.table (merged_by k.web) a (subst (λ (z : KeptWeb). IsAtom (heap_of z) a) (sym c.self.view_is) c.requires.atom)).0
