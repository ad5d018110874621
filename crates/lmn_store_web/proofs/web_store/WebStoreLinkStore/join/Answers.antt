use Rattle.std.proofs.Common.{refl, subst, sym, ap, ◌<◌, ◌∙◌, ℕ}
use Rattle.lmn_store_heap.specs.Heap.{IsAtom, arity_of}
use Rattle.lmn_web_cells.specs.CellIds.{cell_id}
use Rattle.lmn_web_merging.specs.Keepers.{merged_by}
use Rattle.lmn_store_web.specs.WebHeaps.{KeptWeb, heap_of}
use Rattle.lmn_store_web.specs.WebStores.{kept_by}
use Rattle.lmn_store_web.proofs.ReadLemmas.{atom_there, arity_is}
use Rattle.lmn_store_web.proofs.SoundLemmas.{merged_formed}
use Rattle.lmn_store_web.proofs.IndexLemmas.{index_kept, key_by}
use Rattle.lmn_store_web.proofs.MemLists.{seen_by}
use Rattle.lmn_store_web.proofs.CoreLemmas.{label_same}
use Rattle.lmn_store_heap.specs.Heap.{Heap}
use Rattle.lmn_web.specs.Webs.{web_label}
use Rattle.lmn_store_web.proofs.web_store.WebStoreLinkStore.join.Goals as goal
use Rattle.lmn_store_heap.specs.Heap.{joined}
use Rattle.lmn_web.specs.Webs.{WebCell}
use Rattle.lmn_store_web.specs.WebHeaps.{atoms_of, mems_of, heap_by}
use Rattle.lmn_store_web.specs.WebStores.{IsStored}
use Rattle.lmn_store_counts.specs.Counts.{HasCounts}
use Rattle.lmn_store_web.proofs.CoreLemmas.{stored_same}
use Rattle.lmn_store_web.proofs.LinkLemmas.{joined_links, joined_heap}
use Rattle.std.specs.Prelude.{Option}

pub join-requires-clause-a : goal.join-requires-clause-a
join-requires-clause-a c =
    let a = cell_id c.args.a in
    let k = kept_by c.self.inside in
    let i = atom_there k.posts k.table (merged_by k.web) a (subst (λ (z : KeptWeb). IsAtom (heap_of z) a) (sym c.self.view_is) c.requires.a) in
    subst (λ n. c.args.i < n) (arity_is k.posts k.table (merged_by k.web) a i.1) (subst (λ (z : KeptWeb). c.args.i < arity_of (heap_of z) a) (sym c.self.view_is) c.requires.i)

pub join-requires-clause-b : goal.join-requires-clause-b
join-requires-clause-b c =
    let a = cell_id c.args.b in
    let k = kept_by c.self.inside in
    let i = atom_there k.posts k.table (merged_by k.web) a (subst (λ (z : KeptWeb). IsAtom (heap_of z) a) (sym c.self.view_is) c.requires.b) in
    subst (λ n. c.args.j < n) (arity_is k.posts k.table (merged_by k.web) a i.1) (subst (λ (z : KeptWeb). c.args.j < arity_of (heap_of z) a) (sym c.self.view_is) c.requires.j)

pub join-requires-clause-differ : goal.join-requires-clause-differ
join-requires-clause-differ c = λ e. c.requires.differ (λ z. (e.0 z, e.1 z))

pub invariant_of-self : goal.invariant_of-self
invariant_of-self c =
    let k = kept_by c.self.inside in
    let v = merged_by k.web in
    let e = c.join.ensures in
    let links = joined_links k.posts k.table v (cell_id c.args.a) c.args.i (cell_id c.args.b) c.args.j in
    let t = ap (λ (f : ℕ → Option WebCell). heap_by k.posts k.table f) e ∙ joined_heap k.posts k.table v (cell_id c.args.a) c.args.i (cell_id c.args.b) c.args.j c.self.invariant.store.stored c.listed.ensures c.paired.ensures (merged_formed k.web) in
    record {
      atoms = c.self.invariant.atoms;
      mems = c.self.invariant.mems;
      sum = c.self.invariant.sum;
      store = record {
        stored = subst (λ (f : ℕ → Option WebCell). IsStored k.posts k.table f) (sym e) (stored_same v _ links.cores k.posts k.table c.self.invariant.store.stored);
        counts = subst (λ (f : ℕ → Option WebCell). HasCounts (atoms_of k.posts f) (mems_of k.posts k.table f) c.self.invariant.atoms c.self.invariant.mems c.self.inside.spare_count) (sym e)
            (links.counts _ _ _ c.self.invariant.store.counts);
      };
      index = index_kept _ _ _ _ c.self.invariant.index _ _ refl (λ m. key_by v (merged_by c.join.new.self) m (ap (λ (f : ℕ → Option WebCell). web_label f m) e ∙ label_same v _ links.cores m)) (λ m. ap (λ (h : Heap). seen_by (h.mems m)) t);
    }

pub returns : goal.returns
returns c =
    let k = kept_by c.self.inside in
    let v = merged_by k.web in
    ap (λ (f : ℕ → Option WebCell). heap_by k.posts k.table f) c.join.ensures
    ∙ joined_heap k.posts k.table v (cell_id c.args.a) c.args.i (cell_id c.args.b) c.args.j c.self.invariant.store.stored c.listed.ensures c.paired.ensures (merged_formed c.self.inside.web)
    ∙ ap (λ (z : KeptWeb). joined (heap_of z) (cell_id c.args.a) c.args.i (cell_id c.args.b) c.args.j) c.self.view_is
