use Rattle.std.proofs.Common.{ℕ, Option, IsSome, refl, sym, ap, subst, ◌∙◌, inl, inr}
use Rattle.lmn_store_heap.specs.Heap.{IsInPlace, home_of, taken}
use Rattle.lmn_web_cells.specs.CellIds.{cell_id}
use Rattle.lmn_web_merging.specs.Keepers.{merged_by}
use Rattle.lmn_store_web.specs.WebHeaps.{KeptWeb, heap_of, heap_by}
use Rattle.lmn_store_web.specs.WebStores.{kept_by}
use Rattle.lmn_store_web.proofs.CallLemmas.{in_place}
use Rattle.lmn_store_web.proofs.SendLemmas.{sent_stored, sent_counts}
use Rattle.lmn_store_web.proofs.PlaceLemmas.{taking, taken_heap}
use Rattle.lmn_store_web.proofs.IndexLemmas.{index_kept, key_by}
use Rattle.lmn_store_web.proofs.MemLists.{seen_by, seen_taken}
use Rattle.lmn_store_web.proofs.SendLemmas.{label_same}
use Rattle.lmn_store_heap.specs.Heap.{Heap}
use Rattle.lmn_store_web.proofs.web_store.WebStoreLinkStore.take_atom.Goals as goal
use Rattle.lmn_base.proofs.Lists.{some_is}

pub send_plain-requires-clause-kind : goal.send_plain-requires-clause-kind
send_plain-requires-clause-kind c =
    let k = kept_by c.self.inside in let w = merged_by k.web in let x = cell_id c.args.a in
    let h = some_is (home_of (heap_by k.posts k.table w) x) (subst (λ (z : KeptWeb). IsInPlace (heap_of z) x) (sym c.self.view_is) c.requires) in
    let i = in_place k.posts k.table w c.self.invariant.store.stored c.listed.ensures x h.0 h.1 in
    i.0

pub send_plain-requires-clause-listed : goal.send_plain-requires-clause-listed
send_plain-requires-clause-listed c =
    let k = kept_by c.self.inside in let w = merged_by k.web in let x = cell_id c.args.a in
    let h = some_is (home_of (heap_by k.posts k.table w) x) (subst (λ (z : KeptWeb). IsInPlace (heap_of z) x) (sym c.self.view_is) c.requires) in
    let i = in_place k.posts k.table w c.self.invariant.store.stored c.listed.ensures x h.0 h.1 in
    let q = taking k.posts k.table w c.self.invariant.store.stored c.listed.ensures x h.0 i.1 i.2 i.3 in
    subst (λ (o : Option ℕ). IsSome o) (sym q.home) refl

pub send_plain-requires-clause-differ : goal.send_plain-requires-clause-differ
send_plain-requires-clause-differ c =
    let k = kept_by c.self.inside in let w = merged_by k.web in let x = cell_id c.args.a in
    let h = some_is (home_of (heap_by k.posts k.table w) x) (subst (λ (z : KeptWeb). IsInPlace (heap_of z) x) (sym c.self.view_is) c.requires) in
    let i = in_place k.posts k.table w c.self.invariant.store.stored c.listed.ensures x h.0 h.1 in
    let q = taking k.posts k.table w c.self.invariant.store.stored c.listed.ensures x h.0 i.1 i.2 i.3 in
    q.differ

pub send_plain-requires-clause-elsewhere : goal.send_plain-requires-clause-elsewhere
send_plain-requires-clause-elsewhere c =
    let k = kept_by c.self.inside in let w = merged_by k.web in let x = cell_id c.args.a in
    let h = some_is (home_of (heap_by k.posts k.table w) x) (subst (λ (z : KeptWeb). IsInPlace (heap_of z) x) (sym c.self.view_is) c.requires) in
    let i = in_place k.posts k.table w c.self.invariant.store.stored c.listed.ensures x h.0 h.1 in
    let q = taking k.posts k.table w c.self.invariant.store.stored c.listed.ensures x h.0 i.1 i.2 i.3 in
    q.elsewhere

pub send_plain-requires-clause-files : goal.send_plain-requires-clause-files
send_plain-requires-clause-files c = c.self.invariant.store.stored.files (kept_by c.self.inside).posts.gone (inr refl)

pub send_plain-requires-clause-plain : goal.send_plain-requires-clause-plain
send_plain-requires-clause-plain c = c.self.invariant.store.stored.plain (kept_by c.self.inside).posts.gone c.self.invariant.store.stored.gone (inr (inl refl))

pub invariant_of-self : goal.invariant_of-self
invariant_of-self c =
    let k = kept_by c.self.inside in let w = merged_by k.web in let x = cell_id c.args.a in
    let h = some_is (home_of (heap_by k.posts k.table w) x) (subst (λ (z : KeptWeb). IsInPlace (heap_of z) x) (sym c.self.view_is) c.requires) in
    let i = in_place k.posts k.table w c.self.invariant.store.stored c.listed.ensures x h.0 h.1 in
    let q = taking k.posts k.table w c.self.invariant.store.stored c.listed.ensures x h.0 i.1 i.2 i.3 in
    let v = merged_by c.send_plain.new.web in
    let s = c.send_plain.ensures h.0 q.home in
    let t = taken_heap k.posts k.table w v h.0 x s c.self.invariant.store.stored.apart q.no_line i.0 h.1 in
    record {
      atoms = c.self.invariant.atoms;
      mems = c.self.invariant.mems;
      sum = c.self.invariant.sum;
      store = record {
        stored = sent_stored w v h.0 k.posts.gone x s k.posts k.table c.self.invariant.store.stored q.home (λ e. c.self.invariant.store.stored.apart (sym e)) q.fits i.3;
        counts = sent_counts w v h.0 k.posts.gone x s k.posts k.table _ _ _ c.self.invariant.store.counts;
      };
      index = index_kept _ _ _ _ c.self.invariant.index _ _ refl (λ m. key_by w v m (label_same w v h.0 k.posts.gone x s m)) (λ m. ap (λ (h : Heap). seen_by (h.mems m)) t ∙ seen_taken (heap_of k) x m);
    }

pub returns : goal.returns
returns c =
    let k = kept_by c.self.inside in let w = merged_by k.web in let x = cell_id c.args.a in
    let h = some_is (home_of (heap_by k.posts k.table w) x) (subst (λ (z : KeptWeb). IsInPlace (heap_of z) x) (sym c.self.view_is) c.requires) in
    let i = in_place k.posts k.table w c.self.invariant.store.stored c.listed.ensures x h.0 h.1 in
    let q = taking k.posts k.table w c.self.invariant.store.stored c.listed.ensures x h.0 i.1 i.2 i.3 in
    let v = merged_by c.send_plain.new.web in
    taken_heap k.posts k.table w v h.0 x (c.send_plain.ensures h.0 q.home) c.self.invariant.store.stored.apart q.no_line i.0 h.1
    ∙ ap (λ (z : KeptWeb). taken (heap_of z) x) c.self.view_is
