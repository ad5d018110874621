use Rattle.std.proofs.Common.{◌≡◌, ◌≢◌, [], Some, refl, sym, ap, subst, ◌∙◌, inl}
use Rattle.lmn_store_heap.specs.Lists.{from}
use Rattle.lmn_store_heap.specs.Heap.{IsMemInPlace, placed}
use Rattle.lmn_web_cells.specs.CellIds.{cell_id}
use Rattle.lmn_web.specs.declared.kind.CellKind.TheVariants.{Atom, Membrane}
use Rattle.lmn_web.specs.Webs.{cells_in}
use Rattle.lmn_web_merging.specs.Keepers.{merged_by}
use Rattle.lmn_store_web.specs.WebHeaps.{KeptWeb, heap_of}
use Rattle.lmn_store_web.specs.WebStores.{kept_by}
use Rattle.lmn_store_web.proofs.SendLemmas.{sent_stored, sent_counts}
use Rattle.lmn_store_web.proofs.PlaceLemmas.{placing, placed_heap}
use Rattle.lmn_store_web.proofs.IndexLemmas.{index_kept, key_by}
use Rattle.lmn_store_web.proofs.MemLists.{seen_by, seen_placed}
use Rattle.lmn_store_web.proofs.SendLemmas.{label_same}
use Rattle.lmn_store_heap.specs.Heap.{Heap}
use Rattle.lmn_store_web.proofs.web_store.WebStoreLinkStore.place_atom.Goals as goal

pub known_first_plain-a-requires-clause-membrane : goal.known_first_plain-a-requires-clause-membrane
known_first_plain-a-requires-clause-membrane c = c.self.invariant.store.stored.waiting

pub known_first_plain-a-requires-clause-plain : goal.known_first_plain-a-requires-clause-plain
known_first_plain-a-requires-clause-plain c = c.self.invariant.store.stored.plain (kept_by c.self.inside).posts.waiting c.self.invariant.store.stored.waiting (inl refl)

pub known_first_plain-a-requires-clause-some : goal.known_first_plain-a-requires-clause-some
known_first_plain-a-requires-clause-some c = subst (λ (z : KeptWeb). (heap_of z).new_atoms ≢ []) (sym c.self.view_is) c.requires.waiting

pub send_first-requires-clause-membrane : goal.send_first-requires-clause-membrane
send_first-requires-clause-membrane c =
    let k = kept_by c.self.inside in let w = merged_by k.web in let x = cell_id c.known_first_plain-a.result in let n = cell_id c.args.m in
    let first : from (Some x) (cells_in w k.posts.waiting Atom) ≡ cells_in w k.posts.waiting Atom = c.known_first_plain-a.ensures in
    let q = placing k.posts k.table w c.self.invariant.store.stored c.listed.ensures Atom x n first (subst (λ (z : KeptWeb). IsMemInPlace (heap_of z) n) (sym c.self.view_is) c.requires.mem) in
    q.membrane

pub send_first-requires-clause-own : goal.send_first-requires-clause-own
send_first-requires-clause-own c e = absurd (let z : Atom ≡ Membrane = e in cc)

pub send_first-requires-clause-line : goal.send_first-requires-clause-line
send_first-requires-clause-line c = c.self.invariant.store.stored.waiting

pub send_first-requires-clause-first : goal.send_first-requires-clause-first
send_first-requires-clause-first c = c.known_first_plain-a.ensures

pub send_first-requires-clause-plain : goal.send_first-requires-clause-plain
send_first-requires-clause-plain c = c.self.invariant.store.stored.plain (kept_by c.self.inside).posts.waiting c.self.invariant.store.stored.waiting (inl refl)

pub send_first-requires-clause-files : goal.send_first-requires-clause-files
send_first-requires-clause-files c = c.self.invariant.store.stored.files (kept_by c.self.inside).posts.waiting (inl refl)

pub send_first-requires-clause-apart : goal.send_first-requires-clause-apart
send_first-requires-clause-apart c =
    let k = kept_by c.self.inside in let w = merged_by k.web in let x = cell_id c.known_first_plain-a.result in let n = cell_id c.args.m in
    let first : from (Some x) (cells_in w k.posts.waiting Atom) ≡ cells_in w k.posts.waiting Atom = c.known_first_plain-a.ensures in
    let q = placing k.posts k.table w c.self.invariant.store.stored c.listed.ensures Atom x n first (subst (λ (z : KeptWeb). IsMemInPlace (heap_of z) n) (sym c.self.view_is) c.requires.mem) in
    (q.differ, λ e. q.no_line (sym e))

pub invariant_of-self : goal.invariant_of-self
invariant_of-self c =
    let k = kept_by c.self.inside in let w = merged_by k.web in let x = cell_id c.known_first_plain-a.result in let n = cell_id c.args.m in
    let first : from (Some x) (cells_in w k.posts.waiting Atom) ≡ cells_in w k.posts.waiting Atom = c.known_first_plain-a.ensures in
    let q = placing k.posts k.table w c.self.invariant.store.stored c.listed.ensures Atom x n first (subst (λ (z : KeptWeb). IsMemInPlace (heap_of z) n) (sym c.self.view_is) c.requires.mem) in
    let v = merged_by c.send_first.new.web in
    let s = c.send_first.ensures in
    let t = placed_heap k.posts k.table w v n x s c.self.invariant.store.stored.waiting q.no_line q.no_end q.kind first in
    record {
      atoms = c.self.invariant.atoms;
      mems = c.self.invariant.mems;
      sum = c.self.invariant.sum;
      store = record {
        stored = sent_stored w v k.posts.waiting n x s k.posts k.table c.self.invariant.store.stored q.home q.no_line q.fits c.self.invariant.store.stored.apart;
        counts = sent_counts w v k.posts.waiting n x s k.posts k.table _ _ _ c.self.invariant.store.counts;
      };
      index = index_kept _ _ _ _ c.self.invariant.index _ _ refl (λ m. key_by w v m (label_same w v k.posts.waiting n x s m)) (λ m. ap (λ (h : Heap). seen_by (h.mems m)) t ∙ seen_placed (heap_of k) n x m);
    }

pub returns-clause-first : goal.returns-clause-first
returns-clause-first c =
    let k = kept_by c.self.inside in let w = merged_by k.web in let x = cell_id c.known_first_plain-a.result in
    let first : from (Some x) (cells_in w k.posts.waiting Atom) ≡ cells_in w k.posts.waiting Atom = c.known_first_plain-a.ensures in
    subst (λ (z : KeptWeb). from (Some x) (heap_of z).new_atoms ≡ (heap_of z).new_atoms) c.self.view_is first

pub returns-clause-placed : goal.returns-clause-placed
returns-clause-placed c =
    let k = kept_by c.self.inside in let w = merged_by k.web in let x = cell_id c.known_first_plain-a.result in let n = cell_id c.args.m in
    let first : from (Some x) (cells_in w k.posts.waiting Atom) ≡ cells_in w k.posts.waiting Atom = c.known_first_plain-a.ensures in
    let q = placing k.posts k.table w c.self.invariant.store.stored c.listed.ensures Atom x n first (subst (λ (z : KeptWeb). IsMemInPlace (heap_of z) n) (sym c.self.view_is) c.requires.mem) in
    let v = merged_by c.send_first.new.web in
    placed_heap k.posts k.table w v n x (c.send_first.ensures) c.self.invariant.store.stored.waiting q.no_line q.no_end q.kind first
    ∙ ap (λ (z : KeptWeb). placed (heap_of z) n x) c.self.view_is
