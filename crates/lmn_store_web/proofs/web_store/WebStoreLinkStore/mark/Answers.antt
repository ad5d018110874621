use Rattle.std.proofs.Common.{subst, sym, ◌≡◌, ◌≤◌, ◌∙◌}
use Rattle.lmn_store_heap.specs.Heap.{IsAtom, arity_of}
use Rattle.lmn_web_cells.specs.CellIds.{cell_id}
use Rattle.lmn_web_merging.specs.Keepers.{merged_by}
use Rattle.lmn_store_web.specs.WebHeaps.{KeptWeb, heap_of}
use Rattle.lmn_store_web.specs.WebStores.{kept_by}
use Rattle.lmn_store_web.proofs.ReadLemmas.{atom_there, arity_is, mark_is}
use Rattle.lmn_store_web.proofs.web_store.WebStoreLinkStore.mark.Goals as goal
use Rattle.lmn_store_heap.specs.Heap.{mark_of}

pub mark-requires-clause-slot : goal.mark-requires-clause-slot
mark-requires-clause-slot c =
    let a = cell_id c.args.a in
    let k = kept_by c.self.inside in
    let i = atom_there k.posts k.table (merged_by k.web) a (subst (λ (z : KeptWeb). IsAtom (heap_of z) a) (sym c.self.view_is) c.requires.atom) in
    subst (λ n. c.args.slot ≤ n) (arity_is k.posts k.table (merged_by k.web) a i.1) (subst (λ (z : KeptWeb). c.args.slot ≤ arity_of (heap_of z) a) (sym c.self.view_is) c.requires.slot)

pub returns : goal.returns
returns c =
    let a = cell_id c.args.a in
    let k = kept_by c.self.inside in
    let i = atom_there k.posts k.table (merged_by k.web) a (subst (λ (z : KeptWeb). IsAtom (heap_of z) a) (sym c.self.view_is) c.requires.atom) in
    subst (λ (z : KeptWeb). c.mark.result ≡ mark_of (heap_of z) a c.args.slot) c.self.view_is (c.mark.ensures ∙ sym (mark_is k.posts k.table (merged_by k.web) a i.1 c.args.slot))

pub mark-requires-clause-there : goal.mark-requires-clause-there
mark-requires-clause-there c =
    let a = cell_id c.args.a in let k = kept_by c.self.inside in
    (atom_there k.posts k.table (merged_by k.web) a (subst (λ (z : KeptWeb). IsAtom (heap_of z) a) (sym c.self.view_is) c.requires.atom)).0
