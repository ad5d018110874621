use Rattle.std.proofs.Common.{subst, sym, ◌≡◌, ◌<◌, IfSome, Some}
use Rattle.std.specs.Option.{option_map}
use Rattle.lmn_store_heap.specs.Heap.{IsAtom, link_of, arity_of}
use Rattle.lmn_web_cells.specs.CellIds.{cell_id, port_id}
use Rattle.lmn_web_merging.specs.Keepers.{merged_by}
use Rattle.lmn_store_web.specs.WebHeaps.{KeptWeb, heap_of}
use Rattle.lmn_store_web.specs.WebStores.{kept_by}
use Rattle.lmn_store_web.proofs.ReadLemmas.{atom_there, arity_is}
use Rattle.lmn_store_web.proofs.SoundLemmas.{merged_formed}
use Rattle.lmn_store_web.proofs.CallLemmas.{partner_link, partner_there, partner_back}
use Rattle.lmn_store_web.proofs.web_store.WebStoreLinkStore.partner.Goals as goal

pub partner-requires : goal.partner-requires
partner-requires c =
    let a = cell_id c.args.a in
    let k = kept_by c.self.inside in
    let i = atom_there k.posts k.table (merged_by k.web) a (subst (λ (z : KeptWeb). IsAtom (heap_of z) a) (sym c.self.view_is) c.requires.atom) in
    subst (λ n. c.args.port < n) (arity_is k.posts k.table (merged_by k.web) a i.1) (subst (λ (z : KeptWeb). c.args.port < arity_of (heap_of z) a) (sym c.self.view_is) c.requires.port)

pub returns-clause-link : goal.returns-clause-link
returns-clause-link c =
    let a = cell_id c.args.a in
    subst (λ (z : KeptWeb). link_of (heap_of z) a c.args.port ≡ option_map port_id c.partner.result) c.self.view_is
    (partner_link _ _ _ c.self.invariant.store.stored c.listed.ensures c.paired.ensures (merged_formed c.self.inside.web) _ a c.args.port c.partner.ensures)

pub returns-clause-there : goal.returns-clause-there
returns-clause-there c =
    let a = cell_id c.args.a in
    subst (λ (z : KeptWeb). IfSome c.partner.result (λ q. IsAtom (heap_of z) (cell_id q.0) × (q.1 < arity_of (heap_of z) (cell_id q.0)))) c.self.view_is
    (partner_there _ _ _ c.self.invariant.store.stored c.listed.ensures c.paired.ensures (merged_formed c.self.inside.web) cell_id c.partner.result a c.args.port c.partner.ensures)

pub returns-clause-back : goal.returns-clause-back
returns-clause-back c =
    let a = cell_id c.args.a in
    subst (λ (z : KeptWeb). IfSome c.partner.result (λ q. link_of (heap_of z) (cell_id q.0) q.1 ≡ Some (a, c.args.port))) c.self.view_is
    (partner_back _ _ _ c.self.invariant.store.stored c.listed.ensures c.paired.ensures (merged_formed c.self.inside.web) cell_id c.partner.result a c.args.port c.partner.ensures)
