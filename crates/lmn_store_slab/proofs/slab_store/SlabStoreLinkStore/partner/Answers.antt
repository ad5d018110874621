use Rattle.std.proofs.Common.{◌∙◌, ◌<◌, sym, ap, subst, IfSome, Some, ◌≡◌}
use Rattle.lmn_store_heap.specs.Heap.{link_of, arity_of, IsAtom}
use Rattle.lmn_store_slab.specs.SlabStores.{kept_by}
use Rattle.lmn_store_slab.specs.Kept.{Kept, heap_of}
use Rattle.lmn_store_slab.proofs.ReadLemmas.{port_there, partner_is, partner_back, partner_there, no_change}
use Rattle.lmn_store_slab.proofs.slab_store.SlabStoreLinkStore.partner.Goals as goal

pub at-requires : goal.at-requires
at-requires c = port_there (kept_by c.self.inside) c.args.a c.args.port c.index.result.now c.index.ensures (subst (λ (z : Kept). c.args.port < arity_of (heap_of z) c.args.a) (sym c.self.view_is) c.requires.port)

pub returns-clause-link : goal.returns-clause-link
returns-clause-link c =
    ap (λ (z : Kept). link_of (heap_of z) c.args.a c.args.port) (sym c.self.view_is) ∙ partner_is (kept_by c.self.inside) c.args.a c.args.port c.index.result.now c.index.ensures c.at.result.now c.at.ensures
    ∙ sym (no_change c.at.result.now.partner)

pub returns-clause-there : goal.returns-clause-there
returns-clause-there c =
    subst (λ (z : Kept). IfSome c.at.result.now.partner (λ p. IsAtom (heap_of z) p.0 × (p.1 < arity_of (heap_of z) p.0))) c.self.view_is
    (partner_there (heap_of (kept_by c.self.inside)) c.self.invariant.fits.paired c.args.a c.args.port _ (partner_is (kept_by c.self.inside) c.args.a c.args.port c.index.result.now c.index.ensures c.at.result.now c.at.ensures))

pub returns-clause-back : goal.returns-clause-back
returns-clause-back c =
    subst (λ (z : Kept). IfSome c.at.result.now.partner (λ p. link_of (heap_of z) p.0 p.1 ≡ Some (c.args.a, c.args.port))) c.self.view_is
    (partner_back (heap_of (kept_by c.self.inside)) c.self.invariant.fits.paired c.args.a c.args.port _ (partner_is (kept_by c.self.inside) c.args.a c.args.port c.index.result.now c.index.ensures c.at.result.now c.at.ensures))
