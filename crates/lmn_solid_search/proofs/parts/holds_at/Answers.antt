use Rattle.std.proofs.Common.{◌≡◌, refl, Some}
use Rattle.lmn_store_heap.specs.Heap.{link_of}
use Rattle.lmn_solid_search.proofs.OutsideLemmas.{lead_more, lead_in, lead_all}
use Rattle.lmn_solid_tables.specs.Flats.{heap_of, port_by}
use Rattle.lmn_solid_search.proofs.PairingLemmas.{port_differs}
use Rattle.lmn_solid_search.proofs.parts.holds_at.Goals as goal

pub returns-then-not-holds_if : goal.returns-then-not-holds_if
returns-then-not-holds_if c = (
  (λ z. absurd (cc)),
  λ f. absurd (port_differs c.holds_if.ensures.1 c.if-not-holds_if.true
      (lead_in (λ j y. y ≡ c.args.link → link_of (heap_of c.args.flat.now) c.args.image j ≡ Some (port_by c.args.entry)) c.args.links.now c.loop-index.index c.loop-index-test.true f)),
)

pub loop-index-preserved : goal.loop-index-preserved
loop-index-preserved c = lead_more (λ j y. y ≡ c.args.link → link_of (heap_of c.args.flat.now) c.args.image j ≡ Some (port_by c.args.entry)) c.args.links.now c.loop-index.index c.loop-index-test.true (c.holds_if.ensures.0 c.if-not-holds_if.false) c.loop-index.invariant

pub returns : goal.returns
returns c = ((λ z. lead_all (λ j y. y ≡ c.args.link → link_of (heap_of c.args.flat.now) c.args.image j ≡ Some (port_by c.args.entry)) c.args.links.now c.loop-index.index c.loop-index-test.false c.loop-index.invariant), λ f. refl)
