use Rattle.std.proofs.Common.{refl}
use Rattle.lmn_solid_tables.specs.Flats.{heap_of}
use Rattle.lmn_solid_search.specs.Placing.{LinkLeadsOut}
use Rattle.lmn_solid_search.proofs.OutsideLemmas.{lead_more, lead_in, lead_all}
use Rattle.lmn_solid_search.proofs.PairingLemmas.{port_differs}
use Rattle.lmn_solid_search.proofs.outside.links_lead_out.Goals as goal

pub returns-then-not-link_leads_out : goal.returns-then-not-link_leads_out
returns-then-not-link_leads_out c = λ outer ms b. (
  (λ z. absurd (cc)),
  λ f. absurd (port_differs (c.link_leads_out.ensures outer ms b).1 c.if-not-link_leads_out.true
      (lead_in (λ i x. LinkLeadsOut (heap_of c.args.flat.now) c.args.head.now x (c.args.image, i) outer) c.args.links.now c.loop-index.index c.loop-index-test.true f)),
)

pub loop-index-preserved : goal.loop-index-preserved
loop-index-preserved c = λ outer ms b. lead_more (λ i x. LinkLeadsOut (heap_of c.args.flat.now) c.args.head.now x (c.args.image, i) outer) c.args.links.now c.loop-index.index c.loop-index-test.true
    ((c.link_leads_out.ensures outer ms b).0 c.if-not-link_leads_out.false) (c.loop-index.invariant outer ms b)

pub returns : goal.returns
returns c = λ outer ms b. ((λ z. lead_all (λ i x. LinkLeadsOut (heap_of c.args.flat.now) c.args.head.now x (c.args.image, i) outer) c.args.links.now c.loop-index.index c.loop-index-test.false (c.loop-index.invariant outer ms b)), λ f. refl)
