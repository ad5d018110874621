use Rattle.std.proofs.Common.{refl}
use Rattle.lmn_solid_tables.specs.Flats.{heap_of}
use Rattle.lmn_solid_search.proofs.ClosingLemmas.{ports_all}
use Rattle.lmn_solid_search.proofs.PairingLemmas.{port_differs}
use Rattle.lmn_solid_search.proofs.closed.ports_stay.Goals as goal

pub returns-then-not-port_stays : goal.returns-then-not-port_stays
returns-then-not-port_stays c = ((λ z. absurd (cc)), λ f. absurd (port_differs c.port_stays.ensures.1 c.if-not-port_stays.true (f c.loop-index.index)))

pub returns : goal.returns
returns c = ((λ z. ports_all (heap_of c.args.flat.now) c.args.atom c.arity-index-end.result c.loop-index.index c.args.within.now c.arity-index-end.ensures c.loop-index-test.false c.loop-index.invariant), λ f. refl)
