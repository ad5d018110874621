use Rattle.std.proofs.Common.{refl}
use Rattle.lmn_solid_tables.specs.Flats.{heap_of}
use Rattle.lmn_solid_search.specs.Closing.{PortsStay}
use Rattle.lmn_solid_search.proofs.WholeLemmas.{in_whole, all_so_far}
use Rattle.lmn_solid_search.proofs.PairingLemmas.{port_differs}
use Rattle.lmn_solid_search.proofs.closed.all_stay.Goals as goal
use Rattle.lmn_adequacy_heaps.proofs.OutOf.{index_in as item_in}

pub ports_stay-requires-clause-atom : goal.ports_stay-requires-clause-atom
ports_stay-requires-clause-atom c = c.requires.atoms _ (item_in c.args.atoms.now c.loop-atom.atom-index c.loop-atom-test.true)

pub returns-then-not-ports_stay : goal.returns-then-not-ports_stay
returns-then-not-ports_stay c = ((λ z. absurd (cc)), λ f. absurd (port_differs c.ports_stay.ensures.1 c.if-not-ports_stay.true (f _ (item_in c.args.atoms.now c.loop-atom.atom-index c.loop-atom-test.true))))

pub loop-atom-preserved : goal.loop-atom-preserved
loop-atom-preserved c = all_so_far (PortsStay (heap_of c.args.flat.now) c.args.within.now) c.args.atoms.now c.loop-atom.atom-index c.loop-atom-test.true (c.ports_stay.ensures.0 c.if-not-ports_stay.false) c.loop-atom.invariant

pub returns : goal.returns
returns c = ((λ z a i. c.loop-atom.invariant a (in_whole a c.args.atoms.now c.loop-atom.atom-index c.loop-atom-test.false i)), λ f. refl)
