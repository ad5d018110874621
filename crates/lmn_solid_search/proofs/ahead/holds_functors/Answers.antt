use Rattle.std.proofs.Common.{refl}
use Rattle.lmn_solid_tables.specs.Flats.{heap_of}
use Rattle.lmn_solid_search.proofs.AheadLemmas.{all_items, items_so_far, one_lacks}
use Rattle.lmn_solid_search.proofs.PairingLemmas.{port_differs}
use Rattle.lmn_solid_search.proofs.ahead.holds_functors.Goals as goal

pub returns-then-not-holds_item : goal.returns-then-not-holds_item
returns-then-not-holds_item c = ((λ z. absurd (cc)), λ f. absurd (one_lacks (heap_of c.args.flat.now) c.args.number c.args.membrane c.args.items.now c.loop-item.item-index c.item-item.result c.loop-item-test.true c.item-item.is (port_differs c.holds_item.ensures.1 c.if-not-holds_item.true) f))

pub loop-item-preserved : goal.loop-item-preserved
loop-item-preserved c = items_so_far (heap_of c.args.flat.now) c.args.number c.args.membrane c.args.items.now c.loop-item.item-index c.item-item.result c.loop-item-test.true c.item-item.is (c.holds_item.ensures.0 c.if-not-holds_item.false) c.loop-item.invariant

pub returns : goal.returns
returns c = ((λ z. all_items (heap_of c.args.flat.now) c.args.number c.args.membrane c.args.items.now c.loop-item.item-index c.loop-item-test.false c.loop-item.invariant), λ f. refl)
