use Rattle.std.proofs.Common.{refl, arith}
use Rattle.lmn_solid_tables.specs.Flats.{heap_of}
use Rattle.lmn_solid_search.specs.Holding.{HoldsAt}
use Rattle.lmn_solid_search.specs.declared.head.MembraneItem.{MembraneItem}
use Rattle.lmn_solid_search.proofs.OutsideLemmas.{each_more, each_all}
use Rattle.lmn_solid_search.proofs.PairingLemmas.{port_differs}
use Rattle.lmn_solid_search.proofs.holding.membranes_hold.Goals as goal

pub returns-then-not-branch-clause-hold : goal.returns-then-not-branch-clause-hold
returns-then-not-branch-clause-hold c = ((λ z. absurd (cc)), λ f. absurd (port_differs c.in_ok-membrane_holds.ensures.holds.1 c.if-not-branch.true (f c.loop-index.index c.at.result.now c.at.ensures)))

pub loop-index-preserved : goal.loop-index-preserved
loop-index-preserved c = record {
  room = c.in_ok-membrane_holds.ensures.room;
  hold = each_more {A = MembraneItem} (HoldsAt (heap_of c.args.flat.now) c.args.head.now c.args.placed.now c.args.parts.now) c.args.head.now.membranes c.loop-index.index c.at.result.now c.at.ensures (c.in_ok-membrane_holds.ensures.holds.0 c.if-not-branch.false) c.loop-index.invariant.hold;
}

pub returns-clause-hold : goal.returns-clause-hold
returns-clause-hold c = (
  (λ z. each_all {A = MembraneItem} (HoldsAt (heap_of c.args.flat.now) c.args.head.now c.args.placed.now c.args.parts.now) c.args.head.now.membranes c.loop-index.index
      (let l = c.loop-index-test.false in let e = c.len-index-end.ensures in omega (arith, l, e)) c.loop-index.invariant.hold),
  λ f. refl,
)
