use Rattle.std.proofs.Common.{ℕ, List, arith, refl, slice_index_or, sym, subst}
use Rattle.lmn_solid_search.specs.Parting.{HoldsAt}
use Rattle.lmn_solid_search.specs.declared.head.AtomItem.{AtomItem}
use Rattle.lmn_solid_search.proofs.OutsideLemmas.{each_more, each_all}
use Rattle.std.proofs.lemmas.Option.{slice_get-get_or}
use Rattle.lmn_solid_tables.specs.Flats.{heap_of, port_by}
use Rattle.lmn_solid_search.proofs.PairingLemmas.{port_differs}
use Rattle.lmn_solid_search.proofs.parts.all_hold.Goals as goal
use Rattle.lmn_adequacy_heaps.proofs.OutOf.{index_in as item_in}

pub holds_at-requires-clause-atom : goal.holds_at-requires-clause-atom
holds_at-requires-clause-atom c = c.requires.images _ (item_in c.args.images.now c.loop-number.number (let l = c.loop-number-test.true in let e = c.requires.all in omega (arith, l, e)))

pub returns-then-not-holds_at : goal.returns-then-not-holds_at
returns-then-not-holds_at c = (
  (λ z. absurd (cc)),
  λ f. absurd (port_differs c.holds_at.ensures.1 c.if-not-holds_at.true
      (subst (λ (ls : List ℕ). HoldsAt (heap_of c.args.flat.now) ls c.args.link (slice_index_or c.args.images.now c.loop-number.number 0) (port_by c.args.entry)) (sym c.as_slice.ensures)
      (f c.loop-number.number _ (slice_get-get_or c.args.atoms.now c.loop-number.number c.index-atoms-number.result c.loop-number-test.true)))),
)

pub loop-number-preserved : goal.loop-number-preserved
loop-number-preserved c = each_more {A = AtomItem} (λ n a. HoldsAt (heap_of c.args.flat.now) a.links c.args.link (slice_index_or c.args.images.now n 0) (port_by c.args.entry)) c.args.atoms.now c.loop-number.number _
    (slice_get-get_or c.args.atoms.now c.loop-number.number c.index-atoms-number.result c.loop-number-test.true)
    (subst (λ (ls : List ℕ). HoldsAt (heap_of c.args.flat.now) ls c.args.link (slice_index_or c.args.images.now c.loop-number.number 0) (port_by c.args.entry)) c.as_slice.ensures (c.holds_at.ensures.0 c.if-not-holds_at.false)) c.loop-number.invariant

pub returns : goal.returns
returns c = ((λ z. each_all {A = AtomItem} (λ n a. HoldsAt (heap_of c.args.flat.now) a.links c.args.link (slice_index_or c.args.images.now n 0) (port_by c.args.entry)) c.args.atoms.now c.loop-number.number c.loop-number-test.false c.loop-number.invariant), λ f. refl)
