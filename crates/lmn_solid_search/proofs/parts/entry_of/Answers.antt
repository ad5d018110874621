use Rattle.std.proofs.Common.{ℕ, List, arith, slice_index_or, sym, subst}
use Rattle.std.proofs.lemmas.Option.{slice_get-get_or}
use Rattle.lmn_base.specs.Graphs.{Port}
use Rattle.lmn_solid_tables.specs.Flats.{heap_of, port_by}
use Rattle.lmn_solid_search.specs.Parting.{LeadsTo}
use Rattle.lmn_solid_search.specs.declared.head.AtomItem.{AtomItem}
use Rattle.lmn_solid_search.proofs.OutsideLemmas.{each_more, each_all}
use Rattle.lmn_solid_search.proofs.parts.entry_of.Goals as goal
use Rattle.lmn_adequacy_heaps.proofs.OutOf.{index_in as item_in}

pub entry_at-requires-clause-atom : goal.entry_at-requires-clause-atom
entry_at-requires-clause-atom c = c.requires.images _ (item_in c.args.images.now c.loop-number.number (let l = c.loop-number-test.true in let e = c.requires.all in omega (arith, l, e)))

pub returns-in-Some-clause-some : goal.returns-in-Some-clause-some
returns-in-Some-clause-some c = (
  c.loop-number.number,
  _,
  slice_get-get_or c.args.atoms.now c.loop-number.number c.index-atoms-number.result c.loop-number-test.true,
  (subst (λ (ls : List ℕ). LeadsTo (heap_of c.args.flat.now) ls c.args.link (slice_index_or c.args.images.now c.loop-number.number 0) (port_by c.in-Some.entry)) c.as_slice.ensures c.in-Some.ensures.some),
)

pub loop-number-preserved : goal.loop-number-preserved
loop-number-preserved c = each_more {A = AtomItem} (λ n a. (q : Port) → LeadsTo (heap_of c.args.flat.now) a.links c.args.link (slice_index_or c.args.images.now n 0) q → ⊥) c.args.atoms.now c.loop-number.number _
    (slice_get-get_or c.args.atoms.now c.loop-number.number c.index-atoms-number.result c.loop-number-test.true)
    (λ q t. c.entry_at.ensures.none c.in-None.is q (subst (λ (ls : List ℕ). LeadsTo (heap_of c.args.flat.now) ls c.args.link (slice_index_or c.args.images.now c.loop-number.number 0) q) (sym c.as_slice.ensures) t)) c.loop-number.invariant

pub returns-clause-none : goal.returns-clause-none
returns-clause-none c = λ e. each_all {A = AtomItem} (λ n a. (q : Port) → LeadsTo (heap_of c.args.flat.now) a.links c.args.link (slice_index_or c.args.images.now n 0) q → ⊥) c.args.atoms.now c.loop-number.number c.loop-number-test.false c.loop-number.invariant
