use Rattle.std.proofs.Common.{arith}
use Rattle.std.proofs.lemmas.Option.{slice_get-get_or}
use Rattle.lmn_solid_tables.specs.Flats.{heap_of, port_by}
use Rattle.lmn_solid_search.proofs.FitsLemmas.{fits_atom, fits_more}
use Rattle.lmn_solid_search.proofs.PairingLemmas.{port_differs}
use Rattle.lmn_solid_search.proofs.fits.port_misfit.Goals as goal
use Rattle.lmn_adequacy_heaps.proofs.OutOf.{index_in as item_in}

pub leads_to_all-requires-clause-atom : goal.leads_to_all-requires-clause-atom
leads_to_all-requires-clause-atom c = c.requires.images _ (item_in c.args.images.now c.args.place.atom c.requires.place)

pub returns-then-not-leads_to_all-clause-some : goal.returns-then-not-leads_to_all-clause-some
returns-then-not-leads_to_all-clause-some c = (
  c.loop-number-test.true,
  λ f. port_differs c.leads_to_all.ensures.1 c.if-not-leads_to_all.true
      (fits_atom (heap_of c.args.flat.now) c.args.atoms.now c.args.images.now (port_by c.args.place) c.args.link c.loop-number.number _ c.as_slice.result.now
      (slice_get-get_or c.args.atoms.now c.loop-number.number c.index-atoms-number.result (let l = c.loop-number-test.true in let m = c.requires.few in omega (arith, l, m))) c.as_slice.ensures f),
)

pub loop-number-preserved : goal.loop-number-preserved
loop-number-preserved c = fits_more (heap_of c.args.flat.now) c.args.atoms.now c.args.images.now (port_by c.args.place) c.args.link c.loop-number.number _ c.as_slice.result.now
    (slice_get-get_or c.args.atoms.now c.loop-number.number c.index-atoms-number.result (let l = c.loop-number-test.true in let m = c.requires.few in omega (arith, l, m))) c.as_slice.ensures
    (c.leads_to_all.ensures.0 c.if-not-leads_to_all.false) c.loop-number.invariant
