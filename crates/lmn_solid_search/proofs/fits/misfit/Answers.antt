use Rattle.std.proofs.Common.{arith, slice_index_or}
use Rattle.std.proofs.lemmas.Option.{slice_get-get_or}
use Rattle.lmn_base.proofs.Lists.{get_index}
use Rattle.lmn_solid_tables.specs.Flats.{heap_of}
use Rattle.lmn_solid_search.proofs.FitsLemmas.{links_more, links_all, stands}
use Rattle.lmn_solid_search.proofs.fits.misfit.Goals as goal

pub returns-in-Some-clause-some : goal.returns-in-Some-clause-some
returns-in-Some-clause-some c = (
  c.in-Some.ensures.some.0,
  λ f. c.in-Some.ensures.some.1 (f c.loop-index.index (slice_index_or c.as_slice-links.result.now c.loop-index.index 0)
      (stands (heap_of c.args.flat.now) c.args.atoms.now c.args.images.now c.args.number _ c.as_slice-links.result.now
      (slice_get-get_or c.args.atoms.now c.args.number c.index-atoms-number.result (let l = c.requires.number in let m = c.requires.few in omega (arith, l, m))) c.as_slice-links.ensures
      c.loop-index.index (slice_index_or c.as_slice-links.result.now c.loop-index.index 0) (get_index c.as_slice-links.result.now c.loop-index.index c.loop-index-test.true))),
)

pub loop-index-preserved : goal.loop-index-preserved
loop-index-preserved c = links_more (heap_of c.args.flat.now) c.args.atoms.now c.args.images.now c.args.number _ c.as_slice-links.result.now
    (slice_get-get_or c.args.atoms.now c.args.number c.index-atoms-number.result (let l = c.requires.number in let m = c.requires.few in omega (arith, l, m))) c.as_slice-links.ensures c.loop-index.index c.loop-index-test.true
    (c.port_misfit.ensures.none c.in-None.is) c.loop-index.invariant

pub returns-clause-none : goal.returns-clause-none
returns-clause-none c = λ e. links_all (heap_of c.args.flat.now) c.args.atoms.now c.args.images.now c.args.number _ c.as_slice-links.result.now
    (slice_get-get_or c.args.atoms.now c.args.number c.index-atoms-number.result (let l = c.requires.number in let m = c.requires.few in omega (arith, l, m))) c.as_slice-links.ensures c.loop-index.index c.loop-index-test.false c.loop-index.invariant
