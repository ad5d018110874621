use Rattle.std.proofs.Common.{◌∙◌, ap, Some, refl}
use Rattle.lmn_solid_tables.specs.Flats.{heap_of}
use Rattle.lmn_solid_search.specs.Walking.{Fits}
use Rattle.lmn_solid_search.proofs.PairingLemmas.{port_differs}
use Rattle.lmn_solid_search.proofs.WholeLemmas.{in_whole, all_so_far, all_fit, one_misfits, misfit_home}
use Rattle.lmn_solid_search.proofs.whole.stands_apart.Goals as goal
use Rattle.lmn_adequacy_heaps.proofs.OutOf.{index_in as item_in}

pub home-requires : goal.home-requires
home-requires c = c.requires.atoms _ (item_in c.args.atoms.now c.loop-atom.atom-index c.loop-atom-test.true)

pub returns-then-home : goal.returns-then-home
returns-then-home c = λ marks root g. (
  (λ z. absurd (cc)),
  λ s. absurd (one_misfits (heap_of c.args.flat.now) root c.args.home c.args.images.now c.args.atoms.now marks _ (item_in c.args.atoms.now c.loop-atom.atom-index c.loop-atom-test.true)
      (misfit_home (heap_of c.args.flat.now) c.args.home c.home.result c.args.images.now _ c.home.ensures c.if-home.true) g s),
)

pub returns-then-has : goal.returns-then-has
returns-then-has c = λ marks root g. (
  (λ z. absurd (cc)),
  λ s. absurd (one_misfits (heap_of c.args.flat.now) root c.args.home c.args.images.now c.args.atoms.now marks _ (item_in c.args.atoms.now c.loop-atom.atom-index c.loop-atom-test.true)
      (λ f. f.1 (c.has.ensures.0 c.if-has.true)) g s),
)

pub loop-atom-preserved : goal.loop-atom-preserved
loop-atom-preserved c = all_so_far (Fits (heap_of c.args.flat.now) c.args.home c.args.images.now) c.args.atoms.now c.loop-atom.atom-index c.loop-atom-test.true
    (c.home.ensures ∙ ap Some c.if-home.false, port_differs c.has.ensures.1 c.if-has.false) c.loop-atom.invariant

pub returns : goal.returns
returns c = λ marks root g. ((λ z. all_fit (heap_of c.args.flat.now) root c.args.home c.args.images.now c.args.atoms.now marks c.requires.valid (λ a i. c.loop-atom.invariant a (in_whole a c.args.atoms.now c.loop-atom.atom-index c.loop-atom-test.false i)) g), λ s. refl)
