use Rattle.std.proofs.Common.{◌∙◌, List, ap, arith}
use Rattle.lmn_solid_tables.specs.Flats.{heap_of}
use Rattle.lmn_solid_search.specs.Placing.{outermost_in}
use Rattle.lmn_solid_search.specs.declared.head.MembraneItem.{MembraneItem}
use Rattle.lmn_solid_search.proofs.OutsideLemmas.{image_there, atom_leads}
use Rattle.lmn_solid_search.proofs.outside.atom_leads_out.Goals as goal

pub below-requires-clause-starts : goal.below-requires-clause-starts
below-requires-clause-starts c = λ m i. image_there (heap_of c.args.flat.now) c.args.placed.now c.outermost_of.result c.membrane-outer.result m c.requires.placed
    (let l = c.requires.outermost in let e = c.outermost_of.ensures ∙ ap (λ (xs : List MembraneItem). outermost_in xs c.args.atom.now.inside) c.as_slice.ensures in omega (arith, l, e)) c.membrane-outer.ensures i

pub returns-clause-leads : goal.returns-clause-leads
returns-clause-leads c = atom_leads (heap_of c.args.flat.now) c.args.head.now c.args.atom.now c.args.image c.args.placed.now c.outermost_of.result c.membrane-outer.result c.links_lead_out.result c.as_slice-2.result.now
    (c.outermost_of.ensures ∙ ap (λ (xs : List MembraneItem). outermost_in xs c.args.atom.now.inside) c.as_slice.ensures) c.membrane-outer.ensures c.as_slice-2.ensures c.if-atom-eq0.false
    (c.links_lead_out.ensures c.membrane-outer.result _ c.in_ok-below.ensures.all)
