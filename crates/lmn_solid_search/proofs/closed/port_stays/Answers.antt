use Rattle.std.proofs.Common.{◌∙◌, ap}
use Rattle.std.specs.Option.{option_map}
use Rattle.lmn_solid_tables.specs.Flats.{heap_of, port_by}
use Rattle.lmn_solid_search.proofs.ClosingLemmas.{stays_by}
use Rattle.lmn_solid_search.proofs.OutsideLemmas.{is_marked}
use Rattle.lmn_solid_search.proofs.WalkingLemmas.{linked_to}
use Rattle.lmn_solid_search.proofs.closed.port_stays.Goals as goal

pub has-requires : goal.has-requires
has-requires c = c.requires.places _ (linked_to (heap_of c.args.flat.now) c.args.port.atom c.args.port.index (port_by c.in-Some.end) c.requires.valid (c.partner.ensures ∙ ap (option_map port_by) c.in-Some.is))

pub returns-in-Some : goal.returns-in-Some
returns-in-Some c =
    let link = c.partner.ensures ∙ ap (option_map port_by) c.in-Some.is in
    stays_by (heap_of c.args.flat.now) c.args.port.atom c.args.port.index (port_by c.in-Some.end) c.args.within.now c.has.result link
    (is_marked c.args.within.now c.in-Some.end.atom c.has.result (c.requires.places _ (linked_to (heap_of c.args.flat.now) c.args.port.atom c.args.port.index (port_by c.in-Some.end) c.requires.valid link)) c.has.ensures)
