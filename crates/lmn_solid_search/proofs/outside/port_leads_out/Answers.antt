use Rattle.std.proofs.Common.{◌∙◌, ap}
use Rattle.std.specs.Option.{option_map}
use Rattle.lmn_solid_tables.specs.Flats.{heap_of, port_by}
use Rattle.lmn_solid_search.proofs.OutsideLemmas.{home_marked, home_there, leads_out}
use Rattle.lmn_solid_search.proofs.WalkingLemmas.{linked_to}
use Rattle.lmn_solid_search.proofs.outside.port_leads_out.Goals as goal

pub home-requires : goal.home-requires
home-requires c = linked_to (heap_of c.args.flat.now) c.args.port.atom c.args.port.index (port_by c.in-Some.end) c.requires.valid (c.partner.ensures ∙ ap (option_map port_by) c.in-Some.is)

pub has-requires : goal.has-requires
has-requires c = c.requires.places _ (home_there (heap_of c.args.flat.now) c.in-Some.end.atom c.home.result c.requires.valid c.home.ensures)

pub returns-in-Some : goal.returns-in-Some
returns-in-Some c = λ outer ms b. leads_out (heap_of c.args.flat.now) c.args.port.atom c.args.port.index (port_by c.in-Some.end) outer c.has.result (c.partner.ensures ∙ ap (option_map port_by) c.in-Some.is)
    (home_marked (heap_of c.args.flat.now) outer c.args.seen.now ms c.in-Some.end.atom c.home.result c.has.result c.home.ensures (c.requires.places _ (home_there (heap_of c.args.flat.now) c.in-Some.end.atom c.home.result c.requires.valid c.home.ensures)) c.has.ensures b)
