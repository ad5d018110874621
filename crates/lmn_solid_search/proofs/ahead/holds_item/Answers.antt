use Rattle.lmn_solid_tables.specs.Flats.{heap_of}
use Rattle.lmn_solid_search.proofs.AheadLemmas.{asks_for}
use Rattle.lmn_solid_search.proofs.ahead.holds_item.Goals as goal

pub returns-else-inside-number : goal.returns-else-inside-number
returns-else-inside-number c = asks_for (heap_of c.args.flat.now) c.args.number c.args.membrane c.args.items.now c.in-Atom.functor c.in-Atom.links c.in-Atom.inside c.args.item.now c.are_enough.result c.count_asked.result c.atoms.result.now c.in-Atom.is c.if-inside-number.false c.atoms.ensures c.count_asked.ensures c.are_enough.ensures
