use Rattle.lmn_solid_tables.specs.Flats.{heap_of}
use Rattle.lmn_solid_search.proofs.KnowingLemmas.{compare_holds}
use Rattle.lmn_solid_search.proofs.known.holds.Goals as goal

pub returns-in-Compare-clause-holds : goal.returns-in-Compare-clause-holds
returns-in-Compare-clause-holds c = λ s w. compare_holds (heap_of c.args.flat.now) c.args.known.now s c.in-Compare.op c.in-Compare.left c.in-Compare.right c.in-Compare.pos c.args.condition.now c.compares.result c.compares.ensures c.in-Compare.is w
