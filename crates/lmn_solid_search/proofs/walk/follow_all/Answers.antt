use Rattle.lmn_solid_tables.specs.Flats.{heap_of, port_by}
use Rattle.lmn_solid_search.proofs.WalkingLemmas.{followed_so_far}
use Rattle.lmn_solid_search.proofs.walk.follow_all.Goals as goal

pub returns-clause-on : goal.returns-clause-on
returns-clause-on c = λ k at w. followed_so_far (heap_of c.args.flat.now) (port_by c.args.entry) c.loop-index.seen c.loop-index.list k c.args.atom c.loop-index.index _ c.arity-index-end.ensures c.loop-index.auto.index-end c.loop-index-test.false
    (c.loop-index.invariant.walks k at w)
