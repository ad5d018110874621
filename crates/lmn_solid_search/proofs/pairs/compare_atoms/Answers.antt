use Rattle.lmn_solid_tables.specs.Flats.{heap_of, port_by}
use Rattle.lmn_solid_search.proofs.PairingLemmas.{pair_compared}
use Rattle.lmn_solid_search.proofs.pairs.compare_atoms.Goals as goal

pub returns-clause-compared : goal.returns-clause-compared
returns-clause-compared c = λ k is w. (
  (λ z. pair_compared (heap_of c.args.flat.now) (port_by c.args.left) (port_by c.args.right) c.loop-index.pairs k c.args.atom c.args.other c.loop-index.index c.arity-index-end.result
      c.arity-index-end.ensures c.loop-index-test.false (c.loop-index.invariant.goes k is w)),
  λ z. absurd (cc),
)
