use Rattle.std.proofs.Common.{arith, refl}
use Rattle.lmn_solid_tables.specs.Flats.{heap_of, port_by}
use Rattle.lmn_solid_search.proofs.PairingLemmas.{comparing_first, pair_atoms, all_agree}
use Rattle.lmn_solid_search.proofs.pairs.are_equal.Goals as goal

pub loop-next-init : goal.loop-next-init
loop-next-init c = record {
  lengths = c.in_ok-begin.ensures.lengths;
  goes = comparing_first (heap_of c.args.flat.now) (port_by c.args.left) (port_by c.args.right) c.begin.new.self c.in_ok-begin.ensures.twins c.in_ok-begin.ensures.first c.in_ok-begin.ensures.only;
}

pub compare_atoms-requires-clause-atom : goal.compare_atoms-requires-clause-atom
compare_atoms-requires-clause-atom c = (pair_atoms (heap_of c.args.flat.now) (port_by c.args.left) (port_by c.args.right) c.loop-next.pairs c.loop-next.next c.loop-next.next c.at-atom.result.now c.at-other.result.now
    c.requires.valid c.requires.left c.requires.right c.loop-next.invariant.goes (c.at-atom.ensures, c.at-other.ensures)).0

pub compare_atoms-requires-clause-other : goal.compare_atoms-requires-clause-other
compare_atoms-requires-clause-other c = (pair_atoms (heap_of c.args.flat.now) (port_by c.args.left) (port_by c.args.right) c.loop-next.pairs c.loop-next.next c.loop-next.next c.at-atom.result.now c.at-other.result.now
    c.requires.valid c.requires.left c.requires.right c.loop-next.invariant.goes (c.at-atom.ensures, c.at-other.ensures)).1

pub returns-clause-equal : goal.returns-clause-equal
returns-clause-equal c = (
  λ z. all_agree (heap_of c.args.flat.now) (port_by c.args.left) (port_by c.args.right) c.requires.valid c.loop-next.pairs c.loop-next.next c.loop-next.invariant.goes
      (let e = c.len.ensures in let l = c.loop-next-test.false in omega (arith, e, l)) c.if-left-right.false c.requires.left,
  λ g. refl,
)
