use Rattle.std.proofs.lemmas.Result.{IfOk-weaker}
use Rattle.lmn_solid_tables.specs.Flats.{heap_of, port_by}
use Rattle.lmn_solid_search.proofs.PairingLemmas.{first_port, other_index, made_pair, port_differs}
use Rattle.lmn_solid_search.proofs.WalkingLemmas.{linked_to}
use Rattle.lmn_solid_search.proofs.pairs.compare_ports.Goals as goal

pub returns-then-is_same-clause-compared : goal.returns-then-is_same-clause-compared
returns-then-is_same-clause-compared c = λ k e w. first_port (heap_of c.args.flat.now) (port_by c.args.left) (port_by c.args.right) c.requires.valid c.args.pairs.now k c.args.port.atom c.args.other.atom c.args.port.index c.args.other.index
    c.is_same-then-is_same.result e (c.is_same.ensures.0 c.if-is_same.true) c.is_same-then-is_same.ensures w

pub returns-then-to-from-clause-compared : goal.returns-then-to-from-clause-compared
returns-then-to-from-clause-compared c = λ k e w. (
  (λ z. absurd (cc)),
  λ z. other_index (heap_of c.args.flat.now) (port_by c.args.left) (port_by c.args.right) c.requires.valid c.args.pairs.now k c.args.port.atom c.args.other.atom c.args.port.index c.args.other.index
      (port_by c.other-to.result) (port_by c.other-from.result) e (port_differs c.is_same.ensures.1 c.if-is_same.false) (port_differs c.is_same-2.ensures.1 c.if-is_same-2.false) c.other-to.ensures c.other-from.ensures w c.if-to-from.true,
)

pub join-requires-clause-left : goal.join-requires-clause-left
join-requires-clause-left c = c.requires.places.0 _ (linked_to (heap_of c.args.flat.now) c.args.port.atom c.args.port.index (port_by c.other-to.result) c.requires.valid c.other-to.ensures)

pub join-requires-clause-right : goal.join-requires-clause-right
join-requires-clause-right c = c.requires.places.1 _ (linked_to (heap_of c.args.flat.now) c.args.other.atom c.args.other.index (port_by c.other-from.result) c.requires.valid c.other-from.ensures)

pub returns-clause-compared : goal.returns-clause-compared
returns-clause-compared c = IfOk-weaker c.join.result _ _ (λ made joins k e w. made_pair (heap_of c.args.flat.now) (port_by c.args.left) (port_by c.args.right) c.requires.valid c.args.pairs.now k c.args.port.atom c.args.other.atom c.args.port.index c.args.other.index
    (port_by c.other-to.result) (port_by c.other-from.result) e (port_differs c.is_same.ensures.1 c.if-is_same.false) (port_differs c.is_same-2.ensures.1 c.if-is_same-2.false) c.other-to.ensures c.other-from.ensures w c.join.new.self made c.if-to-from.false joins) c.join.ensures.joined
