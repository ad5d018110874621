use Rattle.std.specs.Option.{option_map}
use Rattle.lmn_store_heap.specs.Heap.{IsInPlace}
use Rattle.lmn_print_plain.proofs.MarkLemmas.{atom_same, remarks_none, remarks_more, tree_same}
use Rattle.lmn_print_plain.proofs.NumberingLemmas.{numbering_first, numbering_more, numbering_room, numbering_last, numbering_at, numbering_none, next_place, place_before, numbers_fewer}
use Rattle.lmn_print_plain.proofs.numbers.number_links.Goals as goal
use Rattle.lmn_store_heap.proofs.Common.{in_place_atom as place_atom}
use Rattle.lmn_base.proofs.Lists.{holds_of_item}

pub first_printed-next-requires : goal.first_printed-next-requires
first_printed-next-requires g c = c.requires.tree

pub loop-next-init : goal.loop-next-init
loop-next-init g c =
    let s = g.S.LinkStore.heap c.args.store.now in
    record {
      marks = remarks_none s;
      numbering = λ f tree. numbering_first s c.root-root.ensures.sound c.root-root.ensures.few f tree (option_map g.S.LinkStore.atom_id c.first_printed-next.result) (c.first_printed-next.ensures.list f tree);
      place = c.first_printed-next.ensures.place;
    }

pub number_ports-count-requires-clause-atom : goal.number_ports-count-requires-clause-atom
number_ports-count-requires-clause-atom g c =
    let s = g.S.LinkStore.heap c.args.store.now in
    let a = g.S.LinkStore.atom_id c.in-Some.atom in
    atom_same s (g.S.LinkStore.heap c.loop-next.store) c.loop-next.invariant.marks a (place_atom s a (holds_of_item (λ b. IsInPlace s (g.S.LinkStore.atom_id b)) c.loop-next.next c.in-Some.atom c.in-Some.is c.loop-next.invariant.place))

pub number_ports-count-requires-clause-count : goal.number_ports-count-requires-clause-count
number_ports-count-requires-clause-count g c =
    let s = g.S.LinkStore.heap c.args.store.now in
    let t = g.S.LinkStore.heap c.loop-next.store in
    let tree = c.requires.tree in
    numbering_room s t c.loop-next.count (g.S.LinkStore.atom_id c.in-Some.atom) tree.0
    (numbering_at g.S.LinkStore.atom_id s t c.loop-next.count c.loop-next.next c.in-Some.atom tree.0 c.in-Some.is (c.loop-next.invariant.numbering tree.0 tree.1))

pub next_printed-next-requires-clause-tree : goal.next_printed-next-requires-clause-tree
next_printed-next-requires-clause-tree g c =
    let s = g.S.LinkStore.heap c.args.store.now in
    let t = g.S.LinkStore.heap c.loop-next.store in
    let u = g.S.LinkStore.heap c.number_ports-count.new.store in
    let tree = c.requires.tree in
    (tree.0, tree_same s u (remarks_more s t u c.loop-next.invariant.marks c.number_ports-count.ensures.marks) tree.0 tree.1)

pub next_printed-next-requires-clause-place : goal.next_printed-next-requires-clause-place
next_printed-next-requires-clause-place g c =
    let s = g.S.LinkStore.heap c.args.store.now in
    let t = g.S.LinkStore.heap c.loop-next.store in
    let u = g.S.LinkStore.heap c.number_ports-count.new.store in
    place_before s u (remarks_more s t u c.loop-next.invariant.marks c.number_ports-count.ensures.marks) (g.S.LinkStore.atom_id c.in-Some.atom)
    (holds_of_item (λ b. IsInPlace s (g.S.LinkStore.atom_id b)) c.loop-next.next c.in-Some.atom c.in-Some.is c.loop-next.invariant.place)

pub loop-next-smaller : goal.loop-next-smaller
loop-next-smaller g c =
    let s = g.S.LinkStore.heap c.args.store.now in
    let t = g.S.LinkStore.heap c.loop-next.store in
    let u = g.S.LinkStore.heap c.number_ports-count.new.store in
    let tree = c.requires.tree in
    numbers_fewer g.S.LinkStore.atom_id s u c.root-root.ensures.sound c.root-root.ensures.few (remarks_more s t u c.loop-next.invariant.marks c.number_ports-count.ensures.marks) tree.0 tree.1
    c.in-Some.atom c.loop-next.next c.next_printed-next.result c.in-Some.is c.next_printed-next.ensures.list

pub loop-next-preserved : goal.loop-next-preserved
loop-next-preserved g c =
    let id = g.S.LinkStore.atom_id in
    let s = g.S.LinkStore.heap c.args.store.now in
    let t = g.S.LinkStore.heap c.loop-next.store in
    let u = g.S.LinkStore.heap c.number_ports-count.new.store in
    let r = c.loop-next.invariant.marks in
    let q = c.number_ports-count.ensures.marks in
    let whole = remarks_more s t u r q in
    record {
      marks = whole;
      numbering = λ f tree.
          numbering_more s t u c.loop-next.count c.number_ports-count.result (id c.in-Some.atom) (option_map id c.next_printed-next.result) f r q
          (numbering_at id s t c.loop-next.count c.loop-next.next c.in-Some.atom f c.in-Some.is (c.loop-next.invariant.numbering f tree))
          c.number_ports-count.ensures.numbers c.number_ports-count.ensures.few (c.next_printed-next.ensures.list f (tree_same s u whole f tree));
      place = next_place id s u whole c.next_printed-next.result c.next_printed-next.ensures.place;
    }

pub returns-clause-marks : goal.returns-clause-marks
returns-clause-marks g c = c.loop-next.invariant.marks

pub returns-clause-numbers : goal.returns-clause-numbers
returns-clause-numbers g c = λ unmarked x of.
    let s = g.S.LinkStore.heap c.args.store.now in
    let t = g.S.LinkStore.heap c.loop-next.store in
    numbering_last s t c.requires c.loop-next.invariant.marks c.loop-next.count
    (λ f tree. numbering_none g.S.LinkStore.atom_id s t c.loop-next.count c.loop-next.next f c.in_default.not-Some (c.loop-next.invariant.numbering f tree)) unmarked x of
