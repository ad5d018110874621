use Rattle.std.proofs.Common.{Some, ap, sym, refl, ◌∙◌, subst}
use Rattle.std.specs.Option.{option_map}
use Rattle.lmn_store_heap.specs.Heap.{IsMem, top}
use Rattle.lmn_store_heap.specs.Lists.{from, after}
use Rattle.lmn_store_heap.specs.Sound.{flat}
use Rattle.lmn_store_heap.specs.Trees.{tree_of}
use Rattle.lmn_store_heap.proofs.Heights.{mem_of_place}
use Rattle.lmn_print_folding.specs.Chosen.{items_in}
use Rattle.lmn_print_plain.proofs.KeptLemmas.{valid_same}
use Rattle.lmn_print_plain.proofs.MarkLemmas.{tree_same, remarks_none, remarks_more}
use Rattle.lmn_print_plain.proofs.OrderLemmas.{tree_there}
use Rattle.lmn_print_plain.proofs.StoredLemmas.{atoms_fewer}
use Rattle.lmn_print.specs.Walked.{printed_items}
use Rattle.lmn_print.proofs.ItemsLeft.{room, all_numbered, left_first, left_more, left_room, left_last, next_items, next_same, none_next, root_items, walked_there, mem_before}
use Rattle.lmn_print.proofs.numbers.number_printed.Goals as goal

pub loop-next-init : goal.loop-next-init
loop-next-init g c =
    let s = g.S.LinkStore.heap c.args.store.now in
    let m = g.S.LinkStore.mem_id c.root.result in
    record {
      marks = remarks_none s;
      left = λ f tree. left_first s 0 (printed_items s (flat f)) (printed_items s (from (Some m) (flat f))) (root_items s m f tree c.root.ensures.root);
      mem = subst (IsMem s) (sym c.root.ensures.root) (mem_of_place s s.root top ((c.root.ensures.sound.listed.root s.root).1 refl));
    }

pub number_items-count-requires-clause-valid : goal.number_items-count-requires-clause-valid
number_items-count-requires-clause-valid g c = valid_same (g.S.LinkStore.heap c.args.store.now) (g.S.LinkStore.heap c.loop-next.store) c.loop-next.invariant.marks c.root-sound.ensures.sound c.requires.valid

pub number_items-count-requires-clause-walk : goal.number_items-count-requires-clause-walk
number_items-count-requires-clause-walk g c =
    let s = g.S.LinkStore.heap c.args.store.now in
    let t = g.S.LinkStore.heap c.loop-next.store in
    let id = g.S.LinkStore.mem_id in
    let m = id c.in-Some.mem in
    let r = c.loop-next.invariant.marks in
    let f = c.requires.valid.tree in
    let space = room s c.requires.valid c.root.ensures.few c.requires.printed f.0 f.1 in
    let here = left_room s 0 (printed_items s (flat f.0)) t (items_in s m) (printed_items s (after m (flat f.0))) (printed_items s (from (option_map id c.loop-next.next) (flat f.0))) c.loop-next.count space.events
    (c.loop-next.invariant.left f.0 f.1) (ap (λ o. printed_items s (from (option_map id o) (flat f.0))) c.in-Some.is) space.walked space.few in
    (here.0, walked_there s t r m here.0 here.1, here.2)

pub next_mem_printed-next-requires-clause-tree : goal.next_mem_printed-next-requires-clause-tree
next_mem_printed-next-requires-clause-tree g c =
    let s = g.S.LinkStore.heap c.args.store.now in
    let u = g.S.LinkStore.heap c.number_items-count.new.store in
    let whole = remarks_more s (g.S.LinkStore.heap c.loop-next.store) u c.loop-next.invariant.marks c.number_items-count.ensures.marks in
    (c.requires.valid.tree.0, tree_same s u whole c.requires.valid.tree.0 c.requires.valid.tree.1)

pub loop-next-smaller : goal.loop-next-smaller
loop-next-smaller g c =
    let s = g.S.LinkStore.heap c.args.store.now in
    let u = g.S.LinkStore.heap c.number_items-count.new.store in
    let whole = remarks_more s (g.S.LinkStore.heap c.loop-next.store) u c.loop-next.invariant.marks c.number_items-count.ensures.marks in
    let tree = tree_there s c.root.ensures.sound c.root.ensures.few c.requires.valid.tree.0 c.requires.valid.tree.1 in
    atoms_fewer g.S.LinkStore.mem_id c.in-Some.mem c.loop-next.next c.next_mem_printed-next.result (flat (tree_of s)) c.in-Some.is
    (c.next_mem_printed-next.ensures.list (tree_of s) (tree_same s u whole (tree_of s) tree))

pub loop-next-preserved : goal.loop-next-preserved
loop-next-preserved g c =
    let s = g.S.LinkStore.heap c.args.store.now in
    let t = g.S.LinkStore.heap c.loop-next.store in
    let u = g.S.LinkStore.heap c.number_items-count.new.store in
    let id = g.S.LinkStore.mem_id in
    let m = id c.in-Some.mem in
    let next = option_map id c.next_mem_printed-next.result in
    let r = c.loop-next.invariant.marks in
    let whole = remarks_more s t u r c.number_items-count.ensures.marks in
    record {
      marks = whole;
      left = λ f tree.
          left_more s 0 (printed_items s (flat f)) t u (items_in s m) (printed_items s (from next (flat f))) (printed_items s (from (option_map id c.loop-next.next) (flat f))) c.loop-next.count c.number_items-count.result
          r (c.loop-next.invariant.left f tree)
          (ap (λ o. printed_items s (from (option_map id o) (flat f))) c.in-Some.is ∙ next_items s m next (flat f) (c.next_mem_printed-next.ensures.list f (tree_same s u whole f tree)))
          (λ ws w. let there = walked_there s t r m ws w in (c.number_items-count.ensures.numbers ws there, c.number_items-count.ensures.few ws there));
      mem = next_same id (IsMem u) (IsMem s) (λ k i. mem_before s u whole k i) c.next_mem_printed-next.result c.next_mem_printed-next.ensures.there;
    }

pub returns-clause-numbers : goal.returns-clause-numbers
returns-clause-numbers g c = λ names table name naming f tree given printed.
    let s = g.S.LinkStore.heap c.args.store.now in
    let t = g.S.LinkStore.heap c.loop-next.store in
    let id = g.S.LinkStore.mem_id in
    all_numbered s t c.requires.valid c.requires.unmarked c.loop-next.invariant.marks c.loop-next.count names table name naming f
    (λ es w. (left_last s 0 (printed_items s (flat f)) t (printed_items s (from (option_map id c.loop-next.next) (flat f))) c.loop-next.count
    (ap (printed_items s) (none_next id c.loop-next.next (flat f) c.in_default.not-Some)) (c.loop-next.invariant.left f tree) es w).0) given printed
