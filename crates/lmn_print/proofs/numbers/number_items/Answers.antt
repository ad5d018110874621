use Rattle.std.proofs.Common.{◌≡◌, Some, true, ap, sym, ◌∙◌, subst}
use Rattle.std.specs.Option.{option_map}
use Rattle.lmn_print_folding.specs.Marks.{is_item}
use Rattle.lmn_print_folding.proofs.NumberedWalks.{item_same}
use Rattle.lmn_store_heap.specs.Heap.{home_of}
use Rattle.lmn_store_heap.specs.Lists.{after, from}
use Rattle.lmn_print_folding.specs.Chosen.{items_in}
use Rattle.lmn_print_plain.proofs.KeptLemmas.{valid_same}
use Rattle.lmn_print_plain.proofs.MarkLemmas.{home_same, remarks_none, remarks_more}
use Rattle.lmn_print_plain.proofs.StoredLemmas.{atoms_fewer}
use Rattle.lmn_print.proofs.ItemsLeft.{ItemsLeft, left_first, left_last, next_walk, next_done, next_same, items_behind, none_next}
use Rattle.lmn_print.proofs.numbers.number_items.Goals as goal

pub loop-next-init : goal.loop-next-init
loop-next-init g c =
    let s = g.S.LinkStore.heap c.args.store.now in
    let xs = items_in s (g.S.LinkStore.mem_id c.args.mem) in
    record {
      marks = remarks_none s;
      left = left_first s c.args.count xs (from (option_map g.S.LinkStore.atom_id c.first_item-next.result) xs) c.first_item-next.ensures.list;
      home = c.first_item-next.ensures.home;
      item = c.first_item-next.ensures.item;
    }

pub number_item-numbered-requires-clause-valid : goal.number_item-numbered-requires-clause-valid
number_item-numbered-requires-clause-valid g c = valid_same (g.S.LinkStore.heap c.args.store.now) (g.S.LinkStore.heap c.loop-next.store) c.loop-next.invariant.marks c.root-sound.ensures.sound c.requires.valid

pub number_item-numbered-requires-clause-walk : goal.number_item-numbered-requires-clause-walk
number_item-numbered-requires-clause-walk g c =
    let s = g.S.LinkStore.heap c.args.store.now in
    let xs = items_in s (g.S.LinkStore.mem_id c.args.mem) in
    let a = g.S.LinkStore.atom_id c.in-Some.item in
    next_walk s (g.S.LinkStore.heap c.loop-next.store) c.args.count xs (from (option_map g.S.LinkStore.atom_id c.loop-next.next) xs) (after a xs) a c.loop-next.numbered c.requires.walk.0
    c.loop-next.invariant.marks c.loop-next.invariant.left (ap (λ o. from (option_map g.S.LinkStore.atom_id o) xs) c.in-Some.is) c.requires.walk.1 c.requires.walk.2

pub loop-next-smaller : goal.loop-next-smaller
loop-next-smaller g c =
    let s = g.S.LinkStore.heap c.args.store.now in
    let u = g.S.LinkStore.heap c.number_item-numbered.new.store in
    let m = g.S.LinkStore.mem_id c.args.mem in
    let whole = remarks_more s (g.S.LinkStore.heap c.loop-next.store) u c.loop-next.invariant.marks c.number_item-numbered.ensures.marks in
    atoms_fewer g.S.LinkStore.atom_id c.in-Some.item c.loop-next.next c.next_item-next.result (items_in s m) c.in-Some.is
    (items_behind s u whole m (g.S.LinkStore.atom_id c.in-Some.item) (option_map g.S.LinkStore.atom_id c.next_item-next.result) c.next_item-next.ensures.list)

pub loop-next-preserved : goal.loop-next-preserved
loop-next-preserved g c =
    let s = g.S.LinkStore.heap c.args.store.now in
    let t = g.S.LinkStore.heap c.loop-next.store in
    let u = g.S.LinkStore.heap c.number_item-numbered.new.store in
    let m = g.S.LinkStore.mem_id c.args.mem in
    let xs = items_in s m in
    let a = g.S.LinkStore.atom_id c.in-Some.item in
    let next = option_map g.S.LinkStore.atom_id c.next_item-next.result in
    let whole = remarks_more s t u c.loop-next.invariant.marks c.number_item-numbered.ensures.marks in
    record {
      marks = whole;
      left = subst (λ ys. ItemsLeft s c.args.count xs u ys c.number_item-numbered.result) (sym (items_behind s u whole m a next c.next_item-next.ensures.list))
          (next_done s t u c.args.count xs (from (option_map g.S.LinkStore.atom_id c.loop-next.next) xs) (after a xs) a c.loop-next.numbered c.number_item-numbered.result c.loop-next.invariant.marks c.loop-next.invariant.left
          (ap (λ o. from (option_map g.S.LinkStore.atom_id o) xs) c.in-Some.is) c.number_item-numbered.ensures.numbers c.number_item-numbered.ensures.few);
      home = next_same g.S.LinkStore.atom_id (λ b. home_of u b ≡ Some m) (λ b. home_of s b ≡ Some m) (λ b e. sym (home_same s u whole b) ∙ e) c.next_item-next.result c.next_item-next.ensures.home;
      item = next_same g.S.LinkStore.atom_id (λ b. is_item u b ≡ true) (λ b. is_item s b ≡ true) (λ b e. sym (item_same s u whole b) ∙ e) c.next_item-next.result c.next_item-next.ensures.item;
    }

pub returns-clause-numbers : goal.returns-clause-numbers
returns-clause-numbers g c = λ es w.
    let s = g.S.LinkStore.heap c.args.store.now in
    let xs = items_in s (g.S.LinkStore.mem_id c.args.mem) in
    (left_last s c.args.count xs (g.S.LinkStore.heap c.loop-next.store) (from (option_map g.S.LinkStore.atom_id c.loop-next.next) xs) c.loop-next.numbered (none_next g.S.LinkStore.atom_id c.loop-next.next xs c.in_default.not-Some)
    c.loop-next.invariant.left es w).0

pub returns-clause-few : goal.returns-clause-few
returns-clause-few g c = λ es w.
    let s = g.S.LinkStore.heap c.args.store.now in
    let xs = items_in s (g.S.LinkStore.mem_id c.args.mem) in
    (left_last s c.args.count xs (g.S.LinkStore.heap c.loop-next.store) (from (option_map g.S.LinkStore.atom_id c.loop-next.next) xs) c.loop-next.numbered (none_next g.S.LinkStore.atom_id c.loop-next.next xs c.in_default.not-Some)
    c.loop-next.invariant.left es w).1
