use Rattle.std.proofs.Common.{refl}
use Rattle.lmn_store_heap.specs.Sound.{flat}
use Rattle.lmn_store_heap.specs.Trees.{tree_of}
use Rattle.lmn_print_plain.proofs.OrderLemmas.{nearer, tree_there}
use Rattle.lmn_print_plain.proofs.order.first_from.Goals as goal

pub loop-atom-init : goal.loop-atom-init
loop-atom-init g c = record { left = λ f t. refl; there = c.requires.mem }

pub loop-atom-smaller : goal.loop-atom-smaller
loop-atom-smaller g c =
    let h = g.S.LinkStore.heap c.args.store.now in
    nearer (g.S.LinkStore.mem_id c.loop-atom.at) (g.S.LinkStore.mem_id c.in-Some-next_mem_printed.next) (flat (tree_of h))
    (c.in-Some-next_mem_printed.ensures.list (tree_of h) (tree_there h c.root-root.ensures.sound c.root-root.ensures.few c.requires.tree.0 c.requires.tree.1))
