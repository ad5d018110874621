use Rattle.lmn_store_heap.proofs.Trees.{begins, climbs, ends, found}
use Rattle.lmn_print_plain.proofs.OrderLemmas.{climbs_lower}
use Rattle.lmn_print_plain.proofs.order.next_beside.Goals as goal
use Rattle.lmn_ground_parts.proofs.Common.{parent_mem as parent_there}

pub loop-parent-init : goal.loop-parent-init
loop-parent-init g c = record {
  walk = λ f t. begins (g.S.LinkStore.heap c.args.store.now) c.root-root.ensures.sound f t (g.S.LinkStore.mem_id c.args.mem) (t.all (g.S.LinkStore.mem_id c.args.mem) c.requires.mem) c.requires.none;
  there = c.requires.mem;
}

pub returns-in-Some-next_mem-clause-list : goal.returns-in-Some-next_mem-clause-list
returns-in-Some-next_mem-clause-list g c = λ f t.
    let at = g.S.LinkStore.mem_id c.loop-parent.at in
    let p = g.S.LinkStore.mem_id c.in-Some.parent in
    found (g.S.LinkStore.heap c.args.store.now) c.root-root.ensures.sound f t (g.S.LinkStore.mem_id c.args.mem) at (c.loop-parent.invariant.walk f t) p (g.S.LinkStore.mem_id c.in-Some-next_mem.next) c.in-Some.ensures (c.in-Some-next_mem.ensures.list p c.in-Some.ensures)

pub loop-parent-smaller : goal.loop-parent-smaller
loop-parent-smaller g c =
    climbs_lower (g.S.LinkStore.heap c.args.store.now) c.root-root.ensures.sound c.root-root.ensures.few c.requires.tree.0 c.requires.tree.1 (g.S.LinkStore.mem_id c.args.mem) (g.S.LinkStore.mem_id c.loop-parent.at) (g.S.LinkStore.mem_id c.in-Some.parent) c.loop-parent.invariant.walk c.in-Some.ensures

pub loop-parent-preserved : goal.loop-parent-preserved
loop-parent-preserved g c =
    let h = g.S.LinkStore.heap c.args.store.now in
    let at = g.S.LinkStore.mem_id c.loop-parent.at in
    let p = g.S.LinkStore.mem_id c.in-Some.parent in
    record {
      walk = λ f t. climbs h c.root-root.ensures.sound f t (g.S.LinkStore.mem_id c.args.mem) at (c.loop-parent.invariant.walk f t) p c.in-Some.ensures (c.in-None-next_mem.ensures.list p c.in-Some.ensures);
      there = parent_there h c.root-root.ensures.sound at p c.in-Some.ensures;
    }

pub returns-in-None-clause-list : goal.returns-in-None-clause-list
returns-in-None-clause-list g c = λ f t.
    ends (g.S.LinkStore.heap c.args.store.now) c.root-root.ensures.sound f t (g.S.LinkStore.mem_id c.args.mem) (g.S.LinkStore.mem_id c.loop-parent.at) (c.loop-parent.invariant.walk f t) c.in-None.ensures
