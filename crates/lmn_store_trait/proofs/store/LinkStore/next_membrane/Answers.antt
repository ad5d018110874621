use Rattle.std.proofs.Common.{sym, arith}
use Rattle.lmn_store_trait.proofs.Climbs.{walk_begins, walk_climbs, walk_finds, walk_ends, walk_stands, walk_stops}
use Rattle.lmn_store_heap.proofs.Trees.{enters}
use Rattle.lmn_store_trait.proofs.store.LinkStore.next_membrane.Goals as goal

pub returns-in-Some : goal.returns-in-Some
returns-in-Some g c = λ f t. enters (g.Self.LinkStore.heap c.args.self.now) c.root-root.ensures.sound f t (g.Self.LinkStore.mem_id c.args.m) (g.Self.LinkStore.mem_id c.in-Some.inner)
    (t.all (g.Self.LinkStore.mem_id c.args.m) c.requires.membrane) c.in-Some.ensures.list

pub loop-step-init : goal.loop-step-init
loop-step-init g c = record { walk = walk_begins (g.Self.LinkStore.heap c.args.self.now) c.root-root.ensures.sound (g.Self.LinkStore.mem_id c.args.m) c.requires.membrane (sym (c.in_default.ensures.list)) }

pub parent-requires : goal.parent-requires
parent-requires g c = walk_stands (g.Self.LinkStore.heap c.args.self.now) c.root-root.ensures.sound (g.Self.LinkStore.mem_id c.args.m) c.loop-step.step (g.Self.LinkStore.mem_id c.loop-step.at) c.requires.valid c.loop-step.invariant.walk

pub returns-in-Some-next_mem : goal.returns-in-Some-next_mem
returns-in-Some-next_mem g c = walk_finds (g.Self.LinkStore.heap c.args.self.now) c.root-root.ensures.sound (g.Self.LinkStore.mem_id c.args.m) c.loop-step.step (g.Self.LinkStore.mem_id c.loop-step.at) (g.Self.LinkStore.mem_id c.in-Some-parent.parent) (g.Self.LinkStore.mem_id c.in-Some-next_mem.next)
    c.in-Some-parent.ensures (c.in-Some-next_mem.ensures.list (g.Self.LinkStore.mem_id c.in-Some-parent.parent) c.in-Some-parent.ensures) c.loop-step.invariant.walk

pub returns-in-None : goal.returns-in-None
returns-in-None g c = walk_ends (g.Self.LinkStore.heap c.args.self.now) c.root-root.ensures.sound (g.Self.LinkStore.mem_id c.args.m) c.loop-step.step (g.Self.LinkStore.mem_id c.loop-step.at) c.in-None.ensures c.loop-step.invariant.walk

pub loop-step-preserved : goal.loop-step-preserved
loop-step-preserved g c = record {
  walk = walk_climbs (g.Self.LinkStore.heap c.args.self.now) c.root-root.ensures.sound (g.Self.LinkStore.mem_id c.args.m) c.loop-step.step (g.Self.LinkStore.mem_id c.loop-step.at) (g.Self.LinkStore.mem_id c.in-Some-parent.parent)
      c.in-Some-parent.ensures (c.in-None-next_mem.ensures.list (g.Self.LinkStore.mem_id c.in-Some-parent.parent) c.in-Some-parent.ensures) c.loop-step.invariant.walk;
}

pub returns : goal.returns
returns g c = walk_stops (g.Self.LinkStore.heap c.args.self.now) c.root-root.ensures.sound (g.Self.LinkStore.mem_id c.args.m) c.loop-step.step (g.Self.LinkStore.mem_id c.loop-step.at) c.requires.valid c.root-root.ensures.few
    (let f = c.loop-step-test.false in omega (arith, f)) c.loop-step.invariant.walk
