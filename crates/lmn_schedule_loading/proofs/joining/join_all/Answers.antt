use Rattle.std.proofs.Common.{◌∙◌, ◌<◌, ◌≤◌, ◌≡◌, ℕ, sym, subst, length, arith}
use Rattle.lmn_congruence_splice.specs.Classes.{class_of}
use Rattle.lmn_schedule_loading.specs.Joining.{held_at}
use Rattle.lmn_schedule_loading.proofs.JoiningSteps.{meets_none, may, below_here, below_next, meets_next, meets_all}
use Rattle.lmn_schedule_loading.proofs.joining.join_all.Goals as goal

pub loop-linked-init : goal.loop-linked-init
loop-linked-init g c = record {
  size = c.in_ok-classes.ensures.0;
  held = c.in_ok-held.ensures.0;
  forest = c.in_ok-classes.ensures.1;
  class = c.in_ok-classes.ensures.2;
  below = c.requires.ports;
  meets = meets_none g.S.LinkStore.atom_id (class_of c.args.connectors.now) c.args.ports.now (g.S.LinkStore.heap c.args.store.now) c.in_ok-held.held c.args.size c.in_ok-held.ensures.0 c.in_ok-held.ensures.1 c.requires.free;
}

pub find-class-requires-clause-forest : goal.find-class-requires-clause-forest
find-class-requires-clause-forest g c = c.loop-linked.invariant.forest

pub find-class-requires-clause-below : goal.find-class-requires-clause-below
find-class-requires-clause-below g c =
    subst (λ n. c.linked-item.result.1 < n) (sym c.loop-linked.invariant.size)
    (below_here g.S.LinkStore.atom_id c.args.size c.args.ports.now c.loop-linked.linked-index c.linked-item.result c.loop-linked-test.true c.linked-item.is c.loop-linked.invariant.below)

class_fits : (class link size held : ℕ) → class ≤ link → link < size → held ≡ size → class < held
class_fits class link size held r l e = omega arith

pub meet-requires-clause-class : goal.meet-requires-clause-class
meet-requires-clause-class g c =
    class_fits c.find-class.result c.linked-item.result.1 c.args.size (length c.loop-linked.held) c.find-class.ensures.below
    (below_here g.S.LinkStore.atom_id c.args.size c.args.ports.now c.loop-linked.linked-index c.linked-item.result c.loop-linked-test.true c.linked-item.is c.loop-linked.invariant.below) c.loop-linked.invariant.held

pub meet-requires-clause-may : goal.meet-requires-clause-may
meet-requires-clause-may g c =
    let class = c.find-class.ensures.class (class_of c.args.connectors.now) c.loop-linked.invariant.class in
    may g.S.LinkStore.atom_id (class_of c.args.connectors.now) c.args.ports.now c.loop-linked.linked-index c.find-class.result c.linked-item.result (g.S.LinkStore.heap c.args.store.now) (g.S.LinkStore.heap c.loop-linked.store)
    (held_at g.S.LinkStore.atom_id c.loop-linked.held) c.loop-linked-test.true c.linked-item.is class.1 c.loop-linked.invariant.meets

pub loop-linked-preserved : goal.loop-linked-preserved
loop-linked-preserved g c =
    let class = c.find-class.ensures.class (class_of c.args.connectors.now) c.loop-linked.invariant.class in
    record {
      size = c.find-class.ensures.length ∙ c.loop-linked.invariant.size;
      held = c.meet.ensures.size ∙ c.loop-linked.invariant.held;
      forest = c.find-class.ensures.forest;
      class = class.0;
      below = below_next g.S.LinkStore.atom_id c.args.size c.args.ports.now c.loop-linked.linked-index c.linked-item.result c.loop-linked-test.true c.linked-item.is c.loop-linked.invariant.below;
      meets = meets_next g.S.LinkStore.atom_id (class_of c.args.connectors.now) c.args.ports.now c.loop-linked.linked-index c.find-class.result c.linked-item.result (g.S.LinkStore.heap c.args.store.now) (g.S.LinkStore.heap c.loop-linked.store)
          (held_at g.S.LinkStore.atom_id c.loop-linked.held) c.loop-linked-test.true c.linked-item.is class.1 c.loop-linked.invariant.meets (g.S.LinkStore.heap c.meet.new.store) (held_at g.S.LinkStore.atom_id c.meet.new.held) c.meet.ensures.heap c.meet.ensures.held;
    }

pub returns : goal.returns
returns g c = meets_all g.S.LinkStore.atom_id c.args.ports.now c.args.connectors.now c.loop-linked.linked-index (g.S.LinkStore.heap c.args.store.now) (g.S.LinkStore.heap c.loop-linked.store) (held_at g.S.LinkStore.atom_id c.loop-linked.held) c.loop-linked-test.false c.requires.twice c.loop-linked.invariant.meets
