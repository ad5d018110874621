use Rattle.std.proofs.Common.{ℕ, ◌≡◌, ◌+◌, ◌*◌, ◌≤◌, ap, arith, length, refl, subst, ◌∙◌}
use Rattle.lmn_store_heap.specs.Heap.{Heap}
use Rattle.lmn_store_heap.specs.Sound.{Forest, IsTree, flat, item_count_in}
use Rattle.std.proofs.lemmas.Bool.{leb-true, le-leb}
use Rattle.lmn_schedule_strategy.proofs.Roomy.{few_both, leaves_few}
use Rattle.lmn_schedule_strategy.proofs.turning.leaves_few.Goals as goal

pub returns-then-is_roomy-clause-few : goal.returns-then-is_roomy-clause-few
returns-then-is_roomy-clause-few g c = λ r n a rests l. (
  λ _.
      (let can = c.requires.fire in
      let tree = can.matched.valid.tree in
      let count = subst (λ (k : Heap). (e : Forest) → IsTree k e → c.items-items.result + 1 ≡ item_count_in k (flat e)) (ap g.S.LinkStore.heap c.store.ensures) c.items-items.ensures in
      let few = leaves_few (g.S.LinkStore.heap c.args.machine.now.store) can.matched.valid tree.0 tree.1 g.S.LinkStore.atom_id g.S.LinkStore.mem_id c.args.machine.now.set can.held.membranes r rests
      c.args.code.now.body c.items-items.result n (count tree.0 tree.1) can.told l in
      let room = subst (λ (k : ℕ). c.items-items.result + k * (c.items-items.result + 1) ≤ c.args.size) (c.len.ensures.len ∙ ap length c.body.ensures) (c.is_roomy.ensures c.if-is_roomy.true) in
      omega (arith, few, room)),
  λ _. refl,
)

pub returns-clause-few : goal.returns-clause-few
returns-clause-few g c = λ r n a rests l.
    (let both = few_both n c.cost.result c.args.size c.requires.size (c.cost.ensures.left r n a rests l) in
    (λ t. both.0 (leb-true c.cost.result c.args.size t), λ k. le-leb c.cost.result c.args.size (both.1 k)))
