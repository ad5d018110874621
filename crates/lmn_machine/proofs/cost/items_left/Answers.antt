use Rattle.std.proofs.Common.{drop, refl, sym, subst, arith, ◌∙◌, ◌≡◌, ◌+◌}
use Rattle.std.specs.Prelude.{IfSome}
use Rattle.lmn_store_heap.specs.Heap.{Heap}
use Rattle.lmn_instr_code.specs.Running.{HeadRegisters}
use Rattle.lmn_machine_registers.specs.Agreeing.{Agrees}
use Rattle.lmn_machine_commit.specs.Registers.{HasRests}
use Rattle.lmn_store_heap.specs.Sound.{Forest, IsTree, flat, item_count_in}
use Rattle.lmn_machine.specs.Costs.{AddsItems, IsSize, TakesItems}
use Rattle.lmn_base.proofs.Lists.{drop_get}
use Rattle.lmn_machine.proofs.Calling.{drop_none}
use Rattle.lmn_machine.proofs.Costing.{sum_first, sum_next, sum_last, left_over}
use Rattle.lmn_machine.proofs.cost.items_left.Goals as goal

pub loop-i-init : goal.loop-i-init
loop-i-init g c = record {
  same = refl;
  added_few = omega arith;
  taken_few = omega arith;
  kept = tt;
  adds = λ s a r. sum_first (AddsItems (g.S.LinkStore.heap c.args.store.now) s) c.args.body.now (drop 0 c.args.body.now) 0 refl refl;
  takes = λ s a r. sum_first (TakesItems (g.S.LinkStore.heap c.args.store.now) s) c.args.body.now (drop 0 c.args.body.now) 0 refl refl;
}

pub loop-i-preserved : goal.loop-i-preserved
loop-i-preserved g c =
    let ahead = drop_get c.loop-i.i c.args.body.now c.at.result.now c.at.ensures in
    let again = drop_get c.loop-i.i c.args.body.now c.at-in-loop-i.result.now c.at-in-loop-i.ensures in
    let a = c.loop-i.invariant.added_few in
    let t = c.loop-i.invariant.taken_few in
    let few = c.taken-all_taken.ensures.few in
    let from = c.from-all_added.ensures in
    record {
      same = c.taken-all_taken.ensures.same ∙ (c.added.ensures.same ∙ c.loop-i.invariant.same);
      added_few = omega (arith, a);
      taken_few = omega (arith, t, few);
      kept = subst (λ (h : Heap). IfSome c.taken-all_taken.new.kept (λ k. (s : HeadRegisters) → Agrees g.S.LinkStore.atom_id g.S.LinkStore.mem_id c.args.set.now s → IsSize h (s.images.part k.part) k.atoms)) (c.added.ensures.same ∙ c.loop-i.invariant.same) c.taken-all_taken.ensures.kept;
      adds = λ s a' r. sum_next (AddsItems (g.S.LinkStore.heap c.args.store.now) s) c.args.body.now (drop c.loop-i.i c.args.body.now) (drop (c.loop-i.i + 1) c.args.body.now) c.at.result.now c.loop-i.all_added c.added.result _ ahead
          (subst (λ h. AddsItems h s c.at.result.now c.added.result) c.loop-i.invariant.same (c.added.ensures.adds s a' (subst (λ (h : Heap). HasRests g.S.LinkStore.atom_id g.S.LinkStore.mem_id h c.args.set.now s) (sym c.loop-i.invariant.same) r))) (omega (arith, from)) (c.loop-i.invariant.adds s a' r);
      takes = λ s a' r. sum_next (TakesItems (g.S.LinkStore.heap c.args.store.now) s) c.args.body.now (drop c.loop-i.i c.args.body.now) (drop (c.loop-i.i + 1) c.args.body.now) c.at-in-loop-i.result.now c.loop-i.all_taken c.taken-all_taken.result _ again
          (subst (λ h. TakesItems h s c.at-in-loop-i.result.now c.taken-all_taken.result) (c.added.ensures.same ∙ c.loop-i.invariant.same) (c.taken-all_taken.ensures.takes s a' (subst (λ (h : Heap). HasRests g.S.LinkStore.atom_id g.S.LinkStore.mem_id h c.args.set.now s) (sym (c.added.ensures.same ∙ c.loop-i.invariant.same)) r))) refl (c.loop-i.invariant.takes s a' r);
    }

pub returns-clause-left : goal.returns-clause-left
returns-clause-left g c = λ s n a r l.
    (let h = g.S.LinkStore.heap c.args.store.now in
    let f = c.requires.valid.tree.0 in
    let tree = c.requires.valid.tree.1 in
    let none = drop_none c.args.body.now c.loop-i.i (let past = c.loop-i-test.false in let end = c.len-i-end.ensures.len in omega (arith, past, end)) in
    let adds = sum_last (AddsItems h s) c.args.body.now (drop c.loop-i.i c.args.body.now) c.loop-i.all_added none (c.loop-i.invariant.adds s a r) in
    let takes = sum_last (TakesItems h s) c.args.body.now (drop c.loop-i.i c.args.body.now) c.loop-i.all_taken none (c.loop-i.invariant.takes s a r) in
    let count = subst (λ k. (e : Forest) → IsTree k e → c.items.result + 1 ≡ item_count_in k (flat e)) c.loop-i.invariant.same c.items.ensures f tree in
    c.capped.ensures n (left_over h s c.args.body.now n c.items.result c.loop-i.all_added c.loop-i.all_taken f tree count adds takes l))

pub added-requires-clause-kept : goal.added-requires-clause-kept
added-requires-clause-kept g c = subst (λ (h : Heap). IfSome c.loop-i.kept (λ k. (s : HeadRegisters) → Agrees g.S.LinkStore.atom_id g.S.LinkStore.mem_id c.args.set.now s → IsSize h (s.images.part k.part) k.atoms)) (sym c.loop-i.invariant.same) c.loop-i.invariant.kept

pub taken-all_taken-requires-clause-kept : goal.taken-all_taken-requires-clause-kept
taken-all_taken-requires-clause-kept g c = subst (λ (h : Heap). IfSome c.added.new.kept (λ k. (s : HeadRegisters) → Agrees g.S.LinkStore.atom_id g.S.LinkStore.mem_id c.args.set.now s → IsSize h (s.images.part k.part) k.atoms)) (sym c.added.ensures.same) c.added.ensures.kept
