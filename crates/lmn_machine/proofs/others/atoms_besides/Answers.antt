use Rattle.std.proofs.Common.{refl, subst, take, ◌∙◌}
use Rattle.lmn_store_heap.specs.Heap.{atoms_in}
use Rattle.lmn_instr_code.specs.Running.{IsInSome}
use Rattle.lmn_machine.proofs.Besides.{counts_all, known, known_agrees, Fewer}
use Rattle.lmn_machine.proofs.others.atoms_besides.Goals as goal

pub loop-i-init : goal.loop-i-init
loop-i-init g c = record {
  same = refl;
  left = λ s a. counts_all (IsInSome (g.S.LinkStore.heap c.args.store.now) s (take 0 c.args.listed.now)) c.atoms-left.result (atoms_in (g.S.LinkStore.heap c.args.store.now) (g.S.LinkStore.mem_id c.args.m)) (λ b u. u)
      (c.root-root.ensures.sound.listed.atoms_once (g.S.LinkStore.mem_id c.args.m)) c.atoms-left.ensures;
}

pub overflow_sub-left : goal.overflow_sub-left
overflow_sub-left g c =
    let fewer = subst (λ h. Fewer g.S.LinkStore.atom_id g.S.LinkStore.mem_id c.args.set.now c.args.listed.now c.loop-i.i (g.S.LinkStore.mem_id c.args.m) c.atoms_more-left.result h) c.loop-i.invariant.same c.atoms_more-left.ensures.fewer in
    let s = known g.S.LinkStore.atom_id g.S.LinkStore.mem_id c.args.set.now in
    let a = known_agrees g.S.LinkStore.atom_id g.S.LinkStore.mem_id c.args.set.now in
    (fewer s c.loop-i.left a (c.loop-i.invariant.left s a)).0

pub loop-i-preserved : goal.loop-i-preserved
loop-i-preserved g c =
    let fewer = subst (λ h. Fewer g.S.LinkStore.atom_id g.S.LinkStore.mem_id c.args.set.now c.args.listed.now c.loop-i.i (g.S.LinkStore.mem_id c.args.m) c.atoms_more-left.result h) c.loop-i.invariant.same c.atoms_more-left.ensures.fewer in
    record {
      same = c.atoms_more-left.ensures.same ∙ c.loop-i.invariant.same;
      left = λ s a. (fewer s c.loop-i.left a (c.loop-i.invariant.left s a)).1;
    }
