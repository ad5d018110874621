use Rattle.std.proofs.Common.{◌≡◌, ◌+◌, Some, length, arith, ap, subst}
use Rattle.std.specs.Prelude.{IfSome}
use Rattle.std.specs.Option.{option_map}
use Rattle.lmn_store_heap.specs.Lists.{from}
use Rattle.lmn_store_heap.specs.Heap.{functor_of, home_of, atoms_in}
use Rattle.lmn_store_heap.specs.Functors.{with_functor}
use Rattle.lmn_machine.proofs.Calling.{if_same}
use Rattle.lmn_machine.proofs.Sufficing.{walked_on}
use Rattle.lmn_machine.proofs.enough.holds_fewer_atoms.Goals as goal

pub loop-step-init : goal.loop-step-init
loop-step-init g c = record {
  walked = (let k = ap length c.first_with-candidate.ensures.list in omega (arith, k));
  functor = c.first_with-candidate.ensures.functor;
  home = c.first_with-candidate.ensures.home;
}

pub loop-step-preserved : goal.loop-step-preserved
loop-step-preserved g c =
    let functor = subst (λ o. IfSome o (λ a. functor_of (g.S.LinkStore.heap c.args.store.now) (g.S.LinkStore.atom_id a) ≡ Some c.args.functor)) c.in-Some.is c.loop-step.invariant.functor in
    let home = subst (λ o. IfSome o (λ a. home_of (g.S.LinkStore.heap c.args.store.now) (g.S.LinkStore.atom_id a) ≡ Some (g.S.LinkStore.mem_id c.args.m))) c.in-Some.is c.loop-step.invariant.home in
    let all = with_functor (g.S.LinkStore.heap c.args.store.now) c.args.functor (atoms_in (g.S.LinkStore.heap c.args.store.now) (g.S.LinkStore.mem_id c.args.m)) in
    record {
      walked = walked_on c.loop-step.step (g.S.LinkStore.atom_id c.in-Some.a) (option_map g.S.LinkStore.atom_id c.next_with-candidate.result) all
          (subst (λ o. c.loop-step.step + length (from (option_map g.S.LinkStore.atom_id o) all) ≡ length all) c.in-Some.is c.loop-step.invariant.walked)
          (c.next_with-candidate.ensures.list (g.S.LinkStore.mem_id c.args.m) c.args.functor home functor);
      functor = if_same (λ a. functor_of (g.S.LinkStore.heap c.args.store.now) (g.S.LinkStore.atom_id a)) c.in-Some.a (Some c.args.functor) c.next_with-candidate.result c.next_with-candidate.ensures.functor functor;
      home = if_same (λ a. home_of (g.S.LinkStore.heap c.args.store.now) (g.S.LinkStore.atom_id a)) c.in-Some.a (Some (g.S.LinkStore.mem_id c.args.m)) c.next_with-candidate.result c.next_with-candidate.ensures.home home;
    }

pub returns-in-None : goal.returns-in-None
returns-in-None g c = λ t.
    (let all = with_functor (g.S.LinkStore.heap c.args.store.now) c.args.functor (atoms_in (g.S.LinkStore.heap c.args.store.now) (g.S.LinkStore.mem_id c.args.m)) in
    let w = subst (λ o. c.loop-step.step + length (from (option_map g.S.LinkStore.atom_id o) all) ≡ length all) c.in-None.is c.loop-step.invariant.walked in
    let l = c.loop-step-test.true in omega (arith, w, l))
