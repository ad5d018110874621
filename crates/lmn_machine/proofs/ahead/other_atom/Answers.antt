use Rattle.std.proofs.Common.{◌≡◌, ◌≤◌, Some, arith, drop, length, subst}
use Rattle.std.specs.Prelude.{IfSome}
use Rattle.std.specs.Option.{option_map}
use Rattle.lmn_base.specs.Lists.{In}
use Rattle.lmn_store_heap.specs.Lists.{from}
use Rattle.lmn_store_heap.specs.Heap.{functor_of, home_of, atoms_in}
use Rattle.lmn_store_heap.specs.Functors.{with_functor}
use Rattle.lmn_machine.specs.Asking.{IsFitting}
use Rattle.lmn_base.proofs.Truth.{never_both}
use Rattle.lmn_machine.proofs.Differing.{told_differ}
use Rattle.lmn_machine.proofs.Calling.{if_same, none_is}
use Rattle.lmn_machine.proofs.Fitting.{left_behind, fewer_behind}
use Rattle.lmn_machine.proofs.ahead.other_atom.Goals as goal

pub loop-candidate-init : goal.loop-candidate-init
loop-candidate-init g c = record { functor = c.requires.functor; home = c.requires.home; further = omega arith; left = λ b s k t i. i }

pub returns-then-atoms_differ-clause-fits : goal.returns-then-atoms_differ-clause-fits
returns-then-atoms_differ-clause-fits g c =
    subst (λ o. IsFitting g.S.LinkStore.atom_id g.S.LinkStore.mem_id (g.S.LinkStore.heap c.args.store.now) c.args.set.now (drop c.args.at c.args.code.now) c.args.functor (g.S.LinkStore.mem_id c.args.place) c.args.start o) c.in-Some.is c.loop-candidate.invariant

pub loop-candidate-preserved : goal.loop-candidate-preserved
loop-candidate-preserved g c =
    let functor = subst (λ o. IfSome o (λ a. functor_of (g.S.LinkStore.heap c.args.store.now) (g.S.LinkStore.atom_id a) ≡ Some c.args.functor)) c.in-Some.is c.loop-candidate.invariant.functor in
    let home = subst (λ o. IfSome o (λ a. home_of (g.S.LinkStore.heap c.args.store.now) (g.S.LinkStore.atom_id a) ≡ Some (g.S.LinkStore.mem_id c.args.place))) c.in-Some.is c.loop-candidate.invariant.home in
    let all = with_functor (g.S.LinkStore.heap c.args.store.now) c.args.functor (atoms_in (g.S.LinkStore.heap c.args.store.now) (g.S.LinkStore.mem_id c.args.place)) in
    record {
      functor = if_same (λ a. functor_of (g.S.LinkStore.heap c.args.store.now) (g.S.LinkStore.atom_id a)) c.in-Some.a (Some c.args.functor) c.next_with-candidate.result c.next_with-candidate.ensures.functor functor;
      home = if_same (λ a. home_of (g.S.LinkStore.heap c.args.store.now) (g.S.LinkStore.atom_id a)) c.in-Some.a (Some (g.S.LinkStore.mem_id c.args.place)) c.next_with-candidate.result c.next_with-candidate.ensures.home home;
      further = fewer_behind (g.S.LinkStore.atom_id c.in-Some.a) (length (from (option_map g.S.LinkStore.atom_id c.args.start) all)) (option_map g.S.LinkStore.atom_id c.next_with-candidate.result) all
          (c.next_with-candidate.ensures.list (g.S.LinkStore.mem_id c.args.place) c.args.functor home functor)
          (subst (λ o. length (from (option_map g.S.LinkStore.atom_id o) all) ≤ length (from (option_map g.S.LinkStore.atom_id c.args.start) all)) c.in-Some.is c.loop-candidate.invariant.further);
      left = λ b s k t i. left_behind (s.images.atom (length c.args.set.now.atoms)) (g.S.LinkStore.atom_id c.in-Some.a) (option_map g.S.LinkStore.atom_id c.next_with-candidate.result) all
          (λ e. never_both c.atoms_differ.result (c.atoms_differ.ensures.1 (told_differ g.S.LinkStore.atom_id g.S.LinkStore.mem_id (g.S.LinkStore.heap c.args.store.now) c.args.set.now c.args.code.now c.args.at c.in-Some.a c.args.other b s c.requires.other k t e)) c.if-atoms_differ.false) (c.next_with-candidate.ensures.list (g.S.LinkStore.mem_id c.args.place) c.args.functor home functor)
          (subst (λ o. In (s.images.atom (length c.args.set.now.atoms)) (from (option_map g.S.LinkStore.atom_id o) all)) c.in-Some.is (c.loop-candidate.invariant.left b s k t i));
    }

pub returns-clause-fits : goal.returns-clause-fits
returns-clause-fits g c =
    subst (λ o. IsFitting g.S.LinkStore.atom_id g.S.LinkStore.mem_id (g.S.LinkStore.heap c.args.store.now) c.args.set.now (drop c.args.at c.args.code.now) c.args.functor (g.S.LinkStore.mem_id c.args.place) c.args.start o) (none_is c.loop-candidate.candidate c.in_default.not-Some) c.loop-candidate.invariant
