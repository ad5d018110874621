use Rattle.std.proofs.Common.{map, ◌∙◌, ap, arith, subst, sym}
use Rattle.lmn_store_heap.specs.Heap.{IsAtom}
use Rattle.lmn_ground.specs.Rests.{own_marked}
use Rattle.lmn_ground.proofs.ListedLaws.{listed_on}
use Rattle.lmn_machine.proofs.Owning.{ground_whole, whole_ground, taken_back_own, back_own, there_own, mem_own, port_own, clean_own_all}
use Rattle.lmn_machine.proofs.whole.is_whole.Goals as goal

pub is_ground-whole-requires-clause-root : goal.is_ground-whole-requires-clause-root
is_ground-whole-requires-clause-root g c = (
  there_own (g.S.LinkStore.heap c.args.store.now) (g.S.LinkStore.heap c.mark_all.new.store) (map g.S.LinkStore.atom_id c.args.atoms.now) 1 (g.S.LinkStore.atom_id c.args.root.0) c.requires.unmarked c.mark_all.ensures c.requires.atom,
  port_own (g.S.LinkStore.heap c.args.store.now) (g.S.LinkStore.heap c.mark_all.new.store) (map g.S.LinkStore.atom_id c.args.atoms.now) 1 (g.S.LinkStore.atom_id c.args.root.0) c.args.root.1 c.requires.unmarked c.mark_all.ensures c.requires.port,
)

pub is_ground-whole-requires-clause-mem : goal.is_ground-whole-requires-clause-mem
is_ground-whole-requires-clause-mem g c = mem_own (g.S.LinkStore.heap c.args.store.now) (g.S.LinkStore.heap c.mark_all.new.store) (map g.S.LinkStore.atom_id c.args.atoms.now) 1 (g.S.LinkStore.mem_id c.args.m) c.requires.unmarked c.mark_all.ensures c.requires.membrane

pub is_ground-whole-requires-clause-clean : goal.is_ground-whole-requires-clause-clean
is_ground-whole-requires-clause-clean g c = clean_own_all (g.S.LinkStore.heap c.args.store.now) (g.S.LinkStore.heap c.mark_all.new.store) (map g.S.LinkStore.atom_id c.args.atoms.now) 1 c.requires.unmarked c.mark_all.ensures

pub mark_all-requires-2 : goal.mark_all-requires-2
mark_all-requires-2 g c = record {
  held = λ k b e. subst (λ s. IsAtom s (g.S.LinkStore.atom_id b)) (sym c.is_ground-whole.ensures.same) (there_own (g.S.LinkStore.heap c.args.store.now) (g.S.LinkStore.heap c.mark_all.new.store) (map g.S.LinkStore.atom_id c.args.atoms.now) 1 (g.S.LinkStore.atom_id b) c.requires.unmarked c.mark_all.ensures (c.requires.held k b e));
  small = omega arith;
}

pub returns-clause-whole : goal.returns-clause-whole
returns-clause-whole g c = (
  λ t. ground_whole g.S.LinkStore.atom_id (g.S.LinkStore.heap c.args.store.now) (g.S.LinkStore.heap c.mark_all.new.store) c.args.atoms.now c.requires.unmarked c.mark_all.ensures c.root-root.ensures.sound c.requires.held (g.S.LinkStore.atom_id c.args.root.0, c.args.root.1) (g.S.LinkStore.mem_id c.args.m) (c.is_ground-whole.ensures.ground.0 t),
  λ w. c.is_ground-whole.ensures.ground.1 (whole_ground g.S.LinkStore.atom_id (g.S.LinkStore.heap c.args.store.now) (g.S.LinkStore.heap c.mark_all.new.store) c.args.atoms.now c.requires.unmarked c.mark_all.ensures (g.S.LinkStore.atom_id c.args.root.0, c.args.root.1) (g.S.LinkStore.mem_id c.args.m) w),
)

pub returns-clause-same : goal.returns-clause-same
returns-clause-same g c =
    taken_back_own (g.S.LinkStore.heap c.args.store.now) (g.S.LinkStore.heap c.mark_all.new.store) (g.S.LinkStore.heap c.mark_all-2.new.store) (map g.S.LinkStore.atom_id c.args.atoms.now) c.requires.unmarked c.mark_all.ensures
    (c.mark_all-2.ensures ∙ ap (λ s. own_marked 0 (map g.S.LinkStore.atom_id c.args.atoms.now) s) c.is_ground-whole.ensures.same)

pub returns-clause-listed : goal.returns-clause-listed
returns-clause-listed g c =
    let h = g.S.LinkStore.heap c.args.store.now in
    let k = g.S.LinkStore.heap c.mark_all.new.store in
    listed_on g.S.LinkStore.atom_id k c.is_ground-whole.new.list h (λ a i. back_own h k (map g.S.LinkStore.atom_id c.args.atoms.now) 1 a c.requires.unmarked c.mark_all.ensures i) c.is_ground-whole.ensures.listed
