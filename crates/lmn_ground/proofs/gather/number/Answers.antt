use Rattle.std.proofs.Common.{map, take, subst, sym, arith, ◌∙◌}
use Rattle.std.proofs.lemmas.Option.{slice_get_within}
use Rattle.lmn_ground.specs.Copies.{NumbersAtoms}
use Rattle.lmn_ground.specs.Marks.{first_marks}
use Rattle.lmn_ground.specs.Spread.{Numbered}
use Rattle.lmn_store_heap.specs.Heap.{IsAtom}
use Rattle.lmn_ground.proofs.CopyLaws.{length_map, marked_there, member}
use Rattle.lmn_ground.proofs.GatherRestLaws.{Numbering, few_atoms, not_before, numbering_next, numbering_none, take_long, take_next, take_past}
use Rattle.lmn_ground.proofs.gather.number.Goals as goal

pub loop-i-init : goal.loop-i-init
loop-i-init g c = record { numbering = numbering_none (g.S.LinkStore.heap c.args.store.now); there = c.requires.there }

pub overflow_mul-i : goal.overflow_mul-i
overflow_mul-i g c =
    let few = few_atoms g.S.LinkStore.atom_id (g.S.LinkStore.heap c.args.store.now) c.args.atoms.now c.root-root.ensures.few c.requires.once c.requires.there in
    let low = slice_get_within c.args.atoms.now c.loop-i.i _ c.at.ensures in
    omega (arith, few, low)

pub overflow_add-i : goal.overflow_add-i
overflow_add-i g c =
    let few = few_atoms g.S.LinkStore.atom_id (g.S.LinkStore.heap c.args.store.now) c.args.atoms.now c.root-root.ensures.few c.requires.once c.requires.there in
    let low = slice_get_within c.args.atoms.now c.loop-i.i _ c.at.ensures in
    omega (arith, few, low)

pub set_mark-requires-clause-atom : goal.set_mark-requires-clause-atom
set_mark-requires-clause-atom g c = c.loop-i.invariant.there _ (member g.S.LinkStore.atom_id c.args.atoms.now _ _ c.at.ensures)

pub loop-i-preserved : goal.loop-i-preserved
loop-i-preserved g c =
    let s = g.S.LinkStore.heap c.args.store.now in
    let u = g.S.LinkStore.heap c.set_mark.new.self in
    let x = g.S.LinkStore.atom_id c.at.result.now in
    let in_all = member g.S.LinkStore.atom_id c.args.atoms.now _ _ c.at.ensures in
    record {
      numbering = subst (Numbering s u) (sym (take_next g.S.LinkStore.atom_id c.args.atoms.now c.loop-i.i _ c.at.ensures))
          (numbering_next s (g.S.LinkStore.heap c.loop-i.store) u (map g.S.LinkStore.atom_id (take c.loop-i.i c.args.atoms.now)) x c.loop-i.i c.loop-i.invariant.numbering
          (not_before g.S.LinkStore.atom_id c.args.atoms.now c.loop-i.i _ c.at.ensures c.requires.once) c.set_mark.ensures
          (sym (length_map g.S.LinkStore.atom_id (take c.loop-i.i c.args.atoms.now) ∙ take_long c.args.atoms.now c.loop-i.i _ c.at.ensures))
          (c.requires.clean x in_all) (c.requires.there x in_all) (c.requires.ports x in_all));
      there = λ y k. subst (λ h. IsAtom h y) (sym c.set_mark.ensures) (marked_there (g.S.LinkStore.heap c.loop-i.store) x 0 _ (map g.S.LinkStore.atom_id c.args.atoms.now) c.loop-i.invariant.there y k);
    }

pub returns-clause-marked : goal.returns-clause-marked
returns-clause-marked g c =
    subst (λ zs. NumbersAtoms (g.S.LinkStore.heap c.args.store.now) (g.S.LinkStore.heap c.loop-i.store) (map g.S.LinkStore.atom_id zs)) (take_past c.args.atoms.now c.loop-i.i (omega arith)) c.loop-i.invariant.numbering.marked

pub returns-clause-numbers : goal.returns-clause-numbers
returns-clause-numbers g c =
    subst (λ zs. Numbered (first_marks (g.S.LinkStore.heap c.loop-i.store)) 2 (map g.S.LinkStore.atom_id zs)) (take_past c.args.atoms.now c.loop-i.i (omega arith)) c.loop-i.invariant.numbering.numbers
