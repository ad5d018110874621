use Rattle.std.proofs.Common.{◌++◌, [], ap, arith, refl, sym, ◌∙◌}
use Rattle.lmn_ground.specs.Rests.{own_marked}
use Rattle.lmn_machine_commit.proofs.Inside.{atom_now, mem_now, atoms_more, atoms_all}
use Rattle.lmn_machine_commit.proofs.Owning.{own_append}
use Rattle.lmn_machine_commit.proofs.marking.mark_atoms.Goals as goal

pub mark_inside-requires-clause-atom : goal.mark_inside-requires-clause-atom
mark_inside-requires-clause-atom g c = atom_now (g.S.LinkStore.heap c.args.store.now) c.requires.marked c.loop-i.invariant.0 c.args.mark (g.S.LinkStore.heap c.loop-i.store) c.loop-i.invariant.2 (g.S.LinkStore.atom_id c.at.result) (c.requires.held _ _ c.at.ensures)

pub mark_inside-requires-clause-membrane : goal.mark_inside-requires-clause-membrane
mark_inside-requires-clause-membrane g c = mem_now (g.S.LinkStore.heap c.args.store.now) c.requires.marked c.loop-i.invariant.0 c.args.mark (g.S.LinkStore.heap c.loop-i.store) c.loop-i.invariant.2 (g.S.LinkStore.mem_id c.args.m) c.requires.membrane

pub loop-i-init : goal.loop-i-init
loop-i-init g c = ([], λ b. (λ i. absurd i, λ w. (let l = w.2 in omega (arith, l))), refl)

pub loop-i-preserved : goal.loop-i-preserved
loop-i-preserved g c =
    let inv = c.loop-i.invariant in
    let w = c.mark_inside.ensures in
    let s = g.S.LinkStore.heap c.args.store.now in (
      inv.0 ++ w.0,
      λ b. atoms_more s c.requires.marked inv.0 c.args.mark (g.S.LinkStore.heap c.loop-i.store) inv.2 g.S.LinkStore.atom_id c.args.atoms.now c.loop-i.i c.at.result (g.S.LinkStore.mem_id c.args.m) b c.at.ensures (inv.1 b) w.0 (w.1 b),
      w.2 ∙ ap (λ k. own_marked c.args.mark w.0 k) inv.2 ∙ sym (own_append c.args.mark inv.0 w.0 s),
    )

pub returns : goal.returns
returns g c =
    let inv = c.loop-i.invariant in
    let s = g.S.LinkStore.heap c.args.store.now in
    let n = c.loop-i-test.false in
    let e = c.len-i-end.ensures in
    (inv.0, λ b. (let f = atoms_all g.S.LinkStore.atom_id s c.args.atoms.now (g.S.LinkStore.mem_id c.args.m) c.loop-i.i b (omega (arith, n, e)) in (λ i. f.0 ((inv.1 b).0 i), λ w. (inv.1 b).1 (f.1 w))), inv.2)
