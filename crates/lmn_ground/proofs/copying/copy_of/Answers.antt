use Rattle.std.proofs.Common.{◌≡◌, ℕ, ◌/◌, ◌-◌, Some, subst, arith}
use Rattle.std.specs.Prelude.{slice_get}
use Rattle.lmn_ground.specs.Marks.{first_marks}
use Rattle.lmn_ground.proofs.NumberLaws.{numbered_low}
use Rattle.lmn_ground.proofs.CopyLaws.{answer_at, number_below}
use Rattle.lmn_ground.proofs.copying.copy_of.Goals as goal

pub overflow_sub-number : goal.overflow_sub-number
overflow_sub-number g c =
    let h = numbered_low (first_marks (g.S.LinkStore.heap c.args.store.now)) 2 (g.S.LinkStore.atom_id c.args.a) _ c.requires.numbers c.requires.among in
    let e = c.mark.ensures in omega (arith, h, e)

pub at-requires : goal.at-requires
at-requires g c =
    let h = number_below g.S.LinkStore.atom_id (first_marks (g.S.LinkStore.heap c.args.store.now)) 2 (g.S.LinkStore.atom_id c.args.a) c.args.atoms.now c.args.copies.now c.requires.numbers c.requires.among c.requires.long in
    let e = c.mark.ensures in omega (arith, h, e)

pub returns : goal.returns
returns g c =
    answer_at g.S.LinkStore.atom_id (first_marks (g.S.LinkStore.heap c.args.store.now)) 2 _ c.args.copies.now (g.S.LinkStore.atom_id c.args.a) _ c.requires.numbers c.requires.among
    (subst (λ (m : ℕ). slice_get c.args.copies.now (m / 256 - 2) ≡ Some c.at.result.now) c.mark.ensures c.at.ensures)
