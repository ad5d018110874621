use Rattle.std.proofs.Common.{map, ◌∙◌, arith}
use Rattle.lmn_ground.proofs.CopiedLaws.{new_before, numbers_there}
use Rattle.lmn_ground.proofs.RestCopyLaws.{on_error, on_ok, stays_numbered, unmarked_joined, unmarked_made}
use Rattle.lmn_ground.proofs.cells.copy_atoms.Goals as goal

pub copy_numbered-copied-requires : goal.copy_numbered-copied-requires
copy_numbered-copied-requires g c =
    let s = g.S.LinkStore.heap c.args.store.now in
    let u = g.S.LinkStore.heap c.number.new.store in
    let xs = map g.S.LinkStore.atom_id c.args.atoms.now in
    let marks = c.number.ensures.marked in
    record {
      there = numbers_there s u xs marks;
      once = c.requires.once;
      some = c.requires.some;
      numbers = c.number.ensures.numbers;
      stays = stays_numbered s u xs marks c.requires.stays;
    }

pub returns-clause-ok : goal.returns-clause-ok
returns-clause-ok g c =
    let s = g.S.LinkStore.heap c.args.store.now in
    let u = g.S.LinkStore.heap c.number.new.store in
    let xs = map g.S.LinkStore.atom_id c.args.atoms.now in
    let marks = c.number.ensures.marked in
    on_ok c.copy_numbered-copied.result _ _ (λ w. (w.0, new_before s u xs marks w.0 w.1.fresh, w.2, c.clear.ensures ∙ unmarked_joined s u xs marks (g.S.LinkStore.heap c.copy_numbered-copied.new.store) w.0 0 w.1 w.3)) c.copy_numbered-copied.ensures.ok

pub returns-clause-err : goal.returns-clause-err
returns-clause-err g c =
    let s = g.S.LinkStore.heap c.args.store.now in
    let u = g.S.LinkStore.heap c.number.new.store in
    let xs = map g.S.LinkStore.atom_id c.args.atoms.now in
    let marks = c.number.ensures.marked in
    on_error c.copy_numbered-copied.result _ _ (λ w. (w.0, new_before s u xs marks w.0 w.1.fresh, c.clear.ensures ∙ unmarked_made s u xs marks (g.S.LinkStore.heap c.copy_numbered-copied.new.store) w.0 w.1)) c.copy_numbered-copied.ensures.err

pub number-requires-clause-ports : goal.number-requires-clause-ports
number-requires-clause-ports g c = λ x i. let m = c.root-sound.ensures.sound.shaped.marks x (c.requires.there x i) in omega (arith, m)
