use Rattle.std.proofs.Common.{ℕ, map, sym, subst}
use Rattle.lmn_ground.specs.Copies.{unmarked_all}
use Rattle.lmn_ground_parts.specs.Copies.{Copied}
use Rattle.lmn_ground.proofs.CopyLaws.{map_long}
use Rattle.lmn_ground.proofs.CopiedLaws.{first_answer, some_first, remains_none, remains_some, made_there, copies_ready, copies_numbered, joined_there, copied_all}
use Rattle.lmn_ground.proofs.ListedLaws.{first_if}
use Rattle.lmn_ground.proofs.copying.copy_marked.Goals as goal
use Rattle.lmn_base.proofs.Lists.{on_err}

pub returns-in_err-list_part-clause-err : goal.returns-in_err-list_part-clause-err
returns-in_err-list_part-clause-err g c = on_err _ _ (remains_none (g.S.LinkStore.heap c.args.store.now) (g.S.LinkStore.heap c.list_part.new.store) (map g.S.LinkStore.atom_id c.list_part.new.atoms) c.in_err-list_part.ensures.marked)

pub returns-in_err-make_copies-clause-there : goal.returns-in_err-make_copies-clause-there
returns-in_err-make_copies-clause-there g c = made_there _ _ _ c.in_ok-list_part.ensures.marked _ _ c.make_copies.ensures.some.1

pub returns-in_err-make_copies-clause-err : goal.returns-in_err-make_copies-clause-err
returns-in_err-make_copies-clause-err g c = on_err _ _ (remains_some (g.S.LinkStore.heap c.args.store.now) (g.S.LinkStore.heap c.list_part.new.store) (map g.S.LinkStore.atom_id c.list_part.new.atoms) c.in_ok-list_part.ensures.marked (g.S.LinkStore.heap c.make_copies.new.store) _ c.make_copies.ensures.some.1)

pub join_copies-requires-clause-copying : goal.join_copies-requires-clause-copying
join_copies-requires-clause-copying g c =
    copies_ready _ _ _ c.in_ok-list_part.ensures.marked _ _ _ c.in_ok-make_copies.ensures.all c.in_ok-list_part.ensures.ok (map_long g.S.LinkStore.atom_id _ _ c.in_ok-make_copies.ensures.long) c.arity-arity.ensures.sound c.root-sound.ensures.sound c.requires.outside

pub join_copies-requires-clause-numbers : goal.join_copies-requires-clause-numbers
join_copies-requires-clause-numbers g c =
    copies_numbered _ _ _ c.in_ok-list_part.ensures.marked _ _ _ c.in_ok-make_copies.ensures.all c.in_ok-list_part.ensures.ok (map_long g.S.LinkStore.atom_id _ _ c.in_ok-make_copies.ensures.long) c.arity-arity.ensures.sound c.root-sound.ensures.sound c.requires.outside

pub at-requires : goal.at-requires
at-requires g c = some_first g.S.LinkStore.atom_id (g.S.LinkStore.heap c.args.store.now) (g.S.LinkStore.atom_id c.args.root.0, c.args.root.1) c.list_part.new.atoms c.make_copies.new.copies c.in_ok-list_part.ensures.ok.part c.in_ok-make_copies.ensures.long

pub returns-clause-there : goal.returns-clause-there
returns-clause-there g c =
    joined_there _ _ _ c.in_ok-list_part.ensures.marked _ _ _ c.in_ok-make_copies.ensures.all c.in_ok-list_part.ensures.ok (map_long g.S.LinkStore.atom_id _ _ c.in_ok-make_copies.ensures.long) c.arity-arity.ensures.sound c.root-sound.ensures.sound c.requires.outside _ c.join_copies.ensures

pub returns-clause-ok : goal.returns-clause-ok
returns-clause-ok g c =
    let e = first_answer g.S.LinkStore.atom_id (g.S.LinkStore.heap c.args.store.now) (g.S.LinkStore.atom_id c.args.root.0, c.args.root.1) (map g.S.LinkStore.atom_id c.list_part.new.atoms) c.make_copies.new.copies c.at.result.now c.in_ok-list_part.ensures.ok.part c.at.ensures in
    subst (λ (z : ℕ). Copied (g.S.LinkStore.heap c.args.store.now) (unmarked_all (g.S.LinkStore.heap c.join_copies.new.store) (map g.S.LinkStore.atom_id c.list_part.new.atoms)) (g.S.LinkStore.atom_id c.args.root.0, c.args.root.1) (z, c.args.root.1)) (sym e)
    (copied_all (g.S.LinkStore.heap c.args.store.now) (g.S.LinkStore.heap c.list_part.new.store) (map g.S.LinkStore.atom_id c.list_part.new.atoms) c.in_ok-list_part.ensures.marked (g.S.LinkStore.atom_id c.args.root.0, c.args.root.1)
    (g.S.LinkStore.heap c.make_copies.new.store) (map g.S.LinkStore.atom_id c.make_copies.new.copies) c.in_ok-make_copies.ensures.all c.in_ok-list_part.ensures.ok (map_long g.S.LinkStore.atom_id _ _ c.in_ok-make_copies.ensures.long)
    c.arity-arity.ensures.sound c.root-sound.ensures.sound c.requires.outside (g.S.LinkStore.heap c.join_copies.new.store) c.join_copies.ensures c.requires.ground)

pub returns-clause-part : goal.returns-clause-part
returns-clause-part g c = c.in_ok-list_part.ensures.ok.part

pub join_copies-requires-clause-first : goal.join_copies-requires-clause-first
join_copies-requires-clause-first g c = first_if g.S.LinkStore.atom_id (g.S.LinkStore.heap c.args.store.now) (g.S.LinkStore.atom_id c.args.root.0, c.args.root.1) c.list_part.new.atoms c.in_ok-list_part.ensures.ok.part
