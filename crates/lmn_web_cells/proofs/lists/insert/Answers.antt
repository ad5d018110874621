use Rattle.std.proofs.Common.{◌≡◌, ℕ, Option, Some, IsSome, sym, subst}
use Rattle.std.specs.Option.{option_map}
use Rattle.lmn_web_cells.specs.Cells.{HeldCell, with_link, cells_by}
use Rattle.lmn_web_cells.specs.CellIds.{cell_id}
use Rattle.lmn_web_cells.specs.Runs.{link_in, Line, IsHome, inserted, put_before}
use Rattle.lmn_web_cells.specs.Links.{HOME, NEXT, PREV}
use Rattle.lmn_web_cells.proofs.LineLemmas.{cell_there, before_there, there_next, still_there, still_home, if_there}
use Rattle.lmn_web_cells.proofs.InsertLemmas.{inserted_line, inserted_others, inserted_is}
use Rattle.lmn_web_cells.proofs.lists.insert.Goals as goal

pub link-prev-requires-clause-there : goal.link-prev-requires-clause-there
link-prev-requires-clause-there c = let l = c.requires.list in cell_there (cells_by c.args.cells.now) (cell_id c.args.m) c.args.e l.0 l.1 (cell_id c.args.at) l.2

pub set_link-requires-2-clause-there : goal.set_link-requires-2-clause-there
set_link-requires-2-clause-there c =
    let x = cell_id c.args.c in
    subst (λ (g : ℕ → Option HeldCell). IsSome (g x)) (sym c.set_link.ensures) (still_there (cells_by c.args.cells.now) x (with_link HOME (Some (cell_id c.args.m))) x c.requires.there)

pub set_link-requires-3-clause-there : goal.set_link-requires-3-clause-there
set_link-requires-3-clause-there c =
    let x = cell_id c.args.c in
    subst (λ (g : ℕ → Option HeldCell). IsSome (g x)) (sym c.set_link-2.ensures) (still_there (cells_by c.set_link.new.self) x (with_link PREV (option_map cell_id c.link-prev.result)) x
    (subst (λ (g : ℕ → Option HeldCell). IsSome (g x)) (sym c.set_link.ensures) (still_there (cells_by c.args.cells.now) x (with_link HOME (Some (cell_id c.args.m))) x c.requires.there)))

pub set_next-requires-clause-home : goal.set_next-requires-clause-home
set_next-requires-clause-home c =
    let f = cells_by c.args.cells.now in let x = cell_id c.args.c in let m = cell_id c.args.m in let e = c.args.e in
    subst (λ (g : ℕ → Option HeldCell). IsHome g m e) (sym c.set_link-3.ensures) (still_home (cells_by c.set_link-2.new.self) x NEXT (Some (cell_id c.args.at)) m e
    (subst (λ (g : ℕ → Option HeldCell). IsHome g m e) (sym c.set_link-2.ensures) (still_home (cells_by c.set_link.new.self) x PREV (option_map cell_id c.link-prev.result) m e
    (subst (λ (g : ℕ → Option HeldCell). IsHome g m e) (sym c.set_link.ensures) (still_home f x HOME (Some m) m e c.requires.home)))))

pub set_next-requires-clause-there : goal.set_next-requires-clause-there
set_next-requires-clause-there c =
    let l = c.requires.list in let f = cells_by c.args.cells.now in let x = cell_id c.args.c in let m = cell_id c.args.m in let e = c.args.e in let a = cell_id c.args.at in
    if_there cell_id (cells_by c.set_link-3.new.self) c.link-prev.result (link_in f a PREV) c.link-prev.ensures
    (λ q s. subst (λ (g : ℕ → Option HeldCell). IsSome (g q)) (sym c.set_link-3.ensures) (still_there (cells_by c.set_link-2.new.self) x (with_link NEXT (Some a)) q
    (subst (λ (g : ℕ → Option HeldCell). IsSome (g q)) (sym c.set_link-2.ensures) (still_there (cells_by c.set_link.new.self) x (with_link PREV (option_map cell_id c.link-prev.result)) q
    (subst (λ (g : ℕ → Option HeldCell). IsSome (g q)) (sym c.set_link.ensures) (still_there f x (with_link HOME (Some m)) q
    (cell_there f m e l.0 l.1 q (before_there f m e a l.0 l.1 l.2 q s))))))))

pub set_link-requires-4-clause-there : goal.set_link-requires-4-clause-there
set_link-requires-4-clause-there c =
    let l = c.requires.list in let m = cell_id c.args.m in let a = cell_id c.args.at in let x = cell_id c.args.c in
    subst (λ (g : ℕ → Option HeldCell). IsSome (g a)) (sym c.set_next.ensures) (there_next (cells_by c.set_link-3.new.self) m c.args.e (option_map cell_id c.link-prev.result) (Some x) a
    (subst (λ (g : ℕ → Option HeldCell). IsSome (g a)) (sym c.set_link-3.ensures) (still_there (cells_by c.set_link-2.new.self) x (with_link NEXT (Some a)) a
    (subst (λ (g : ℕ → Option HeldCell). IsSome (g a)) (sym c.set_link-2.ensures) (still_there (cells_by c.set_link.new.self) x (with_link PREV (option_map cell_id c.link-prev.result)) a
    (subst (λ (g : ℕ → Option HeldCell). IsSome (g a)) (sym c.set_link.ensures) (still_there (cells_by c.args.cells.now) x (with_link HOME (Some m)) a
    (cell_there (cells_by c.args.cells.now) m c.args.e l.0 l.1 a l.2))))))))

pub returns-clause-inserted : goal.returns-clause-inserted
returns-clause-inserted c = inserted_is _ _ _ _ _ _ (cell_id c.args.m) c.args.e (cell_id c.args.at) (cell_id c.args.c) _ c.link-prev.ensures c.set_link.ensures c.set_link-2.ensures c.set_link-3.ensures c.set_next.ensures c.set_link-4.ensures

pub returns-clause-list : goal.returns-clause-list
returns-clause-list c xs line i fresh =
    let m = cell_id c.args.m in let e = c.args.e in let x = cell_id c.args.c in let a = cell_id c.args.at in let f = cells_by c.args.cells.now in
    let same : cells_by c.set_link-4.new.self ≡ inserted f m e a x = inserted_is _ _ _ _ _ _ m e a x _ c.link-prev.ensures c.set_link.ensures c.set_link-2.ensures c.set_link-3.ensures c.set_next.ensures c.set_link-4.ensures in
    subst (λ (g : ℕ → Option HeldCell). Line g m e (put_before x a xs)) (sym same)
    (inserted_line f m e a x xs c.requires.home c.whole.ensures c.requires.there c.requires.differ line i fresh)

pub returns-clause-others : goal.returns-clause-others
returns-clause-others c xs line i fresh b k ys other away =
    let m = cell_id c.args.m in let e = c.args.e in let x = cell_id c.args.c in let a = cell_id c.args.at in let f = cells_by c.args.cells.now in
    let same : cells_by c.set_link-4.new.self ≡ inserted f m e a x = inserted_is _ _ _ _ _ _ m e a x _ c.link-prev.ensures c.set_link.ensures c.set_link-2.ensures c.set_link-3.ensures c.set_next.ensures c.set_link-4.ensures in
    subst (λ (g : ℕ → Option HeldCell). Line g b k ys) (sym same)
    (inserted_others f m e a x xs c.requires.home c.whole.ensures c.requires.there c.requires.differ line i fresh b k ys other away)
