use Rattle.std.proofs.Common.{◌≡◌, ◌+◌, ◌++◌, ◌∷◌, [], ℕ, Option, Some, None, IsSome, sym, subst}
use Rattle.std.specs.Option.{option_map}
use Rattle.lmn_web_cells.specs.Cells.{HeldCell, with_link, cells_by}
use Rattle.lmn_web_cells.specs.CellIds.{cell_id}
use Rattle.lmn_web_cells.specs.Runs.{link_in, Line, IsHome, appended}
use Rattle.lmn_web_cells.specs.Links.{HOME, NEXT, PREV}
use Rattle.lmn_web_cells.proofs.LineLemmas.{cell_there, last_in, there_next, still_there, still_home, if_there, appended_line, appended_others, appended_is}
use Rattle.lmn_web_cells.proofs.lists.append.Goals as goal

pub set_link-requires-2-clause-there : goal.set_link-requires-2-clause-there
set_link-requires-2-clause-there c =
    let x = cell_id c.args.c in
    subst (λ (g : ℕ → Option HeldCell). IsSome (g x)) (sym c.set_link.ensures) (still_there (cells_by c.args.cells.now) x (with_link HOME (Some (cell_id c.args.m))) x c.requires.there)

pub set_link-requires-3-clause-there : goal.set_link-requires-3-clause-there
set_link-requires-3-clause-there c =
    let x = cell_id c.args.c in
    subst (λ (g : ℕ → Option HeldCell). IsSome (g x)) (sym c.set_link-2.ensures) (still_there (cells_by c.set_link.new.self) x (with_link PREV (option_map cell_id c.link-last.result)) x
    (subst (λ (g : ℕ → Option HeldCell). IsSome (g x)) (sym c.set_link.ensures) (still_there (cells_by c.args.cells.now) x (with_link HOME (Some (cell_id c.args.m))) x c.requires.there)))

pub set_next-requires-clause-home : goal.set_next-requires-clause-home
set_next-requires-clause-home c =
    let f = cells_by c.args.cells.now in let x = cell_id c.args.c in let m = cell_id c.args.m in let e = c.args.e in
    subst (λ (g : ℕ → Option HeldCell). IsHome g m e) (sym c.set_link-3.ensures) (still_home (cells_by c.set_link-2.new.self) x NEXT None m e
    (subst (λ (g : ℕ → Option HeldCell). IsHome g m e) (sym c.set_link-2.ensures) (still_home (cells_by c.set_link.new.self) x PREV (option_map cell_id c.link-last.result) m e
    (subst (λ (g : ℕ → Option HeldCell). IsHome g m e) (sym c.set_link.ensures) (still_home f x HOME (Some m) m e c.requires.home)))))

pub set_next-requires-clause-there : goal.set_next-requires-clause-there
set_next-requires-clause-there c =
    let l = c.requires.list in let f = cells_by c.args.cells.now in let x = cell_id c.args.c in let m = cell_id c.args.m in let e = c.args.e in
    if_there cell_id (cells_by c.set_link-3.new.self) c.link-last.result (link_in f m (e + 1)) c.link-last.ensures
    (λ q s. subst (λ (g : ℕ → Option HeldCell). IsSome (g q)) (sym c.set_link-3.ensures) (still_there (cells_by c.set_link-2.new.self) x (with_link NEXT None) q
    (subst (λ (g : ℕ → Option HeldCell). IsSome (g q)) (sym c.set_link-2.ensures) (still_there (cells_by c.set_link.new.self) x (with_link PREV (option_map cell_id c.link-last.result)) q
    (subst (λ (g : ℕ → Option HeldCell). IsSome (g q)) (sym c.set_link.ensures) (still_there f x (with_link HOME (Some m)) q
    (cell_there f m e l.0 l.1 q (last_in f m e l.0 l.1 q s))))))))

pub set_link-requires-4-clause-there : goal.set_link-requires-4-clause-there
set_link-requires-4-clause-there c =
    let m = cell_id c.args.m in
    subst (λ (g : ℕ → Option HeldCell). IsSome (g m)) (sym c.set_next.ensures) (there_next (cells_by c.set_link-3.new.self) m c.args.e (option_map cell_id c.link-last.result) (Some (cell_id c.args.c)) m
    (subst (λ (g : ℕ → Option HeldCell). IsSome (g m)) (sym c.set_link-3.ensures) (still_there (cells_by c.set_link-2.new.self) (cell_id c.args.c) (with_link NEXT None) m
    (subst (λ (g : ℕ → Option HeldCell). IsSome (g m)) (sym c.set_link-2.ensures) (still_there (cells_by c.set_link.new.self) (cell_id c.args.c) (with_link PREV (option_map cell_id c.link-last.result)) m
    (subst (λ (g : ℕ → Option HeldCell). IsSome (g m)) (sym c.set_link.ensures) (still_there (cells_by c.args.cells.now) (cell_id c.args.c) (with_link HOME (Some m)) m c.requires.home.there)))))))

pub returns-clause-appended : goal.returns-clause-appended
returns-clause-appended c = appended_is _ _ _ _ _ _ (cell_id c.args.m) c.args.e (cell_id c.args.c) _ c.link-last.ensures c.set_link.ensures c.set_link-2.ensures c.set_link-3.ensures c.set_next.ensures c.set_link-4.ensures

pub returns-clause-list : goal.returns-clause-list
returns-clause-list c xs line fresh =
    let m = cell_id c.args.m in let e = c.args.e in let x = cell_id c.args.c in let f = cells_by c.args.cells.now in
    let same : cells_by c.set_link-4.new.self ≡ appended f m e x = appended_is _ _ _ _ _ _ m e x _ c.link-last.ensures c.set_link.ensures c.set_link-2.ensures c.set_link-3.ensures c.set_next.ensures c.set_link-4.ensures in
    subst (λ (g : ℕ → Option HeldCell). Line g m e (xs ++ x ∷ [])) (sym same)
    (appended_line f m e x xs c.requires.home c.whole.ensures c.requires.there c.requires.differ line fresh)

pub returns-clause-others : goal.returns-clause-others
returns-clause-others c xs line fresh b k ys other away =
    let m = cell_id c.args.m in let e = c.args.e in let x = cell_id c.args.c in let f = cells_by c.args.cells.now in
    let same : cells_by c.set_link-4.new.self ≡ appended f m e x = appended_is _ _ _ _ _ _ m e x _ c.link-last.ensures c.set_link.ensures c.set_link-2.ensures c.set_link-3.ensures c.set_next.ensures c.set_link-4.ensures in
    subst (λ (g : ℕ → Option HeldCell). Line g b k ys) (sym same)
    (appended_others f m e x xs c.requires.home c.whole.ensures c.requires.there c.requires.differ line fresh b k ys other away)
