use Rattle.std.proofs.Common.{◌≡◌, ℕ, Option, None, IsSome, sym, subst}
use Rattle.std.specs.Option.{option_map}
use Rattle.lmn_store_heap.specs.Lists.{without}
use Rattle.lmn_web_cells.specs.Cells.{HeldCell, cells_by}
use Rattle.lmn_web_cells.specs.CellIds.{cell_id}
use Rattle.lmn_web_cells.specs.Runs.{link_in, Line, IsHome, unlinked}
use Rattle.lmn_web_cells.specs.Links.{NEXT}
use Rattle.lmn_web_cells.proofs.LineLemmas.{unlinked_others, cell_there, behind_there, there_next, there_prev, home_next, unlinked_line, unlinked_is, if_there}
use Rattle.lmn_web.proofs.ListedLemmas.{front_alone}
use Rattle.lmn_web.proofs.fronts.unlink_first.Goals as goal

pub link-next-requires-clause-there : goal.link-next-requires-clause-there
link-next-requires-clause-there c = let l = c.requires.list in cell_there (cells_by c.args.cells.now) (cell_id c.args.m) c.args.e l.0 l.1 (cell_id c.args.c) l.2

pub set_prev-requires-clause-home : goal.set_prev-requires-clause-home
set_prev-requires-clause-home c =
    let m = cell_id c.args.m in
    subst (λ (g : ℕ → Option HeldCell). IsHome g m c.args.e) (sym c.set_link.ensures) (home_next (cells_by c.args.cells.now) m c.args.e None (option_map cell_id c.link-next.result) m c.args.e c.requires.home)

pub set_prev-requires-clause-there : goal.set_prev-requires-clause-there
set_prev-requires-clause-there c =
    let l = c.requires.list in let f = cells_by c.args.cells.now in let m = cell_id c.args.m in
    if_there cell_id (cells_by c.set_link.new.self) c.link-next.result (link_in f (cell_id c.args.c) NEXT) c.link-next.ensures
    (λ q e. subst (λ (g : ℕ → Option HeldCell). IsSome (g q)) (sym c.set_link.ensures) (there_next f m c.args.e None (option_map cell_id c.link-next.result) q
    (cell_there f m c.args.e l.0 l.1 q (behind_there f m c.args.e (cell_id c.args.c) l.0 l.1 l.2 q e))))

pub set_link-requires-2-clause-there : goal.set_link-requires-2-clause-there
set_link-requires-2-clause-there c =
    let l = c.requires.list in let f = cells_by c.args.cells.now in let m = cell_id c.args.m in let n = option_map cell_id c.link-next.result in let x = cell_id c.args.c in
    subst (λ (g : ℕ → Option HeldCell). IsSome (g x)) (sym c.set_prev.ensures) (there_prev (cells_by c.set_link.new.self) m c.args.e n None x
    (subst (λ (g : ℕ → Option HeldCell). IsSome (g x)) (sym c.set_link.ensures) (there_next f m c.args.e None n x (cell_there f m c.args.e l.0 l.1 x l.2))))

pub returns-clause-unlinked : goal.returns-clause-unlinked
returns-clause-unlinked c =
    let l = c.requires.list in
    unlinked_is _ _ _ _ (cell_id c.args.m) c.args.e (cell_id c.args.c) None _ (front_alone (cells_by c.args.cells.now) (cell_id c.args.m) c.args.e (cell_id c.args.c) l.0 l.1 c.requires.first) c.link-next.ensures c.set_link.ensures c.set_prev.ensures c.set_link-2.ensures

pub returns-clause-list : goal.returns-clause-list
returns-clause-list c xs line i =
    let same : cells_by c.set_link-2.new.self ≡ unlinked (cells_by c.args.cells.now) (cell_id c.args.m) c.args.e (cell_id c.args.c) =
    unlinked_is _ _ _ _ (cell_id c.args.m) c.args.e (cell_id c.args.c) None _ (front_alone (cells_by c.args.cells.now) (cell_id c.args.m) c.args.e (cell_id c.args.c) xs line c.requires.first) c.link-next.ensures c.set_link.ensures c.set_prev.ensures c.set_link-2.ensures in
    subst (λ (g : ℕ → Option HeldCell). Line g (cell_id c.args.m) c.args.e (without (cell_id c.args.c) xs)) (sym same)
    (unlinked_line (cells_by c.args.cells.now) (cell_id c.args.m) c.args.e (cell_id c.args.c) xs c.requires.home c.whole.ensures line i)

pub returns-clause-others : goal.returns-clause-others
returns-clause-others c xs line i b k ys other away =
    let same : cells_by c.set_link-2.new.self ≡ unlinked (cells_by c.args.cells.now) (cell_id c.args.m) c.args.e (cell_id c.args.c) =
    unlinked_is _ _ _ _ (cell_id c.args.m) c.args.e (cell_id c.args.c) None _ (front_alone (cells_by c.args.cells.now) (cell_id c.args.m) c.args.e (cell_id c.args.c) xs line c.requires.first) c.link-next.ensures c.set_link.ensures c.set_prev.ensures c.set_link-2.ensures in
    subst (λ (g : ℕ → Option HeldCell). Line g b k ys) (sym same)
    (unlinked_others (cells_by c.args.cells.now) (cell_id c.args.m) c.args.e (cell_id c.args.c) xs c.requires.home c.whole.ensures line i b k ys other away)
