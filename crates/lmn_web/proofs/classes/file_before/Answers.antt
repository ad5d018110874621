use Rattle.std.proofs.Common.{ℕ, ◌∷◌, Option, sym, subst}
use Rattle.lmn_web_cells.specs.Cells.{HeldCell, cells_by}
use Rattle.lmn_web_cells.specs.CellIds.{cell_id}
use Rattle.lmn_web.specs.Classes.{key_in, Refiled}
use Rattle.lmn_web.proofs.ListedLemmas.{some_there}
use Rattle.lmn_web.proofs.ClassSteps.{filed_inside, prev_other, prev_other_some}
use Rattle.lmn_web.proofs.classes.file_before.Goals as goal

pub target-prev-requires-clause-there : goal.target-prev-requires-clause-there
target-prev-requires-clause-there c = let r = c.requires in r.2.alive (cell_id c.args.d) r.3

pub put_inside-requires-clause-prev : goal.put_inside-requires-clause-prev
put_inside-requires-clause-prev c =
    let r = c.requires in
    prev_other (cells_by c.args.cells.now) (cell_id c.args.m) (cell_id c.args.c) r.0 r.1 r.2 (cell_id c.args.d) r.3 (cell_id c.target-prev.result) (c.target-prev.ensures)

pub put_inside-requires-clause-next : goal.put_inside-requires-clause-next
put_inside-requires-clause-next c = let r = c.requires in r.2.alive (cell_id c.args.d) r.3

pub put_inside-requires-clause-c : goal.put_inside-requires-clause-c
put_inside-requires-clause-c c = c.requires.2.there_c

pub returns : goal.returns
returns c xs t xs' a fresh i one =
    let f = cells_by c.args.cells.now in let m = cell_id c.args.m in let x = cell_id c.args.c in
    subst (λ (g : ℕ → Option HeldCell). Refiled f g m (x ∷ xs) (key_in f x) xs') (sym c.put_inside.ensures)
    (filed_inside f c.whole.ensures m x xs t xs' a fresh (cell_id c.args.d) i c.requires.4 one (cell_id c.target-prev.result) (c.target-prev.ensures))

pub target-prev-requires-clause-leads : goal.target-prev-requires-clause-leads
target-prev-requires-clause-leads c =
    let r = c.requires in
    some_there _ (λ e. prev_other_some (cells_by c.args.cells.now) (cell_id c.args.m) (cell_id c.args.c) r.0 r.1 r.2 (cell_id c.args.d) r.3 e)
