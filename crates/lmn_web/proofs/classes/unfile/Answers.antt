use Rattle.std.proofs.Common.{ℕ, Option, sym, subst, ◌∙◌}
use Rattle.lmn_web_cells.specs.Cells.{HeldCell, cells_by}
use Rattle.lmn_web_cells.specs.CellIds.{cell_id}
use Rattle.lmn_web.specs.Classes.{key_in, Refiled}
use Rattle.lmn_web.proofs.ListedLemmas.{some_there}
use Rattle.lmn_web.proofs.ClassSteps.{filed_closed, prev_alive, prev_some, next_alive, next_some, even_there}
use Rattle.lmn_web.proofs.classes.unfile.Goals as goal

pub target-prev-requires-clause-there : goal.target-prev-requires-clause-there
target-prev-requires-clause-there c = c.requires.2.there_c

pub target-next-requires-clause-there : goal.target-next-requires-clause-there
target-next-requires-clause-there c = c.requires.2.there_c

pub is_last-requires-clause-there : goal.is_last-requires-clause-there
is_last-requires-clause-there c = c.requires.2.there_c

pub is_last-requires-clause-even : goal.is_last-requires-clause-even
is_last-requires-clause-even c d e = let r = c.requires in even_there (cells_by c.args.cells.now) (cell_id c.args.m) (cell_id c.args.c) r.0 r.1 r.2 r.3 d e

pub unfile_last-requires-clause-last : goal.unfile_last-requires-clause-last
unfile_last-requires-clause-last c = sym c.is_last.ensures ∙ c.if-is_last.true

pub unfile_last-requires-clause-prev : goal.unfile_last-requires-clause-prev
unfile_last-requires-clause-prev c = c.target-prev.ensures

pub unfile_last-requires-clause-next : goal.unfile_last-requires-clause-next
unfile_last-requires-clause-next c = c.target-next.ensures

pub close-requires-clause-prev : goal.close-requires-clause-prev
close-requires-clause-prev c =
    let r = c.requires in
    prev_alive (cells_by c.args.cells.now) (cell_id c.args.m) (cell_id c.args.c) r.0 r.1 r.2 r.3 (cell_id c.target-prev.result) (c.target-prev.ensures)

pub close-requires-clause-next : goal.close-requires-clause-next
close-requires-clause-next c =
    let r = c.requires in
    next_alive (cells_by c.args.cells.now) (cell_id c.args.m) (cell_id c.args.c) r.0 r.1 r.2 r.3 (cell_id c.target-next.result) (c.target-next.ensures)

pub returns-else-is_last : goal.returns-else-is_last
returns-else-is_last c xs ls xs' a i one =
    let f = cells_by c.args.cells.now in let m = cell_id c.args.m in let x = cell_id c.args.c in
    subst (λ (g : ℕ → Option HeldCell). Refiled f g m xs (key_in f x) xs') (sym c.close.ensures)
    (filed_closed f c.whole.ensures m x xs ls xs' a i one (cell_id c.target-prev.result) (cell_id c.target-next.result) (c.target-prev.ensures) (c.target-next.ensures)
    (sym c.is_last.ensures ∙ c.if-is_last.false))

pub target-prev-requires-clause-leads : goal.target-prev-requires-clause-leads
target-prev-requires-clause-leads c =
    let r = c.requires in
    some_there _ (λ e. prev_some (cells_by c.args.cells.now) (cell_id c.args.m) (cell_id c.args.c) r.0 r.1 r.2 r.3 e)

pub target-next-requires-clause-leads : goal.target-next-requires-clause-leads
target-next-requires-clause-leads c =
    let r = c.requires in
    some_there _ (λ e. next_some (cells_by c.args.cells.now) (cell_id c.args.m) (cell_id c.args.c) r.0 r.1 r.2 r.3 e)
