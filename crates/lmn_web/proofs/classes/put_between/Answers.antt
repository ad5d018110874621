use Rattle.std.proofs.Common.{◌∙◌, ap, ℕ, Option, Some}
use Rattle.lmn_web_cells.specs.Cells.{HeldCell}
use Rattle.lmn_web_cells.specs.CellIds.{cell_id}
use Rattle.lmn_web.specs.Classes.{link_written}
use Rattle.lmn_web_cells.specs.Links.{CLASS_NEXT, CLASS_PREV}
use Rattle.lmn_web.proofs.ClassWrites.{kept}
use Rattle.lmn_web.proofs.classes.put_between.Goals as goal

pub set_link-requires-2-clause-there : goal.set_link-requires-2-clause-there
set_link-requires-2-clause-there c =
    kept _ _ _ _ _ (cell_id c.args.c) c.set_link.ensures (c.requires.c)

pub set_link-requires-3-clause-there : goal.set_link-requires-3-clause-there
set_link-requires-3-clause-there c =
    kept _ _ _ _ _ (cell_id c.args.prev) c.set_link-2.ensures (kept _ _ _ _ _ (cell_id c.args.prev) c.set_link.ensures (c.requires.prev))

pub set_link-requires-4-clause-there : goal.set_link-requires-4-clause-there
set_link-requires-4-clause-there c =
    kept _ _ _ _ _ (cell_id c.args.next) c.set_link-3.ensures (kept _ _ _ _ _ (cell_id c.args.next) c.set_link-2.ensures (kept _ _ _ _ _ (cell_id c.args.next) c.set_link.ensures (c.requires.next)))

pub returns : goal.returns
returns c =
    c.set_link-4.ensures ∙ ap (λ (h : ℕ → Option HeldCell). link_written h (cell_id c.args.next) CLASS_PREV (Some (cell_id c.args.c))) (c.set_link-3.ensures ∙ ap (λ (h : ℕ → Option HeldCell). link_written h (cell_id c.args.prev) CLASS_NEXT (Some (cell_id c.args.c))) (c.set_link-2.ensures ∙ ap (λ (h : ℕ → Option HeldCell). link_written h (cell_id c.args.c) CLASS_PREV (Some (cell_id c.args.prev))) (c.set_link.ensures)))
