use Rattle.std.proofs.Common.{◌∙◌, ap, ℕ, Option, Some}
use Rattle.lmn_web_cells.specs.Cells.{HeldCell}
use Rattle.lmn_web_cells.specs.CellIds.{cell_id}
use Rattle.lmn_web_cells.specs.Links.{EVEN}
use Rattle.lmn_web.specs.Classes.{link_written}
use Rattle.lmn_web.proofs.ClassWrites.{put_kept}
use Rattle.lmn_web.proofs.classes.put_inside.Goals as goal

pub set_link-requires-clause-there : goal.set_link-requires-clause-there
set_link-requires-clause-there c = put_kept _ _ _ _ _ (cell_id c.args.c) c.put_between.ensures c.requires.c

pub returns : goal.returns
returns c = c.set_link.ensures ∙ ap (λ (h : ℕ → Option HeldCell). link_written h (cell_id c.args.c) EVEN (Some (cell_id c.args.m))) c.put_between.ensures
