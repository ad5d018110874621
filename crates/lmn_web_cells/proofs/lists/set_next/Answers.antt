use Rattle.std.proofs.Common.{◌∙◌, sym, ap}
use Rattle.std.specs.Option.{option_map}
use Rattle.lmn_web_cells.specs.Cells.{cells_by}
use Rattle.lmn_web_cells.specs.CellIds.{cell_id}
use Rattle.lmn_web_cells.specs.Runs.{with_next}
use Rattle.lmn_web_cells.proofs.lists.set_next.Goals as goal

pub returns-in-None : goal.returns-in-None
returns-in-None c = c.set_link.ensures ∙ ap (λ o. with_next (cells_by c.args.cells.now) (cell_id c.args.m) c.args.e (option_map cell_id o) (option_map cell_id c.args.next)) (sym c.in-None.is)

pub returns-in-Some : goal.returns-in-Some
returns-in-Some c = c.set_link-in-Some.ensures ∙ ap (λ o. with_next (cells_by c.args.cells.now) (cell_id c.args.m) c.args.e (option_map cell_id o) (option_map cell_id c.args.next)) (sym c.in-Some.is)
