use Rattle.std.proofs.Common.{◌==◌, sym, ap, ◌∙◌}
use Rattle.std.specs.Option.{option_map}
use Rattle.lmn_web_cells.specs.Cells.{cells_by}
use Rattle.lmn_web_cells.specs.CellIds.{cell_id}
use Rattle.lmn_web.specs.Classes.{is_no_membrane}
use Rattle.lmn_web.proofs.classes.is_last.Goals as goal

pub number-requires-clause-there : goal.number-requires-clause-there
number-requires-clause-there c = c.requires.even (cell_id c.in-Some.d) (c.link.ensures ∙ ap (option_map cell_id) c.in-Some.is)

pub returns-in-None : goal.returns-in-None
returns-in-None c = ap (is_no_membrane (cells_by c.args.cells.now)) (sym (c.link.ensures ∙ ap (option_map cell_id) c.in-None.is))

pub returns-in-Some : goal.returns-in-Some
returns-in-Some c = ap (λ n. n == 0) c.number.ensures ∙ ap (is_no_membrane (cells_by c.args.cells.now)) (sym (c.link.ensures ∙ ap (option_map cell_id) c.in-Some.is))
