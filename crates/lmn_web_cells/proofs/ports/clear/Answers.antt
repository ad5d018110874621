use Rattle.std.proofs.Common.{◌∙◌, sym, ap}
use Rattle.std.specs.Option.{option_map}
use Rattle.lmn_web_cells.specs.Cells.{cells_by}
use Rattle.lmn_web_cells.specs.CellIds.{port_id}
use Rattle.lmn_web_cells.specs.Ports.{cleared}
use Rattle.lmn_web_cells.proofs.ports.clear.Goals as goal

pub returns-in-Some : goal.returns-in-Some
returns-in-Some c = c.set_partner.ensures ∙ ap (λ p. cleared (cells_by c.args.cells.now) (option_map port_id p)) (sym c.in-Some.is)
