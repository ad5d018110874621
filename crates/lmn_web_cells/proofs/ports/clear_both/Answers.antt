use Rattle.std.proofs.Common.{ℕ, ◌∙◌, Option, ap}
use Rattle.std.specs.Option.{option_map}
use Rattle.lmn_web_cells.specs.Cells.{HeldCell, cells_by}
use Rattle.lmn_web_cells.specs.CellIds.{port_id}
use Rattle.lmn_web_cells.specs.Ports.{cleared}
use Rattle.lmn_web_cells.proofs.PortLemmas.{all_ports, cleared_after}
use Rattle.lmn_web_cells.proofs.ports.clear_both.Goals as goal

pub clear-requires-2 : goal.clear-requires-2
clear-requires-2 c =
    all_ports (cells_by c.args.cells.now) (cells_by c.clear.new.cells) port_id c.args.second (λ k j l. cleared_after (cells_by c.clear.new.cells) (cells_by c.args.cells.now) (option_map port_id c.args.first) k j c.clear.ensures l) c.requires.second

pub returns : goal.returns
returns c = c.clear-2.ensures ∙ ap (λ (f : ℕ → Option HeldCell). cleared f (option_map port_id c.args.second)) c.clear.ensures
