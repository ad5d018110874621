use Rattle.std.proofs.Common.{ℕ, ◌∙◌, Option, Some, sym, ap}
use Rattle.std.specs.Option.{option_map}
use Rattle.lmn_web_cells.specs.Cells.{HeldCell, cells_by, with_port}
use Rattle.lmn_store_heap.specs.Heap.{alter}
use Rattle.lmn_web_cells.specs.CellIds.{cell_id, port_id}
use Rattle.lmn_web_cells.specs.Ports.{linked}
use Rattle.lmn_web_cells.proofs.PortLemmas.{port_there, to_after, two_steps}
use Rattle.lmn_web_cells.proofs.ports.set_partner.Goals as goal

pub set_port-requires-clause-below : goal.set_port-requires-clause-below
set_port-requires-clause-below c =
    to_after (cells_by c.set_to-in-Some.new.self) (cells_by c.args.cells.now) (cell_id c.args.c) c.args.i (Some (cell_id c.in-Some.d)) (cell_id c.args.c) c.args.i c.set_to-in-Some.ensures c.requires.port

pub set_port-requires-clause-there : goal.set_port-requires-clause-there
set_port-requires-clause-there c =
    port_there (cells_by c.set_to-in-Some.new.self) (cell_id c.args.c) c.args.i
    (to_after (cells_by c.set_to-in-Some.new.self) (cells_by c.args.cells.now) (cell_id c.args.c) c.args.i (Some (cell_id c.in-Some.d)) (cell_id c.args.c) c.args.i c.set_to-in-Some.ensures c.requires.port)

pub returns-in-None : goal.returns-in-None
returns-in-None c = c.set_to.ensures ∙ ap (λ p. linked (cells_by c.args.cells.now) (cell_id c.args.c) c.args.i (option_map port_id p)) (sym c.in-None.is)

pub returns-in-Some : goal.returns-in-Some
returns-in-Some c =
    c.set_port.ensures ∙ ap (λ (f : ℕ → Option HeldCell). alter f (cell_id c.args.c) (option_map (with_port c.args.i c.in-Some.j))) c.set_to-in-Some.ensures
    ∙ two_steps (cells_by c.args.cells.now) (cell_id c.args.c) c.args.i (cell_id c.in-Some.d) c.in-Some.j
    ∙ ap (λ p. linked (cells_by c.args.cells.now) (cell_id c.args.c) c.args.i (option_map port_id p)) (sym c.in-Some.is)
