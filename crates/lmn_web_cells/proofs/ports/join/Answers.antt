use Rattle.std.proofs.Common.{◌≡◌, Some, sym, subst}
use Rattle.std.specs.Option.{option_map}
use Rattle.lmn_web_cells.specs.Cells.{cells_by}
use Rattle.lmn_web_cells.specs.CellIds.{cell_id, port_id}
use Rattle.lmn_web_cells.specs.Ports.{joined, Reaches, Paired}
use Rattle.lmn_web_cells.proofs.PortLemmas.{join_is, linked_after, both_after, partner_port}
use Rattle.lmn_web_cells.proofs.Pairing.{joined_reaches, joined_paired}
use Rattle.lmn_web_cells.proofs.ports.join.Goals as goal

pub clear_both-requires-clause-first : goal.clear_both-requires-clause-first
clear_both-requires-clause-first c = partner_port (cells_by c.args.cells.now) (cell_id c.args.a) c.args.i port_id c.partner-first.result c.requires.reaches c.partner-first.ensures

pub clear_both-requires-clause-second : goal.clear_both-requires-clause-second
clear_both-requires-clause-second c = partner_port (cells_by c.args.cells.now) (cell_id c.args.b) c.args.j port_id c.partner-second.result c.requires.reaches c.partner-second.ensures

pub set_partner-requires-clause-port : goal.set_partner-requires-clause-port
set_partner-requires-clause-port c =
    both_after (cells_by c.clear_both.new.cells) (cells_by c.args.cells.now) (option_map port_id c.partner-first.result) (option_map port_id c.partner-second.result) (cell_id c.args.a) c.args.i c.clear_both.ensures c.requires.a

pub set_partner-requires-2-clause-port : goal.set_partner-requires-2-clause-port
set_partner-requires-2-clause-port c =
    let two = cells_by c.clear_both.new.cells in let three = cells_by c.set_partner.new.cells in let b = cell_id c.args.b in let j = c.args.j in
    linked_after three two (cell_id c.args.a) c.args.i (Some (b, j)) b j c.set_partner.ensures
    (both_after two (cells_by c.args.cells.now) (option_map port_id c.partner-first.result) (option_map port_id c.partner-second.result) b j c.clear_both.ensures c.requires.b)

pub set_partner-requires-clause-small : goal.set_partner-requires-clause-small
set_partner-requires-clause-small c = c.few_ports.ensures (cell_id c.args.b) c.args.j c.requires.b

pub set_partner-requires-2-clause-small : goal.set_partner-requires-2-clause-small
set_partner-requires-2-clause-small c = c.few_ports.ensures (cell_id c.args.a) c.args.i c.requires.a

pub returns-clause-joined : goal.returns-clause-joined
returns-clause-joined c = join_is _ _ _ _ (cell_id c.args.a) c.args.i (cell_id c.args.b) c.args.j (_, _) c.partner-first.ensures c.partner-second.ensures c.clear_both.ensures c.set_partner.ensures c.set_partner-2.ensures

pub returns-clause-reaches : goal.returns-clause-reaches
returns-clause-reaches c =
    let same : cells_by c.set_partner-2.new.cells ≡ joined (cells_by c.args.cells.now) (cell_id c.args.a) c.args.i (cell_id c.args.b) c.args.j = join_is _ _ _ _ (cell_id c.args.a) c.args.i (cell_id c.args.b) c.args.j (_, _) c.partner-first.ensures c.partner-second.ensures c.clear_both.ensures c.set_partner.ensures c.set_partner-2.ensures in
    subst Reaches (sym same) (joined_reaches (cells_by c.args.cells.now) (cell_id c.args.a) c.args.i (cell_id c.args.b) c.args.j c.requires.a c.requires.b c.requires.differ c.requires.reaches)

pub returns-clause-paired : goal.returns-clause-paired
returns-clause-paired c paired =
    let same : cells_by c.set_partner-2.new.cells ≡ joined (cells_by c.args.cells.now) (cell_id c.args.a) c.args.i (cell_id c.args.b) c.args.j = join_is _ _ _ _ (cell_id c.args.a) c.args.i (cell_id c.args.b) c.args.j (_, _) c.partner-first.ensures c.partner-second.ensures c.clear_both.ensures c.set_partner.ensures c.set_partner-2.ensures in
    subst Paired (sym same) (joined_paired (cells_by c.args.cells.now) (cell_id c.args.a) c.args.i (cell_id c.args.b) c.args.j c.requires.a c.requires.b c.requires.differ paired)
