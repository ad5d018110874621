use Rattle.std.proofs.Common.{◌≡◌, ℕ, ◌∙◌, Option, None, sym, ap, subst}
use Rattle.std.specs.Option.{option_map}
use Rattle.lmn_web_cells.specs.Cells.{HeldCell, cells_by}
use Rattle.lmn_web_cells.specs.CellIds.{cell_id, port_id}
use Rattle.lmn_web_cells.specs.Ports.{linked, cleared, parted, Reaches, Paired}
use Rattle.lmn_web_cells.proofs.PortLemmas.{cleared_after}
use Rattle.lmn_web_cells.proofs.Pairing.{parted_paired, parted_reaches}
use Rattle.lmn_web_cells.proofs.ports.split.Goals as goal

pub set_partner-requires-clause-port : goal.set_partner-requires-clause-port
set_partner-requires-clause-port c =
    cleared_after (cells_by c.clear.new.cells) (cells_by c.args.cells.now) (option_map port_id c.partner-other.result) (cell_id c.args.c) c.args.i c.clear.ensures c.requires.port

pub returns-clause-parted : goal.returns-clause-parted
returns-clause-parted c =
    c.set_partner.ensures ∙ ap (λ (f : ℕ → Option HeldCell). linked f (cell_id c.args.c) c.args.i None) (c.clear.ensures ∙ ap (cleared (cells_by c.args.cells.now)) (sym c.partner-other.ensures))

pub returns-clause-reaches : goal.returns-clause-reaches
returns-clause-reaches c =
    let same : cells_by c.set_partner.new.cells ≡ parted (cells_by c.args.cells.now) (cell_id c.args.c) c.args.i =
    c.set_partner.ensures ∙ ap (λ (f : ℕ → Option HeldCell). linked f (cell_id c.args.c) c.args.i None) (c.clear.ensures ∙ ap (cleared (cells_by c.args.cells.now)) (sym c.partner-other.ensures)) in
    subst (λ (f : ℕ → Option HeldCell). Reaches f) (sym same) (parted_reaches (cells_by c.args.cells.now) (cell_id c.args.c) c.args.i c.requires.reaches)

pub returns-clause-paired : goal.returns-clause-paired
returns-clause-paired c sound =
    let same : cells_by c.set_partner.new.cells ≡ parted (cells_by c.args.cells.now) (cell_id c.args.c) c.args.i =
    c.set_partner.ensures ∙ ap (λ (f : ℕ → Option HeldCell). linked f (cell_id c.args.c) c.args.i None) (c.clear.ensures ∙ ap (cleared (cells_by c.args.cells.now)) (sym c.partner-other.ensures)) in
    subst (λ (f : ℕ → Option HeldCell). Paired f) (sym same) (parted_paired (cells_by c.args.cells.now) (cell_id c.args.c) c.args.i sound)
