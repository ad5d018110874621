use Rattle.std.proofs.Common.{◌≡◌, ℕ, ◌<◌, List, Option, None, sym, ap, subst, ◌∙◌, length}
use Rattle.std.specs.Prelude.{slice_index_or}
use Rattle.std.specs.Option.{option_map}
use Rattle.lmn_web_cells.specs.Rows.{Row}
use Rattle.lmn_web_cells.specs.CellIds.{cell_id, port_id}
use Rattle.lmn_web.specs.Webs.{web_by, arity_at, partner_at}
use Rattle.lmn_web_merging.specs.Keepers.{merged_by}
use Rattle.lmn_web_merging.proofs.Seen.{atom_by_port, atom_partners}
use Rattle.lmn_web_merging.proofs.merging.MergingWeb.partner.Goals as goal

pub partner-requires : goal.partner-requires
partner-requires c =
    let w = web_by c.self.inside.web in let x = cell_id c.args.c in
    let low = subst (λ (z : List Row). c.args.port < arity_at (merged_by z) x) (sym c.self.view_is) c.requires in
    let k = atom_by_port w x c.args.port low in
    subst (λ (ps : List (Option (ℕ × ℕ))). c.args.port < length ps) (atom_partners w x k) low

pub returns : goal.returns
returns c =
    let w = web_by c.self.inside.web in let x = cell_id c.args.c in
    let low = subst (λ (z : List Row). c.args.port < arity_at (merged_by z) x) (sym c.self.view_is) c.requires in
    let k = atom_by_port w x c.args.port low in
    subst (λ (z : List Row). partner_at (merged_by z) x c.args.port ≡ option_map port_id c.partner.result) c.self.view_is
    (ap (λ (ps : List (Option (ℕ × ℕ))). slice_index_or ps c.args.port None) (atom_partners w x k) ∙ c.partner.ensures)
