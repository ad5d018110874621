use Rattle.std.specs.Prelude.{slice_index_or, None, Some}
use Rattle.std.proofs.Common.{◌≡◌, List, IsSome, sym, subst, arith}
use Rattle.lmn_web_cells.specs.Rows.{Row}
use Rattle.lmn_web_cells.specs.Cells.{cells_by, links_of}
use Rattle.lmn_web_cells.specs.CellIds.{cell_id}
use Rattle.lmn_web_cells.proofs.CellRows.{word_is, pointer_read, leads_there}
use Rattle.lmn_web_cells.proofs.cell.Cells.target.Goals as goal

pub link-requires : goal.link-requires
link-requires c =
    let there : IsSome (cells_by c.self.inside.rows.rows (cell_id c.args.c)) = subst (λ (z : List Row). IsSome (cells_by z (cell_id c.args.c))) (sym c.self.view_is) c.requires.there in let low = c.requires.below in
    (c.args.c.start, omega (arith, low), (_, word_is _ _ _ c.self.invariant there low))

pub invariant_of-result : goal.invariant_of-result
invariant_of-result c =
    let there : IsSome (cells_by c.self.inside.rows.rows (cell_id c.args.c)) = subst (λ (z : List Row). IsSome (cells_by z (cell_id c.args.c))) (sym c.self.view_is) c.requires.there in let low = c.requires.below in
    let leads = subst (λ (z : List Row). IsSome (slice_index_or (links_of (cells_by z (cell_id c.args.c))) c.args.k None)) (sym c.self.view_is) c.requires.leads in
    record { start = (leads_there _ _ leads (pointer_read _ _ _ (word_is _ _ _ c.self.invariant there low) c.link.ensures)).0 }

pub returns : goal.returns
returns c =
    let there : IsSome (cells_by c.self.inside.rows.rows (cell_id c.args.c)) = subst (λ (z : List Row). IsSome (cells_by z (cell_id c.args.c))) (sym c.self.view_is) c.requires.there in let low = c.requires.below in
    let leads = subst (λ (z : List Row). IsSome (slice_index_or (links_of (cells_by z (cell_id c.args.c))) c.args.k None)) (sym c.self.view_is) c.requires.leads in
    subst (λ (z : List Row). slice_index_or (links_of (cells_by z (cell_id c.args.c))) c.args.k None ≡ Some (cell_id record { at = c.link.result; start = (leads_there _ _ leads (pointer_read _ _ _ (word_is _ _ _ c.self.invariant there low) c.link.ensures)).0 })) c.self.view_is
    (leads_there _ _ leads (pointer_read _ _ _ (word_is _ _ _ c.self.invariant there low) c.link.ensures)).1
