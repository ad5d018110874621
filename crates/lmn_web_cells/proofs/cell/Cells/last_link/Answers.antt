use Rattle.std.specs.Option.{option_map}
use Rattle.std.specs.Prelude.{slice_index_or, None}
use Rattle.std.proofs.Common.{◌≡◌, ◌∙◌, List, IsSome, length, sym, subst, ap, arith}
use Rattle.lmn_web_cells.specs.Rows.{Row}
use Rattle.lmn_web_cells.specs.Cells.{cells_by, links_of, numbers_of}
use Rattle.lmn_web_cells.specs.CellIds.{cell_id, IsLink, led_by}
use Rattle.lmn_web_cells.proofs.CellRows.{last_word_is, pointer_read, is_link, leads}
use Rattle.lmn_web_cells.proofs.cell.Cells.last_link.Goals as goal

pub link-requires : goal.link-requires
link-requires c =
    let there : IsSome (cells_by c.self.inside.rows.rows (cell_id c.args.c)) = subst (λ (z : List Row). IsSome (cells_by z (cell_id c.args.c))) (sym c.self.view_is) c.requires.there in
    let eight : length (numbers_of (cells_by c.self.inside.rows.rows (cell_id c.args.c))) ≡ 8 = subst (λ (z : List Row). length (numbers_of (cells_by z (cell_id c.args.c))) ≡ 8) (sym c.self.view_is) c.requires.numbers in
    (c.args.c.start, omega arith, (_, last_word_is _ _ c.self.invariant there eight))

pub cell_from-requires : goal.cell_from-requires
cell_from-requires c =
    let there : IsSome (cells_by c.self.inside.rows.rows (cell_id c.args.c)) = subst (λ (z : List Row). IsSome (cells_by z (cell_id c.args.c))) (sym c.self.view_is) c.requires.there in
    let eight : length (numbers_of (cells_by c.self.inside.rows.rows (cell_id c.args.c))) ≡ 8 = subst (λ (z : List Row). length (numbers_of (cells_by z (cell_id c.args.c))) ≡ 8) (sym c.self.view_is) c.requires.numbers in
    subst IsLink (sym (pointer_read _ _ _ (last_word_is _ _ c.self.invariant there eight) c.link.ensures)) (is_link _)

pub returns : goal.returns
returns c =
    let there : IsSome (cells_by c.self.inside.rows.rows (cell_id c.args.c)) = subst (λ (z : List Row). IsSome (cells_by z (cell_id c.args.c))) (sym c.self.view_is) c.requires.there in
    let eight : length (numbers_of (cells_by c.self.inside.rows.rows (cell_id c.args.c))) ≡ 8 = subst (λ (z : List Row). length (numbers_of (cells_by z (cell_id c.args.c))) ≡ 8) (sym c.self.view_is) c.requires.numbers in
    subst (λ (z : List Row). slice_index_or (links_of (cells_by z (cell_id c.args.c))) 7 None ≡ option_map cell_id c.cell_from.result) c.self.view_is (sym (c.cell_from.ensures ∙ ap led_by (pointer_read _ _ _ (last_word_is _ _ c.self.invariant there eight) c.link.ensures) ∙ leads _))
