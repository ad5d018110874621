use Rattle.std.specs.Option.{option_map}
use Rattle.std.proofs.Common.{◌<◌, ◌≡◌, ◌∙◌, List, IsSome, length, sym, subst, ap, arith}
use Rattle.lmn_web_cells.specs.Rows.{Row}
use Rattle.lmn_web_cells.specs.Cells.{cells_by, ports_of, port_of}
use Rattle.lmn_web_cells.specs.CellIds.{cell_id, IsLink, led_by}
use Rattle.lmn_web_cells.proofs.CellRows.{to_is, low_port, pointer_read, is_link, leads}
use Rattle.lmn_web_cells.proofs.cell.Cells.to.Goals as goal

pub link-requires : goal.link-requires
link-requires c =
    let there : IsSome (cells_by c.self.inside.rows.rows (cell_id c.args.c)) = subst (λ (z : List Row). IsSome (cells_by z (cell_id c.args.c))) (sym c.self.view_is) c.requires.there in let low : c.args.j < length (ports_of (cells_by c.self.inside.rows.rows (cell_id c.args.c))) = subst (λ (z : List Row). c.args.j < length (ports_of (cells_by z (cell_id c.args.c)))) (sym c.self.view_is) c.requires.below in let s = low_port _ _ _ c.self.invariant there low in
    (c.args.c.start, omega (arith, s), (_, to_is _ _ _ c.self.invariant there low))

pub cell_from-requires : goal.cell_from-requires
cell_from-requires c =
    let there : IsSome (cells_by c.self.inside.rows.rows (cell_id c.args.c)) = subst (λ (z : List Row). IsSome (cells_by z (cell_id c.args.c))) (sym c.self.view_is) c.requires.there in let low : c.args.j < length (ports_of (cells_by c.self.inside.rows.rows (cell_id c.args.c))) = subst (λ (z : List Row). c.args.j < length (ports_of (cells_by z (cell_id c.args.c)))) (sym c.self.view_is) c.requires.below in
    subst IsLink (sym (pointer_read _ _ _ (to_is _ _ _ c.self.invariant there low) c.link.ensures)) (is_link _)

pub returns : goal.returns
returns c =
    let there : IsSome (cells_by c.self.inside.rows.rows (cell_id c.args.c)) = subst (λ (z : List Row). IsSome (cells_by z (cell_id c.args.c))) (sym c.self.view_is) c.requires.there in let low : c.args.j < length (ports_of (cells_by c.self.inside.rows.rows (cell_id c.args.c))) = subst (λ (z : List Row). c.args.j < length (ports_of (cells_by z (cell_id c.args.c)))) (sym c.self.view_is) c.requires.below in
    subst (λ (z : List Row). (port_of (cells_by z (cell_id c.args.c)) c.args.j).to ≡ option_map cell_id c.cell_from.result) c.self.view_is (sym (c.cell_from.ensures ∙ ap led_by (pointer_read _ _ _ (to_is _ _ _ c.self.invariant there low) c.link.ensures) ∙ leads _))

pub overflow_mul-j : goal.overflow_mul-j
overflow_mul-j c =
    let there : IsSome (cells_by c.self.inside.rows.rows (cell_id c.args.c)) = subst (λ (z : List Row). IsSome (cells_by z (cell_id c.args.c))) (sym c.self.view_is) c.requires.there in let low : c.args.j < length (ports_of (cells_by c.self.inside.rows.rows (cell_id c.args.c))) = subst (λ (z : List Row). c.args.j < length (ports_of (cells_by z (cell_id c.args.c)))) (sym c.self.view_is) c.requires.below in
    let s = low_port _ _ _ c.self.invariant there low in record { fits = omega (arith, s) }

pub overflow_add-j : goal.overflow_add-j
overflow_add-j c =
    let there : IsSome (cells_by c.self.inside.rows.rows (cell_id c.args.c)) = subst (λ (z : List Row). IsSome (cells_by z (cell_id c.args.c))) (sym c.self.view_is) c.requires.there in let low : c.args.j < length (ports_of (cells_by c.self.inside.rows.rows (cell_id c.args.c))) = subst (λ (z : List Row). c.args.j < length (ports_of (cells_by z (cell_id c.args.c)))) (sym c.self.view_is) c.requires.below in
    let s = low_port _ _ _ c.self.invariant there low in record { fits = omega (arith, s) }

pub overflow_add-j-2 : goal.overflow_add-j-2
overflow_add-j-2 c =
    let there : IsSome (cells_by c.self.inside.rows.rows (cell_id c.args.c)) = subst (λ (z : List Row). IsSome (cells_by z (cell_id c.args.c))) (sym c.self.view_is) c.requires.there in let low : c.args.j < length (ports_of (cells_by c.self.inside.rows.rows (cell_id c.args.c))) = subst (λ (z : List Row). c.args.j < length (ports_of (cells_by z (cell_id c.args.c)))) (sym c.self.view_is) c.requires.below in
    let s = low_port _ _ _ c.self.invariant there low in record { fits = omega (arith, s) }
