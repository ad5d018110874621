use Rattle.std.proofs.Common.{◌<◌, ◌≡◌, ◌%◌, ℕ, List, IsSome, length, get_or, sym, subst, ap, ◌∙◌, arith}
use Rattle.lmn_web_cells.specs.Rows.{Row, blank, items_in}
use Rattle.lmn_web_cells.specs.Cells.{cells_by, ports_of, port_of}
use Rattle.lmn_web_cells.specs.CellIds.{cell_id}
use Rattle.lmn_web_cells.proofs.CellRows.{port_and_mark_is, port_read, low_port, number_read}
use Rattle.lmn_web_cells.proofs.cell.Cells.port.Goals as goal

pub number_word-requires : goal.number_word-requires
number_word-requires c =
    let rows = c.self.inside.rows.rows in let b = cell_id c.args.c in let there : IsSome (cells_by rows b) = subst (λ (z : List Row). IsSome (cells_by z b)) (sym c.self.view_is) c.requires.there in
    let low : c.args.j < length (ports_of (cells_by rows b)) = subst (λ (z : List Row). c.args.j < length (ports_of (cells_by z b))) (sym c.self.view_is) c.requires.below in
    low_port rows b c.args.j c.self.invariant there low

pub number-requires : goal.number-requires
number-requires c =
    let rows = c.self.inside.rows.rows in let b = cell_id c.args.c in let there : IsSome (cells_by rows b) = subst (λ (z : List Row). IsSome (cells_by z b)) (sym c.self.view_is) c.requires.there in
    let low : c.args.j < length (ports_of (cells_by rows b)) = subst (λ (z : List Row). c.args.j < length (ports_of (cells_by z b))) (sym c.self.view_is) c.requires.below in
    let few = low_port rows b c.args.j c.self.invariant there low in let word = c.number_word.ensures in
    (c.args.c.start, omega (arith, few, word), (_, ap (λ (k : ℕ). get_or (items_in rows b) k blank) word ∙ port_and_mark_is rows b c.args.j c.self.invariant there low))

pub returns : goal.returns
returns c =
    let rows = c.self.inside.rows.rows in let b = cell_id c.args.c in let there : IsSome (cells_by rows b) = subst (λ (z : List Row). IsSome (cells_by z b)) (sym c.self.view_is) c.requires.there in
    let low : c.args.j < length (ports_of (cells_by rows b)) = subst (λ (z : List Row). c.args.j < length (ports_of (cells_by z b))) (sym c.self.view_is) c.requires.below in
    let read = number_read _ _ _ (ap (λ (k : ℕ). get_or (items_in rows b) k blank) c.number_word.ensures ∙ port_and_mark_is rows b c.args.j c.self.invariant there low) c.number.ensures in
    subst (λ (z : List Row). c.number.result % 256 ≡ (port_of (cells_by z b) c.args.j).port) c.self.view_is (port_read rows b c.args.j c.number.result c.self.invariant there read)
