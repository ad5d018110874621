use Rattle.std.proofs.Common.{◌<◌, ◌≡◌, ◌+◌, ◌*◌, ℕ, List, IsSome, length, get_or, set, sym, subst, ap, ◌∙◌, arith}
use Rattle.std.specs.Option.{option_map}
use Rattle.lmn_store_heap.specs.Heap.{alter}
use Rattle.lmn_web_cells.specs.Rows.{Row, blank, number, items_in, with_items}
use Rattle.lmn_web_cells.specs.Cells.{cells_by, no_port, ports_of, with_port}
use Rattle.lmn_web_cells.specs.CellIds.{cell_id}
use Rattle.lmn_web_cells.proofs.CellRows.{port_changes, mark_read, port_and_mark_is, port_words_there, low_port, number_read, laid_after, cells_after}
use Rattle.lmn_web_cells.proofs.cell.Cells.set_port.Goals as goal

pub number_word-requires : goal.number_word-requires
number_word-requires c =
    let rows = c.self.inside.rows.rows in let b = cell_id c.args.c in let there : IsSome (cells_by rows b) = subst (λ (z : List Row). IsSome (cells_by z b)) (sym c.self.view_is) c.requires.there in
    let low : c.args.j < length (ports_of (cells_by rows b)) = subst (λ (z : List Row). c.args.j < length (ports_of (cells_by z b))) (sym c.self.view_is) c.requires.below in
    low_port rows b c.args.j c.self.invariant there low

pub number_word-requires-2 : goal.number_word-requires-2
number_word-requires-2 c =
    let rows = c.self.inside.rows.rows in let b = cell_id c.args.c in let there : IsSome (cells_by rows b) = subst (λ (z : List Row). IsSome (cells_by z b)) (sym c.self.view_is) c.requires.there in
    let low : c.args.j < length (ports_of (cells_by rows b)) = subst (λ (z : List Row). c.args.j < length (ports_of (cells_by z b))) (sym c.self.view_is) c.requires.below in
    low_port rows b c.args.j c.self.invariant there low

pub number-mark-requires : goal.number-mark-requires
number-mark-requires c =
    let rows = c.self.inside.rows.rows in let b = cell_id c.args.c in let there : IsSome (cells_by rows b) = subst (λ (z : List Row). IsSome (cells_by z b)) (sym c.self.view_is) c.requires.there in
    let low : c.args.j < length (ports_of (cells_by rows b)) = subst (λ (z : List Row). c.args.j < length (ports_of (cells_by z b))) (sym c.self.view_is) c.requires.below in
    let few = low_port rows b c.args.j c.self.invariant there low in let word = c.number_word.ensures in
    (c.args.c.start, omega (arith, few, word), (_, ap (λ (k : ℕ). get_or (items_in rows b) k blank) word ∙ port_and_mark_is rows b c.args.j c.self.invariant there low))

pub set_number-requires : goal.set_number-requires
set_number-requires c =
    let rows = c.self.inside.rows.rows in let b = cell_id c.args.c in let there : IsSome (cells_by rows b) = subst (λ (z : List Row). IsSome (cells_by z b)) (sym c.self.view_is) c.requires.there in
    let low : c.args.j < length (ports_of (cells_by rows b)) = subst (λ (z : List Row). c.args.j < length (ports_of (cells_by z b))) (sym c.self.view_is) c.requires.below in
    let few = low_port rows b c.args.j c.self.invariant there low in let word = c.number_word-2.ensures in
    (c.args.c.start, omega (arith, few, word), (λ e. absurd (omega (arith, e, word))), subst (λ (k : ℕ). k < length (items_in rows b)) (sym word) (port_words_there rows b c.args.j 1 c.self.invariant there low (omega arith)))

pub invariant_of-self : goal.invariant_of-self
invariant_of-self c =
    let rows = c.self.inside.rows.rows in let b = cell_id c.args.c in let there : IsSome (cells_by rows b) = subst (λ (z : List Row). IsSome (cells_by z b)) (sym c.self.view_is) c.requires.there in
    let low : c.args.j < length (ports_of (cells_by rows b)) = subst (λ (z : List Row). c.args.j < length (ports_of (cells_by z b))) (sym c.self.view_is) c.requires.below in
    let word = c.number_word-2.ensures in let first = c.number_word.ensures in let n = c.port_and_mark.result in
    let read = number_read _ _ _ (ap (λ (k : ℕ). get_or (items_in rows b) k blank) first ∙ port_and_mark_is rows b c.args.j c.self.invariant there low) c.number-mark.ensures in
    let same : n ≡ (get_or (ports_of (cells_by rows b)) c.args.j no_port).mark * 256 + c.args.n = c.port_and_mark.ensures ∙ ap (λ (m : ℕ). m * 256 + c.args.n) (mark_read rows b c.args.j c.number-mark.result c.self.invariant there read) in
    laid_after rows _ b (10 + (c.args.j * 2 + 1)) (number ((get_or (ports_of (cells_by rows b)) c.args.j no_port).mark * 256 + c.args.n)) (number n) (with_port c.args.j c.args.n) (port_changes rows b c.args.j c.args.n c.self.invariant there low c.requires.small) (ap number same)
    (c.set_number.ensures ∙ ap (λ (k : ℕ). with_items b (set (items_in rows b) k (number n)) rows) word)

pub returns : goal.returns
returns c =
    let rows = c.self.inside.rows.rows in let b = cell_id c.args.c in let there : IsSome (cells_by rows b) = subst (λ (z : List Row). IsSome (cells_by z b)) (sym c.self.view_is) c.requires.there in
    let low : c.args.j < length (ports_of (cells_by rows b)) = subst (λ (z : List Row). c.args.j < length (ports_of (cells_by z b))) (sym c.self.view_is) c.requires.below in
    let word = c.number_word-2.ensures in let first = c.number_word.ensures in let n = c.port_and_mark.result in
    let read = number_read _ _ _ (ap (λ (k : ℕ). get_or (items_in rows b) k blank) first ∙ port_and_mark_is rows b c.args.j c.self.invariant there low) c.number-mark.ensures in
    let same : n ≡ (get_or (ports_of (cells_by rows b)) c.args.j no_port).mark * 256 + c.args.n = c.port_and_mark.ensures ∙ ap (λ (m : ℕ). m * 256 + c.args.n) (mark_read rows b c.args.j c.number-mark.result c.self.invariant there read) in
    cells_after rows _ b (10 + (c.args.j * 2 + 1)) (number ((get_or (ports_of (cells_by rows b)) c.args.j no_port).mark * 256 + c.args.n)) (number n) (with_port c.args.j c.args.n) (port_changes rows b c.args.j c.args.n c.self.invariant there low c.requires.small) (ap number same)
    (c.set_number.ensures ∙ ap (λ (k : ℕ). with_items b (set (items_in rows b) k (number n)) rows) word)
    ∙ ap (λ (z : List Row). alter (cells_by z) b (option_map (with_port c.args.j c.args.n))) c.self.view_is
