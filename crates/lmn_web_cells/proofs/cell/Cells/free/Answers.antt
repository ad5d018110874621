use Rattle.std.proofs.Common.{◌≡◌, arith, ◌∙◌, List, None, IsSome, length, sym, subst, ap}
use Rattle.lmn_web_cells.specs.Rows.{Row}
use Rattle.lmn_web_cells.specs.Cells.{cells_by, numbers_of, ports_of}
use Rattle.lmn_store_heap.specs.Heap.{alter}
use Rattle.lmn_web_cells.specs.CellIds.{cell_id}
use Rattle.lmn_web_cells.proofs.MadeLemmas.{freed, few_ports, count_words}
use Rattle.lmn_web_cells.proofs.cell.Cells.free.Goals as goal

pub atom_words-requires : goal.atom_words-requires
atom_words-requires c =
    let n = cell_id c.args.c in let there : IsSome (cells_by c.self.inside.rows.rows n) = subst (λ (z : List Row). IsSome (cells_by z n)) (sym c.self.view_is) c.requires.there in
    let ports : length (ports_of (cells_by c.self.inside.rows.rows n)) ≡ c.args.ports = subst (λ (z : List Row). length (ports_of (cells_by z n)) ≡ c.args.ports) (sym c.self.view_is) c.requires.ports in
    few_ports c.self.inside.rows.rows n c.args.ports c.self.invariant there ports

pub keep-requires : goal.keep-requires
keep-requires c =
    let n = cell_id c.args.c in let there : IsSome (cells_by c.self.inside.rows.rows n) = subst (λ (z : List Row). IsSome (cells_by z n)) (sym c.self.view_is) c.requires.there in
    let ports : length (ports_of (cells_by c.self.inside.rows.rows n)) ≡ c.args.ports = subst (λ (z : List Row). length (ports_of (cells_by z n)) ≡ c.args.ports) (sym c.self.view_is) c.requires.ports in
    let six : length (numbers_of (cells_by c.self.inside.rows.rows n)) ≡ 6 = subst (λ (z : List Row). length (numbers_of (cells_by z n)) ≡ 6) (sym c.self.view_is) c.requires.numbers in
    let words = count_words c.self.inside.rows.rows n c.args.ports c.self.invariant there six ports in
    (c.args.c.start, (let e = c.atom_words.ensures in omega (arith, e)), words ∙ sym c.atom_words.ensures)

pub invariant_of-self : goal.invariant_of-self
invariant_of-self c = (freed c.self.inside.rows.rows c.keep.new.self.rows (cell_id c.args.c) c.self.invariant c.keep.ensures).laid

pub returns : goal.returns
returns c = (freed c.self.inside.rows.rows c.keep.new.self.rows (cell_id c.args.c) c.self.invariant c.keep.ensures).cells ∙ ap (λ (z : List Row). alter (cells_by z) (cell_id c.args.c) (λ _. None)) c.self.view_is
