use Rattle.std.proofs.Common.{◌≡◌, ℕ}
use Rattle.lmn_web_cells.specs.Rows.{items_in, with_items, place_of}
use Rattle.lmn_web_cells.specs.Fillings.{ports_filled}
use Rattle.lmn_web_cells.proofs.filling.fill_from.Given as goal

abbrev pub invariant-loop-j : goal.invariant-loop-j
invariant-loop-j l = (i : ℕ) → items_in l.fn.rows.rows (place_of l.at) ≡ ports_filled i l.ports l.fn.first → l.rows.rows ≡ with_items (place_of l.at) (ports_filled i l.ports l.j) l.fn.rows.rows
