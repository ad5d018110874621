use Rattle.std.proofs.Common.{length}
use Rattle.std.specs.Option.{option_map}
use Rattle.lmn_store_heap.specs.Lists.{from}
use Rattle.lmn_web_cells.specs.Cells.{cells_by}
use Rattle.lmn_web_cells.specs.CellIds.{cell_id}
use Rattle.lmn_web.specs.declared.kind.CellKind.TheVariants.{Atom}
use Rattle.lmn_web.specs.Webs.{list_in}
use Rattle.lmn_web.specs.Classes.{is_key, key_by, key_in}
use Rattle.lmn_web.proofs.SeekLemmas.{Seeks}
use Rattle.lmn_web.proofs.classes.seek.Given as goal

abbrev pub invariant-loop-at : goal.invariant-loop-at
invariant-loop-at l =
    let f = cells_by l.cells in
    Seeks (λ a. is_key (key_in f a) (key_by l.key)) (list_in f (cell_id l.fn.m) Atom) (option_map cell_id l.fn.start) (option_map cell_id l.at)

abbrev pub decreases-loop-at : goal.decreases-loop-at
decreases-loop-at l = length (from (option_map cell_id l.at) (list_in (cells_by l.cells) (cell_id l.fn.m) Atom))
