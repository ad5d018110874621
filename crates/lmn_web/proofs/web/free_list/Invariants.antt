use Rattle.std.proofs.Common.{length}
use Rattle.std.specs.Option.{option_map}
use Rattle.lmn_store_heap.specs.Lists.{from}
use Rattle.lmn_web_cells.specs.Cells.{cells_by}
use Rattle.lmn_web_cells.specs.CellIds.{cell_id}
use Rattle.lmn_web.specs.declared.kind.CellKind.TheVariants.{Atom}
use Rattle.lmn_web.specs.Webs.{list_in}
use Rattle.lmn_web.proofs.EmptyLemmas.{Frees}
use Rattle.lmn_web.proofs.web.free_list.Given as goal

abbrev pub invariant-loop-at : goal.invariant-loop-at
invariant-loop-at l = Frees (cells_by l.fn.cells) (cells_by l.cells) (list_in (cells_by l.fn.cells) (cell_id l.fn.m) Atom) (option_map cell_id l.at)

abbrev pub decreases-loop-at : goal.decreases-loop-at
decreases-loop-at l = length (from (option_map cell_id l.at) (list_in (cells_by l.fn.cells) (cell_id l.fn.m) Atom))
