use Rattle.std.proofs.Common.{◌≡◌, length}
use Rattle.lmn_web_cells.specs.CellIds.{cell_id}
use Rattle.lmn_web.specs.Webs.{cells_in}
use Rattle.lmn_web_merging.specs.Keepers.{merged_by}
use Rattle.lmn_web.specs.declared.kind.CellKind.TheVariants.{Atom, Membrane}
use Rattle.lmn_store_web.specs.WebHeaps.{Posts}
use Rattle.lmn_store_web.specs.Frees.{MayFree, Frees}
use Rattle.lmn_store_web.proofs.freeing.free_mems.Given as goal

abbrev pub invariant-loop-m : goal.invariant-loop-m
invariant-loop-m l = record {
  freed : (p : Posts) → MayFree p (cell_id l.line) l.initial.rules.slots (merged_by l.initial.web) l.initial.count l.initial.spare
      → MayFree p (cell_id l.line) l.rules.slots (merged_by l.web) l.count l.spare × Frees p (cell_id l.line) l.initial.rules.slots (merged_by l.initial.web) l.rules.slots (merged_by l.web);
  atoms : cells_in (merged_by l.web) (cell_id l.line) Atom ≡ cells_in (merged_by l.initial.web) (cell_id l.line) Atom;
}

abbrev pub decreases-loop-m : goal.decreases-loop-m
decreases-loop-m l = length (cells_in (merged_by l.web) (cell_id l.line) Membrane)
