use Rattle.std.proofs.Common.{length}
use Rattle.std.specs.Option.{option_map}
use Rattle.lmn_store_heap.specs.Lists.{from}
use Rattle.lmn_web_cells.specs.CellIds.{cell_id}
use Rattle.lmn_web.specs.declared.kind.CellKind.TheVariants.{Atom}
use Rattle.lmn_web.specs.Webs.{web_by, cells_in, is_labelled, label_class, with_class}
use Rattle.lmn_web.proofs.SeekLemmas.{Seeks}
use Rattle.lmn_web.proofs.web.Web.seek.Given as goal

abbrev pub invariant-loop-at : goal.invariant-loop-at
invariant-loop-at l =
    let w = web_by l.self in
    Seeks (is_labelled w l.label l.arity) (with_class w (label_class l.label) l.arity (cells_in w (cell_id l.fn.home) Atom)) (option_map cell_id l.fn.start) (option_map cell_id l.at)

abbrev pub decreases-loop-at : goal.decreases-loop-at
decreases-loop-at l = let w = web_by l.self in length (from (option_map cell_id l.at) (with_class w (label_class l.label) l.arity (cells_in w (cell_id l.fn.home) Atom)))
