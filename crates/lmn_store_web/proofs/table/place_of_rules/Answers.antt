use Rattle.std.proofs.Common.{◌≡◌, Some, sym, ◌∙◌, arith}
use Rattle.lmn_web_cells.specs.CellIds.{cell_id}
use Rattle.lmn_web_merging.specs.Keepers.{merged_by}
use Rattle.lmn_store_web.proofs.TableLemmas.{labelled_there, row_below}
use Rattle.lmn_store_web.proofs.table.place_of_rules.Goals as goal

pub label-requires : goal.label-requires
label-requires c = labelled_there (merged_by c.args.web.now (cell_id c.args.m)) c.requires.0 c.requires.1.0

pub overflow_cast-result : goal.overflow_cast-result
overflow_cast-result c =
    let z : Some c.requires.0 ≡ Some c.label.result = sym c.requires.1.0 ∙ c.label.ensures in
    let same : c.requires.0 ≡ c.label.result = (cc) in
    let row = row_below c.args.table.now.slots c.requires.0 c.requires.1.1 in
    let room = c.capacity-room.ensures.slots in
    let top = c.capacity-room.type_inv in
    omega (arith, same, row, room, top)

pub returns : goal.returns
returns c = c.label.ensures
