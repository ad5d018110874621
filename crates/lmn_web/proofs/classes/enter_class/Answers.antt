use Rattle.std.proofs.Common.{ap}
use Rattle.std.specs.Option.{option_map}
use Rattle.lmn_web_cells.specs.CellIds.{cell_id}
use Rattle.lmn_web.proofs.classes.enter_class.Goals as goal

pub file_last-requires : goal.file_last-requires
file_last-requires c = let r = c.requires c.if-filed.true in (r.0, r.1, r.3.may)

pub file_before-requires : goal.file_before-requires
file_before-requires c =
    let r = c.requires c.if-filed.true in let e = r.3 in let i = e.inside (cell_id c.in-Some.d) (ap (option_map cell_id) c.in-Some.is) in
    (r.0, r.1, e.may, i.0, i.1)
