use Rattle.lmn_receipt_search.proofs.tables.SearchTables.of.Goals as goal

pub new-requires : goal.new-requires
new-requires c = (c.args.solid.now, c.in_ok-flat.ensures)

pub returns : goal.returns
returns c = record { flat = c.in_ok-flat.ensures; sizes = c.in_ok-sizes.ensures; room = c.in_ok-room.ensures }
