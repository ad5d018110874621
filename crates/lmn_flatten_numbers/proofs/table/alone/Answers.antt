use Rattle.lmn_flatten_numbers.proofs.Tables.{alone_tells}
use Rattle.lmn_flatten_numbers.proofs.table.alone.Goals as goal

pub returns : goal.returns
returns c = alone_tells c.args.tally c.unwrap-first.result c.unwrap_or-third.result c.unwrap-first.ensures c.unwrap_or-third.ensures
