use Rattle.std.proofs.Common.{rules}
use Rattle.lmn_store_slab.proofs.CellLemmas.{blank_is}
use Rattle.lmn_store_slab.proofs.cells.blank.Goals as goal

pub returns : goal.returns
returns c = blank_is c.args.functor c.from_vec.result (search rules)
