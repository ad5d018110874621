use Rattle.std.proofs.Common.{rules}
use Rattle.lmn_store_web.specs.Tables.{with_these}
use Rattle.lmn_store_web.proofs.table.push.Goals as goal

pub push-requires : goal.push-requires
push-requires c = c.requires (with_these c.in-Some.rules.now) (search rules)
