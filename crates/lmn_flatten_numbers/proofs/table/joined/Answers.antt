use Rattle.lmn_flatten_numbers.proofs.Tables.{joined_tells}
use Rattle.lmn_flatten_numbers.proofs.table.joined.Goals as goal

pub returns-in-Some : goal.returns-in-Some
returns-in-Some c = joined_tells c.args.head c.args.body c.followed_by-places.result c.in-Some.count c.unwrap-first.result c.unwrap_or.result c.followed_by-places.ensures.places c.unwrap-first.ensures c.unwrap_or.ensures c.in-Some.ensures.1
