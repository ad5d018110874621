use Rattle.std.proofs.Common.{◌≤◌, ap, arith, length}
use Rattle.lmn_test_rows.proofs.reading.read_of.Goals as goal

pub read-requires : goal.read-requires
read-requires g c = record { room = let short : length c.args.text.now ≤ 4194304 = search in omega (arith, ap length c.requires, short) }
