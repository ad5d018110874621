use Rattle.std.proofs.Common.{◌≡◌, drop}
use Rattle.lmn_verify_code.specs.Counted.{told_all, copy_counted}
use Rattle.lmn_verify_code.proofs.ports.count_copies.Given as goal

abbrev pub invariant-loop-port : goal.invariant-loop-port
invariant-loop-port l = told_all copy_counted l.counts (drop l.port-index l.stands) ≡ told_all copy_counted l.initial.counts l.stands
