use Rattle.std.proofs.Common.{◌≡◌, take}
use Rattle.lmn_flatten.proofs.walk.with_own.Given as goal

abbrev pub invariant-loop-link : goal.invariant-loop-link
invariant-loop-link l = l.all ≡ take l.link-index l.links
