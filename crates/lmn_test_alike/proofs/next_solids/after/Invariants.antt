use Rattle.lmn_solid_next.specs.Searching.{IsSolidBy}
use Rattle.lmn_test_alike.proofs.next_solids.after.Given as goal

abbrev pub invariant-loop : goal.invariant-loop
invariant-loop g l = IsSolidBy l.names l.accepted.plain l.solid
