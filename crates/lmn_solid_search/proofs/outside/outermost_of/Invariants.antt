use Rattle.std.proofs.Common.{◌≡◌, ◌-◌, length}
use Rattle.lmn_solid_search.specs.Placing.{outermost_in, outermost_from}
use Rattle.lmn_solid_search.proofs.outside.outermost_of.Given as goal

abbrev pub invariant-loop-step : goal.invariant-loop-step
invariant-loop-step l = outermost_from (length l.membranes - l.step) l.membranes l.outer ≡ outermost_in l.membranes l.fn.membrane
