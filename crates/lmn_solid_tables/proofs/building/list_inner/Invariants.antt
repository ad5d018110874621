use Rattle.std.proofs.Common.{ℕ, ◌≡◌}
use Rattle.std.specs.Prelude.{slice_get}
use Rattle.std.specs.Option.{option_map}
use Rattle.lmn_solid_tables.specs.Building.{children, with_inner}
use Rattle.lmn_solid_tables.proofs.building.list_inner.Given as goal

-- each membrane has those of the first ones that stand in it
abbrev pub invariant-loop-number : goal.invariant-loop-number
invariant-loop-number l =
    (m : ℕ) → slice_get l.membranes.items m ≡ option_map (with_inner (children l.fn.membranes.items l.number m)) (slice_get l.fn.membranes.items m)
