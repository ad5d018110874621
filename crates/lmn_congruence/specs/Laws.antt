-- The laws of congruence.
use Rattle.std.specs.Prelude.{ℕ, ◌↔◌}
use Rattle.lmn_congruence.specs.Process.{Process, Free, Linked, Closed}
use Rattle.lmn_congruence.specs.Congruence.{Congruent}
use Rattle.lmn_congruence.specs.Regions.{Region, region_process}
use Rattle.lmn_congruence.specs.Same.{Same}

-- both sides of a congruence are linked
abbrev pub BothSidesLinked : Type 0
BothSidesLinked = (P Q : Process) → Congruent P Q → Linked P × Linked Q

-- congruent processes have the same free links
abbrev pub SameFreeLinks : Type 0
SameFreeLinks = (P Q : Process) → Congruent P Q → (x : ℕ) → Free x P ↔ Free x Q

-- solids have congruent processes exactly where they are the same
abbrev pub CongruentSolids : Type 0
CongruentSolids = (S S' : Region) → Closed (region_process S) →
    Congruent (region_process S) (region_process S') ↔ Same S S'
