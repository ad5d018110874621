-- Congruence to a process without connectors, as a map of links.
use Rattle.std.specs.Prelude.{ℕ, ◌≡◌}
use Rattle.lmn_congruence.specs.Process.{Process, nothing, connector, atom, pair, membrane, rule, Free}
use Rattle.lmn_congruence.specs.Fused.{Joins, fused}
use Rattle.lmn_congruence.specs.FreeNumber.{free_number}
use Rattle.lmn_congruence.specs.UpToOrder.{Reordered}

-- each membrane is crossed by as many links as its atoms need: its content has as many free links as it has
-- when the connectors are fused by the map
abbrev pub SameCrossings : (ℕ → ℕ) → Process → Type 0
SameCrossings v nothing = Unit {0}
SameCrossings v (connector x y) = Unit {0}
SameCrossings v (atom a xs) = Unit {0}
SameCrossings v (pair P Q) = SameCrossings v P × SameCrossings v Q
SameCrossings v (membrane P) = (free_number (fused v P) ≡ free_number P) × SameCrossings v P
SameCrossings v (rule r) = Unit {0}

-- P reads as N by one map of links.
--   leaves     free links stay as they are
--   joins      the two links of each connector have one image
--   order      P with each link at its image and without its connectors is N, up to order and grouping
--   crossings  the links across each membrane are as many as in N
pub record ReadsByMap (P N : Process) : Type 0 where
  pub to : ℕ → ℕ
  pub leaves : (x : ℕ) → Free x P → to x ≡ x
  pub joins : Joins to P
  pub order : Reordered (fused to P) N
  pub crossings : SameCrossings to P
