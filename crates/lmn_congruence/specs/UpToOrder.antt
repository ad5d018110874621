-- Processes up to the order of what stands side by side.
use Rattle.std.specs.Prelude.{◌≡◌}
use Rattle.lmn_congruence.specs.Process.{Process, nothing, pair, membrane}

-- The same process up to the order and the grouping of what stands side by side, at any depth: rules E1, E2,
-- E3, E5 and E6 alone.
pub data Reordered : Process → Process → Type 0 where
  r_unit : {P : Process} → Reordered (pair nothing P) P
  r_swap : {P Q : Process} → Reordered (pair P Q) (pair Q P)
  r_regroup : {P Q S : Process} → Reordered (pair P (pair Q S)) (pair (pair P Q) S)
  r_beside : {P P' Q : Process} → Reordered P P' → Reordered (pair P Q) (pair P' Q)
  r_inside : {P P' : Process} → Reordered P P' → Reordered (membrane P) (membrane P')
  r_same : {P Q : Process} → P ≡ Q → Reordered P Q
  r_back : {P Q : Process} → Reordered P Q → Reordered Q P
  r_chain : {P Q S : Process} → Reordered P Q → Reordered Q S → Reordered P S
