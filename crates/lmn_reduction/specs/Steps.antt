-- Steps and settling steps.
use Rattle.std.specs.Prelude.{ℕ, ◌≢◌}
use Rattle.lmn_congruence.specs.Process.{Process, connector, pair, membrane, Free, Linked}
use Rattle.lmn_congruence.specs.Congruence.{Congruent}
use Rattle.lmn_reduction.specs.Firing.{Firing}

-- The finite derivations by Ueda's rules R1 (beside), R2 (inside) and R3 (up to congruence) that have one leaf.
-- By our profile all processes in a derivation are linked. This is written where it doesn't follow, and the
-- law `steps_are_linked` says it of every derivation.
pub data Derived (Leaf : Process → Process → Type 0) : Process → Process → Type 0 where
  leaf : {P Q : Process} → Leaf P Q → Linked P → Linked Q → Derived Leaf P Q
  beside : {P P' Q : Process} → Derived Leaf P P' → Linked (pair P Q) → Linked (pair P' Q) →
      Derived Leaf (pair P Q) (pair P' Q)
  inside : {P P' : Process} → Derived Leaf P P' → Derived Leaf (membrane P) (membrane P')
  up_to : {P P' Q' Q : Process} → Congruent P P' → Derived Leaf P' Q' → Congruent Q' Q → Derived Leaf P Q

-- Ueda's rules R4 and R5: a connector of two distinct free links goes out of a membrane, or into one. The side
-- conditions are ours as they stand: no agreement with the paper's own print of them is claimed.
pub data Settling : Process → Process → Type 0 where
  out : {P : Process} (x y : ℕ) → x ≢ y →
      Free x (membrane (pair (connector x y) P)) → Free y (membrane (pair (connector x y) P)) →
      Settling (membrane (pair (connector x y) P)) (pair (connector x y) (membrane P))
  into : {P : Process} (x y : ℕ) → x ≢ y → Free x P → Free y P →
      Settling (pair (connector x y) (membrane P)) (membrane (pair (connector x y) P))

-- one rule fires; one connector crosses one membrane: as laws and lemmas tell it
abbrev pub Step : Process → Process → Type 0
Step = Derived Firing

abbrev pub SettlingStep : Process → Process → Type 0
SettlingStep = Derived Settling
