-- The link instructions of a body, over plain maps of ports.
use Rattle.std.specs.Prelude.{ℕ, ◌≡◌, ◌≢◌, ◌⊎◌, List, [], ◌∷◌, Some, None}
use Rattle.lmn_congruence_splice.specs.Ports.{Partners, Joined}
use Rattle.lmn_base.specs.Graphs.{Port}

-- What ties two ends of a link. A new port is one of an atom that the body makes, an old one of an atom
-- that the head takes.
--   newlink   two new ports
--   relink    a new port and an old one
--   unify     two old ports
pub data Tie (P : Type 0) : Type 0 where
  newlink : P → P → Tie P
  relink : P → P → Tie P
  unify : P → P → Tie P

-- What a tie does: a new port is joined itself, and of an old one the partner that it has at that moment. Two
-- old ports that are partners of each other leave nothing.
abbrev pub Effect : Tie Port → Partners → Partners → Type 0
Effect (newlink p q) k m = Joined k p q m
Effect (relink p h) k m = (x : Port) → k h ≡ Some x → Joined k p x m
Effect (unify g h) k m = (x y : Port) → k g ≡ Some x → k h ≡ Some y →
    (x ≡ h → (r : Port) → m r ≡ k r) × (x ≢ h → Joined k x y m)

-- one tie after the other
pub data Effects : List (Tie Port) → Partners → Partners → Type 0 where
  done : {k : Partners} → Effects [] k k
  next : {t : Tie Port} {ts : List (Tie Port)} {k m n : Partners} → Effect t k m → Effects ts m n → Effects (t ∷ ts) k n

-- the two ports of a tie
abbrev pub first_of : Tie Port → Port
first_of (newlink p q) = p
first_of (relink p h) = p
first_of (unify g h) = g

abbrev pub second_of : Tie Port → Port
second_of (newlink p q) = q
second_of (relink p h) = h
second_of (unify g h) = h

abbrev pub IsNew : Port → Tie Port → Type 0
IsNew r (newlink p q) = (r ≡ p) ⊎ (r ≡ q)
IsNew r (relink p h) = r ≡ p
IsNew r (unify g h) = ⊥

abbrev pub IsOld : Port → Tie Port → Type 0
IsOld r (newlink p q) = ⊥
IsOld r (relink p h) = r ≡ h
IsOld r (unify g h) = (r ≡ g) ⊎ (r ≡ h)

abbrev pub AnyNew : Port → List (Tie Port) → Type 0
AnyNew r [] = ⊥
AnyNew r (t ∷ ts) = IsNew r t ⊎ AnyNew r ts

abbrev pub AnyOld : Port → List (Tie Port) → Type 0
AnyOld r [] = ⊥
AnyOld r (t ∷ ts) = IsOld r t ⊎ AnyOld r ts

-- Before these ties the live ports are those that live in the end, without the new ones, and the old ones.
abbrev pub Live : (Port → Type 0) → List (Tie Port) → Port → Type 0
Live F ts r = (F r × (AnyNew r ts → ⊥)) ⊎ AnyOld r ts

-- No port stands in two ties or twice in one, and new ports of different ties have different colours.
abbrev pub Apart : (Port → ℕ) → List (Tie Port) → Type 0
Apart c [] = Unit {0}
Apart c (t ∷ ts) =
    (first_of t ≢ second_of t) × ((r : Port) → IsNew r t → AnyNew r ts → ⊥) × ((r : Port) → IsOld r t → AnyOld r ts → ⊥)
    × ((r q : Port) → IsNew r t → AnyNew q ts → c r ≢ c q) × Apart c ts

-- The ties fit ports that live in the end, colours and partners.
--   apart   see there
--   made    a new port lives in the end, and has no partner yet
--   gone    an old port doesn't live in the end
--   fresh   no live port has the colour of a new one
pub record TiesFit (F : Port → Type 0) (c : Port → ℕ) (k : Partners) (ts : List (Tie Port)) : Type 0 where
  pub apart : Apart c ts
  pub made : (r : Port) → AnyNew r ts → F r
  pub no_partner : (r : Port) → AnyNew r ts → k r ≡ None
  pub gone : (r : Port) → AnyOld r ts → F r → ⊥
  pub fresh : (r q : Port) → AnyNew r ts → Live F ts q → c r ≢ c q

-- a map of colours takes the two ports of each tie to one
abbrev pub Ties : (ℕ → ℕ) → (Port → ℕ) → List (Tie Port) → Type 0
Ties m c [] = Unit {0}
Ties m c (t ∷ ts) = (m (c (first_of t)) ≡ m (c (second_of t))) × Ties m c ts
