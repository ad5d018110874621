-- Tables of the classes into which connectors join links.
use Rattle.std.specs.Prelude.{ℕ, ◌≡◌, ◌<◌, ◌≤◌, List, [], ◌∷◌, length, slice_index_or}

-- a table in which no link has a greater one
pub record IsForest (table : List ℕ) : Type 0 where
  pub down : (x : ℕ) → x < length table → slice_index_or table x 0 ≤ x

-- a table of classes: the link that a link has is of its class, and where that is itself it is the class's name
pub record Represents (table : List ℕ) (m : ℕ → ℕ) : Type 0 where
  pub same : (x : ℕ) → x < length table → m (slice_index_or table x 0) ≡ m x
  pub root : (x : ℕ) → x < length table → slice_index_or table x 0 ≡ x → m x ≡ x

-- both links of each pair
abbrev pub PairsBelow : ℕ → List (ℕ × ℕ) → Type 0
PairsBelow n [] = Unit {0}
PairsBelow n (e ∷ es) = (e.0 < n) × (e.1 < n) × PairsBelow n es

-- the links of ports
abbrev pub LinksBelow : {P : Type 0} → ℕ → List (P × ℕ) → Type 0
LinksBelow n [] = Unit {0}
LinksBelow n (e ∷ es) = (e.1 < n) × LinksBelow n es
