-- How many items there are of a kind, each counted with a weight.
use Rattle.std.specs.Prelude.{◌≡◌, ℕ, ◌+◌, ◌↔◌, List, [], ◌∷◌, Option, Some, None, IsSome}
use Rattle.lmn_store_heap.specs.Lists.{Distinct}
use Rattle.lmn_base.specs.Lists.{In}

abbrev pub weight : {X : Type 0} → (X → ℕ) → Option X → ℕ
weight w None = 0
weight w (Some x) = w x

abbrev pub total : {X : Type 0} → (X → ℕ) → (ℕ → Option X) → List ℕ → ℕ
total w f [] = 0
total w f (k ∷ ks) = weight w (f k) + total w f ks

-- There are finitely many items, and their weights are n together.
pub record Census {X : Type 0} (w : X → ℕ) (f : ℕ → Option X) (n : ℕ) : Type 0 where
  pub keys : List ℕ
  pub once : Distinct keys
  pub all : (k : ℕ) → In k keys ↔ IsSome (f k)
  pub weighs : n ≡ total w f keys
