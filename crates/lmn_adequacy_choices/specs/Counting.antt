-- How many rules the strategy asks in a region.
use Rattle.std.specs.Prelude.{ℕ, zero, suc, ◌<◌, ◌+◌, List, [], ◌∷◌, length}
use Rattle.lmn_congruence.specs.Regions.{Region, Regions, region, no_region, region_and}
use Rattle.lmn_adequacy.specs.Embedding.{EmbedsIn}

abbrev mutual
  -- how many rules stand in the membrane at the end of a path
  pub rule_count_at : List ℕ → Region → ℕ
  rule_count_at [] (region atoms membranes rules) = length rules
  rule_count_at (n ∷ path) (region atoms membranes rules) = rule_count_below n path membranes

  -- the same, where the path goes on in the membrane with a number
  pub rule_count_below : ℕ → List ℕ → Regions → ℕ
  rule_count_below n path no_region = 0
  rule_count_below zero path (region_and m ms) = rule_count_at path m
  rule_count_below (suc n) path (region_and m ms) = rule_count_below n path ms

-- Where the membranes at the ends of paths are asked in this order, and of each its rules in the order of their list, until one embeds, so
-- many rules are asked: all of the membranes before the one chosen, and of that those up to the one chosen.
pub data AsksRulesOf (S : Region) : List (List ℕ) → ℕ → Type 0 where
  asks_none : AsksRulesOf S [] 0
  asks_all : {path : List ℕ} {paths : List (List ℕ)} {n : ℕ} → ((k : ℕ) (f : List ℕ) → ¬ (EmbedsIn path k f S)) → AsksRulesOf S paths n →
      AsksRulesOf S (path ∷ paths) (rule_count_at path S + n)
  asks_until : {path : List ℕ} {paths : List (List ℕ)} {k : ℕ} {f : List ℕ} → EmbedsIn path k f S → ((j : ℕ) → j < k → (g : List ℕ) → ¬ (EmbedsIn path j g S)) →
      AsksRulesOf S (path ∷ paths) (k + 1)
