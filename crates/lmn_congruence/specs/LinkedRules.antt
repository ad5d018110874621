-- When a rule is linked.
use Rattle.std.specs.Prelude.{ℕ, ◌≡◌, ◌+◌, ◌⊎◌, List, [], ◌∷◌}
use Rattle.lmn_congruence.specs.Links.{places, one_if_same}
use Rattle.lmn_congruence.specs.Rules.{Leaf, atom_leaf, connector_leaf, typed_leaf, Level, level, Levels, no_level, level_and, Rule, head_of, body_of}

-- how often a link occurs in a leaf
abbrev pub leaf_occurrences : ℕ → Leaf → ℕ
leaf_occurrences x (atom_leaf a ys) = places x ys
leaf_occurrences x (connector_leaf y z) = one_if_same x y + one_if_same x z
leaf_occurrences x (typed_leaf p y) = one_if_same x y

-- how often a link occurs in leaves
abbrev pub leaves_occurrences : ℕ → List Leaf → ℕ
leaves_occurrences x [] = 0
leaves_occurrences x (l ∷ ls) = leaf_occurrences x l + leaves_occurrences x ls

-- how often a link occurs in a level, inside membranes and not inside nested rules
abbrev mutual
  pub level_occurrences : ℕ → Level → ℕ
  level_occurrences x (level leaves membranes contexts rule_contexts rules) =
      leaves_occurrences x leaves + levels_occurrences x membranes

  pub levels_occurrences : ℕ → Levels → ℕ
  levels_occurrences x no_level = 0
  levels_occurrences x (level_and l ls) = level_occurrences x l + levels_occurrences x ls

-- each link of the rule occurs exactly twice in its head and body
abbrev pub LinkedRule : Rule → Type 0
LinkedRule r = (x : ℕ) →
    let n = level_occurrences x (head_of r) + level_occurrences x (body_of r) in (n ≡ 0) ⊎ (n ≡ 2)
