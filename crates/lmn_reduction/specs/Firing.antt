-- When a rule fires.
use Rattle.std.specs.Prelude.{List, [], ◌∷◌, ◌++◌}
use Rattle.lmn_congruence.specs.Process.{Process, pair, rule}
use Rattle.lmn_congruence.specs.Rules.{Name, Leaf, typed_leaf, Level, level, Levels, no_level, level_and, Rule, head_of, guard_of, body_of}
use Rattle.lmn_reduction.specs.Assignments.{Assignment, Proper}
use Rattle.lmn_reduction.specs.Instances.{Instance}
use Rattle.lmn_reduction.specs.Guards.{GuardHolds}

-- the typed contexts that stand in a level, at any depth
abbrev pub typed_leaves : List Leaf → List Name
typed_leaves [] = []
typed_leaves (typed_leaf p x ∷ ls) = p ∷ typed_leaves ls
typed_leaves (_ ∷ ls) = typed_leaves ls

abbrev mutual
  pub typed_contexts : Level → List Name
  typed_contexts (level leaves membranes contexts rule_contexts rules) =
      typed_leaves leaves ++ typed_contexts_in membranes

  pub typed_contexts_in : Levels → List Name
  typed_contexts_in no_level = []
  typed_contexts_in (level_and l ls) = typed_contexts l ++ typed_contexts_in ls

-- A is an instance of the head of a rule, for one assignment for which the guard holds
pub record Matches (r : Rule) (A : Process) : Type 0 where
  pub assignment : Assignment
  pub proper : Proper assignment
  pub guard : GuardHolds (typed_contexts (head_of r)) assignment (guard_of r)
  pub head : Instance assignment (head_of r) A

-- For one assignment the guard of the rule holds, A is an instance of its head and B one of its body.
pub record Fires (r : Rule) (A B : Process) : Type 0 where
  pub matches : Matches r A
  pub body : Instance matches.assignment (body_of r) B

-- Ueda's rule R6: an instance of the head beside the rule becomes one of the body, and the rule stays
pub data Firing : Process → Process → Type 0 where
  fires : {r : Rule} {A B : Process} → Fires r A B → Firing (pair A (rule r)) (pair B (rule r))
