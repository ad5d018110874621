-- What a process weighs, and what a level of a rule does.
use Rattle.std.specs.Prelude.{ℕ, ◌+◌, ◌==◌, Bool, List, [], ◌∷◌, length, if◌then◌else◌}
use Rattle.lmn_congruence.specs.Process.{Process, nothing, connector, atom, pair, membrane, rule}
use Rattle.lmn_congruence.specs.Rules.{Label, Leaf, Level, Levels, Name, atom_leaf, connector_leaf, integer, level, level_and, named, no_level, typed_leaf}

-- What each kind of atom weighs.
--   of_functor   an atom by its label and the number of its links
--   of_integer   every integer with one link
--   of_membrane  a membrane, without what stands in it
pub record Weighing : Type 0 where
  pub of_functor : Label → ℕ → ℕ
  pub of_integer : ℕ
  pub of_membrane : ℕ

-- the weight of an atom with a label and a number of links
abbrev pub atom_weight : Weighing → Label → ℕ → ℕ
atom_weight w (named n) arity = w.of_functor (named n) arity
atom_weight w (integer z) arity = if arity == 1 then w.of_integer else w.of_functor (integer z) arity

-- the weight of a process: of its atoms and its membranes, at every depth; connectors and rules weigh nothing
abbrev pub weight : Weighing → Process → ℕ
weight w nothing = 0
weight w (connector x y) = 0
weight w (atom a xs) = atom_weight w a (length xs)
weight w (pair P Q) = weight w P + weight w Q
weight w (membrane P) = w.of_membrane + weight w P
weight w (rule r) = 0

-- the weight of a leaf, where `is_int` tells which contexts stand for integers; other contexts weigh nothing
abbrev pub leaf_weight : Weighing → (Name → Bool) → Leaf → ℕ
leaf_weight w is_int (atom_leaf a xs) = atom_weight w a (length xs)
leaf_weight w is_int (connector_leaf x y) = 0
leaf_weight w is_int (typed_leaf p x) = if is_int p then w.of_integer else 0

abbrev pub leaves_weight : Weighing → (Name → Bool) → List Leaf → ℕ
leaves_weight w is_int [] = 0
leaves_weight w is_int (l ∷ ls) = leaf_weight w is_int l + leaves_weight w is_int ls

-- the weight of a level: of its leaves, and of its membranes with their levels
abbrev mutual
  pub level_weight : Weighing → (Name → Bool) → Level → ℕ
  level_weight w is_int (level leaves membranes contexts rule_contexts rules) =
      leaves_weight w is_int leaves + membranes_weight w is_int membranes

  pub membranes_weight : Weighing → (Name → Bool) → Levels → ℕ
  membranes_weight w is_int no_level = 0
  membranes_weight w is_int (level_and l ls) = (w.of_membrane + level_weight w is_int l) + membranes_weight w is_int ls
