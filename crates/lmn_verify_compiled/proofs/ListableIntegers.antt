-- A listing keeps the integers of a rule that a text can spell.
use Rattle.std.proofs.Common.{ℕ, ℤ, pos, negsuc, FitsSigned, w64, List, [], ◌∷◌, ◌++◌, map, subst, arith}
use Rattle.std.specs.List.{AllByRecursion, flat_map}
use Rattle.lmn_base.specs.declared.guard.Cond.{Cond}
use Rattle.lmn_base.specs.declared.guard.Cond.TheVariants.{Kind, Compare, Equal, Differ}
use Rattle.lmn_base.specs.declared.guard.Expr.{Expr}
use Rattle.lmn_base.specs.declared.guard.Expr.TheVariants as expr
use Rattle.lmn_base.specs.declared.level.Leaf.{Leaf}
use Rattle.lmn_base.specs.declared.level.Level.{Level}
use Rattle.lmn_base.specs.declared.level.Level.TheFolds.{fold-roll-Level, ind-Level}
use Rattle.lmn_base.specs.Levels.{leaves_of}
use Rattle.lmn_base.proofs.Lists.{all_append}
use Rattle.lmn_congruence.specs.Rules as tree
use Rattle.lmn_congruence.specs.Translation.{leaf_of, levels, level_step, level_of, expression_of, condition_of}
use Rattle.lmn_instr_reading.specs.Reading.{IsIn64Bits}
use Rattle.lmn_reduction.proofs.Values.{number_tree, operation_tree}
use Rattle.lmn_flatten_plain.specs.Spelled.{ConditionSpelled, ExpressionSpelled, LeafSpelled, LevelSpelled, LevelsSpelled}
use Rattle.lmn_verify_compiled.proofs.KeptHeads.{KeptExpr, KeptCond}

-- an integer that a text can spell has 64 bits
pub in_64_bits : (z : ℤ) → FitsSigned w64 z → IsIn64Bits z
in_64_bits (pos n) h = h.sfits
in_64_bits (negsuc n) h = let l = h.sfits in omega (arith, l)

-- ---- guards

-- a listing keeps the integers of an expression, and of a guard, that a text can spell
expression_kept : (names : List tree.Name) (e : Expr) → ExpressionSpelled (expression_of names e) → KeptExpr e
expression_kept names (expr.Int z) h = in_64_bits z (subst ExpressionSpelled (number_tree names z) h)
expression_kept names (expr.Ctx u) h = tt
expression_kept names (expr.Op' o p left q right) h =
    let both = subst ExpressionSpelled (operation_tree names o p left q right) h in
    (expression_kept names left both.0, expression_kept names right both.1)

pub guard_kept : (names : List tree.Name) (cs : List Cond) → AllByRecursion ConditionSpelled (map (condition_of names) cs) → AllByRecursion KeptCond cs
guard_kept names [] h = tt
guard_kept names (Kind n args at ∷ cs) h = (tt, guard_kept names cs h.1)
guard_kept names (Compare o left right at ∷ cs) h = ((expression_kept names left h.0.0, expression_kept names right h.0.1), guard_kept names cs h.1)
guard_kept names (Equal left right at ∷ cs) h = (expression_kept names right h.0.1, guard_kept names cs h.1)
guard_kept names (Differ left right at ∷ cs) h = (tt, guard_kept names cs h.1)

-- ---- leaves

module _ (names : List tree.Name) (rule : ℕ → tree.Rule) where
  -- a text can spell the leaf
  abbrev pub SpelledLeaf : Leaf → Type 0
  SpelledLeaf l = LeafSpelled (leaf_of names l)

  abbrev Spelled : Level → Type 0
  Spelled l = LevelSpelled (level_of names rule l) → AllByRecursion SpelledLeaf (leaves_of l)

  of_leaves : (ls : List Leaf) → AllByRecursion LeafSpelled (map (leaf_of names) ls) → AllByRecursion SpelledLeaf ls
  of_leaves [] h = tt
  of_leaves (l ∷ ls) h = (h.0, of_leaves ls h.1)

  inside_spelled : (ls : List ((l : Level) × Spelled l)) → LevelsSpelled (levels (map (level_of names rule) (map (λ e. e.0) ls)))
      → AllByRecursion SpelledLeaf (flat_map (λ inner. inner) (map leaves_of (map (λ e. e.0) ls)))
  inside_spelled [] h = tt
  inside_spelled (e ∷ ls) h = all_append SpelledLeaf (leaves_of e.0) (flat_map (λ inner. inner) (map leaves_of (map (λ e. e.0) ls))) (e.1 h.0) (inside_spelled ls h.1)

  -- and each leaf of a level, at every depth, where it can spell the level
  pub leaves_spelled : (l : Level) → Spelled l
  leaves_spelled = ind-Level Spelled (λ y z is.
      let inside = subst (λ l. LevelsSpelled (levels (map (level_of names rule) l.membranes)) → AllByRecursion SpelledLeaf (flat_map (λ inner. inner) (map leaves_of l.membranes))) is (inside_spelled z.membranes) in
      rw (fold-roll-Level (List Leaf) (λ l. l.leaves ++ flat_map (λ inner. inner) l.membranes) y, fold-roll-Level tree.Level (level_step names rule) y)
      (λ h. all_append SpelledLeaf y.leaves (flat_map (λ inner. inner) (map leaves_of y.membranes)) (of_leaves y.leaves h.0) (inside h.1)))
