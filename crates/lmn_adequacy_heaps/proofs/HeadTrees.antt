-- A head as a level of the calculus.
use Rattle.std.proofs.Common.{ℕ, ◌≡◌, List, [], ◌∷◌, map, refl, subst}
use Rattle.lmn_base.specs.declared.level.Level.{Level}
use Rattle.lmn_base.specs.declared.level.Level.TheFolds.{fold-roll-Level, ind-Level}
use Rattle.lmn_solid_heads.proofs.HeadTrees.{Head, Heads, head, no_head, head_and, heads, head_step, head_at}
use Rattle.lmn_congruence.specs.Rules as tree
use Rattle.lmn_congruence.specs.Translation.{context_tree, leaf_of, names_of, levels, rules, level_step, level_of}

abbrev mutual
  pub tree_of : List tree.Name → (ℕ → tree.Rule) → Head → tree.Level
  tree_of names rule (head leaves membranes contexts rule_contexts rs) =
      tree.level (map (leaf_of names) leaves) (trees_of names rule membranes)
      (map (context_tree names) contexts) (names_of names rule_contexts) (rules (map rule rs))

  pub trees_of : List tree.Name → (ℕ → tree.Rule) → Heads → tree.Levels
  trees_of names rule no_head = tree.no_level
  trees_of names rule (head_and h hs) = tree.level_and (tree_of names rule h) (trees_of names rule hs)

module _ (names : List tree.Name) (rule : ℕ → tree.Rule) where
  abbrev AsTree : Level → Type 0
  AsTree l = level_of names rule l ≡ tree_of names rule (head_at l)

  inside_trees : (ls : List ((l : Level) × AsTree l)) → levels (map (level_of names rule) (map (λ e. e.0) ls)) ≡ trees_of names rule (heads (map head_at (map (λ e. e.0) ls)))
  inside_trees [] = refl
  inside_trees (e ∷ ls) = λ i. tree.level_and (e.1 i) (inside_trees ls i)

  -- the level that a head is read as is that of its tree
  pub level_tree : (l : Level) → AsTree l
  level_tree = ind-Level AsTree (λ y z is.
      let inside = subst (λ l. levels (map (level_of names rule) l.membranes) ≡ trees_of names rule (heads (map head_at l.membranes))) is (inside_trees z.membranes) in
      rw (fold-roll-Level tree.Level (level_step names rule) y, fold-roll-Level Head head_step y, inside) refl)
