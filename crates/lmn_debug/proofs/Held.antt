-- The solid that a heap holds is one of which the laws of traces speak: its process is closed, and its rules are accepted, those in rules too.
use Rattle.std.proofs.Common.{ℕ, zero, suc, ◌≡◌, ◌+◌, ◌<◌, ◌≤◌, ◌⊎◌, List, [], ◌∷◌, ◌++◌, map, length, get_or, All, Some, None, refl, sym, subst, inl, inr, arith}
use Rattle.std.specs.List.{flat_map}
use Rattle.std.specs.Prelude.{slice_get}
use Rattle.std.proofs.lemmas.Option.{slice_get_within, slice_get_cases}
use Rattle.lmn_base.specs.declared.level.Level.{Level}
use Rattle.lmn_base.specs.declared.level.Level.TheFolds.{fold-roll-Level, ind-Level}
use Rattle.lmn_base.specs.declared.rule.RuleTree.{RuleTree}
use Rattle.lmn_base.specs.Levels.{rules_of}
use Rattle.lmn_base.specs.Lists.{In}
use Rattle.lmn_base.proofs.Lists.{all_of_left, all_of_right}
use Rattle.lmn_store_heap.specs.Heap.{Heap, rules_in}
use Rattle.lmn_store_heap.specs.Sound.{Forest, bare, mem}
use Rattle.lmn_congruence.specs.Regions.{Region}
use Rattle.lmn_congruence.specs.Rules as tree
use Rattle.lmn_congruence.specs.Translation.{level_of, level_step, levels, rules}
use Rattle.lmn_adequacy.specs.Accepted.{Accepted, Throughout, ThroughoutLevel, ThroughoutLevels, ThroughoutRules}
use Rattle.lmn_adequacy.specs.Embedding.{AllRules, AllRulesIn, EachRule}
use Rattle.lmn_adequacy_heaps.specs.HeapRegions.{HeapReading, regions_at}
use Rattle.lmn_adequacy_heaps.specs.Premises.{HasRules}
use Rattle.lmn_adequacy_turns.specs.Commits.{IsTable}
use Rattle.lmn_schedule.specs.Held.{HoldsRegion, reading_by}

-- ---- a rule that stands in another one is smaller

-- how many rules there are in a rule and in what stands in it
abbrev mutual
  level_size : tree.Level → ℕ
  level_size (tree.level leaves membranes contexts rule_contexts rs) = levels_size membranes + rules_size rs

  levels_size : tree.Levels → ℕ
  levels_size tree.no_level = 0
  levels_size (tree.level_and l ls) = level_size l + levels_size ls

  rule_size : tree.Rule → ℕ
  rule_size (tree.rule_of head guard body) = suc (level_size body)

  rules_size : tree.Rules → ℕ
  rules_size tree.no_rule = 0
  rules_size (tree.rule_and r rs) = rule_size r + rules_size rs

some_size : (r : tree.Rule) → 1 ≤ rule_size r
some_size (tree.rule_of head guard body) = omega arith

-- What holds throughout each rule of a table that is no larger than n holds throughout each level of that size whose rules are of the table.
module _ (H : tree.Rule → Type 0) (names : List tree.Name) (rule : ℕ → tree.Rule) (n : ℕ) where
  abbrev Small : ℕ → Type 0
  Small j = rule_size (rule j) ≤ n → Throughout H (rule j)

  each_throughout : (ks : List ℕ) → All Small ks → rules_size (rules (map rule ks)) ≤ n → ThroughoutRules H (rules (map rule ks))
  each_throughout [] h s = tt
  each_throughout (k ∷ ks) h s = (h zero k (omega arith) (omega (arith, s)), each_throughout ks (all_of_right Small (k ∷ []) ks h) (omega (arith, s)))

  abbrev below_rules : List Level → List ℕ
  below_rules ls = flat_map (λ inner. inner) (map rules_of ls)

  abbrev LevelSo : Level → Type 0
  LevelSo l = All Small (rules_of l) → level_size (level_of names rule l) ≤ n → ThroughoutLevel H (level_of names rule l)

  below_so : (ls : List ((l : Level) × LevelSo l)) → All Small (below_rules (map (λ e. e.0) ls)) →
      levels_size (levels (map (level_of names rule) (map (λ e. e.0) ls))) ≤ n → ThroughoutLevels H (levels (map (level_of names rule) (map (λ e. e.0) ls)))
  below_so [] h s = tt
  below_so (e ∷ ls) h s =
      let rest = below_rules (map (λ (e : (l : Level) × LevelSo l). e.0) ls) in
      (e.1 (all_of_left Small (rules_of e.0) rest h) (omega (arith, s)), below_so ls (all_of_right Small (rules_of e.0) rest h) (omega (arith, s)))

  level_so : (l : Level) → LevelSo l
  level_so = ind-Level LevelSo (λ y z is h s.
      let here = subst (All Small) (fold-roll-Level (List ℕ) (λ l. l.rules ++ flat_map (λ inner. inner) l.membranes) y) h in
      let size = subst (λ l. level_size l ≤ n) (fold-roll-Level tree.Level (level_step names rule) y) s in
      let inside = subst (λ l. All Small (below_rules l.membranes) → levels_size (levels (map (level_of names rule) l.membranes)) ≤ n → ThroughoutLevels H (levels (map (level_of names rule) l.membranes))) is (below_so z.membranes) in
      rw (fold-roll-Level tree.Level (level_step names rule) y)
      (inside (all_of_right Small y.rules (below_rules y.membranes) here) (omega (arith, size)), each_throughout y.rules (all_of_left Small y.rules (below_rules y.membranes) here) (omega (arith, size))))

-- ---- so a rule of a heap is accepted throughout

module _ (h : Heap) (r : HeapReading) (table : List RuleTree) (has : HasRules h r table) (keeps : IsTable r table) where
  throughout : (n k : ℕ) → k < length table → rule_size (r.rule k) ≤ n → Throughout Accepted (r.rule k)
  throughout zero k l s = let some = some_size (r.rule k) in absurd (omega (arith, some, s))
  throughout (suc n) k l s = by (slice_get_cases table k).1 (λ j b t. throughout n j b t)
    where
      by : ((x : RuleTree) × (k < length table) × (slice_get table k ≡ Some x) × (get_or table k x ≡ x)) ⊎ ((length table ≤ k) × (slice_get table k ≡ None)) →
          ((j : ℕ) → j < length table → rule_size (r.rule j) ≤ n → Throughout Accepted (r.rule j)) → Throughout Accepted (r.rule k)
      by (inl u) smaller =
          let is = has.read k u.0 u.2 in
          let inner = keeps.inner k u.0 u.2 in
          let fits = subst (λ t. rule_size t ≤ suc n) is s in
          subst (Throughout Accepted) (sym is)
          ((keeps.rules k u.0 u.2).accepted, level_so Accepted r.names r.rule n u.0.body (λ i d b t. smaller (get_or (rules_of u.0.body) i d) (inner i d b) t) (omega (arith, fits)))
      by (inr u) smaller = let past = u.0 in absurd (omega (arith, l, past))

  each_rule : (m : ℕ) (ks : List ℕ) → ((k : ℕ) → In k ks → In k (rules_in h m)) → EachRule (Throughout Accepted) (map r.rule ks)
  each_rule m [] s = tt
  each_rule m (k ∷ ks) s =
      let u = has.known m k (s k (inl refl)) in
      (throughout (rule_size (r.rule k)) k (slice_get_within table k u.0 u.1) (omega arith), each_rule m ks (λ j p. s j (inr p)))

  each_inner : (f : Forest) → AllRulesIn (Throughout Accepted) (regions_at h r f)
  each_inner bare = tt
  each_inner (mem m i f) = ((each_rule m (rules_in h m) (λ k p. p), each_inner i), each_inner f)

-- the rules of a solid that a heap holds are accepted, those in rules too
pub throughout_held : {names : List tree.Name} {table : List RuleTree} {h : Heap} {S : Region} → HoldsRegion names table h S → AllRules (Throughout Accepted) S
throughout_held {names} {table} {h} {S} held =
    let r = reading_by names table held.number in
    subst (AllRules (Throughout Accepted)) (sym held.is) (each_rule h r table held.rules held.keeps h.root (rules_in h h.root) (λ k p. p), each_inner h r table held.rules held.keeps held.inner)
