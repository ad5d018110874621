-- Printed items, one by one, and the level that they are together.
use Rattle.std.proofs.Common.{◌≡◌, ℕ, ◌+◌, List, [], ◌∷◌, ◌++◌, map, length, slice_get, Some, refl, ap, subst, arith}
use Rattle.lmn_congruence.specs.Rules as tree
use Rattle.lmn_congruence.specs.Translation.{context_with}
use Rattle.lmn_lexer.specs.Laying.{Word}
use Rattle.lmn_base.specs.declared.refusal.Pos.{Pos}
use Rattle.lmn_flatten_plain.specs.Expanded.{ExpandedLeaf, Context, ExpandedLevel, ExpandedRule}
use Rattle.lmn_flatten_plain.specs.Parts.{Parts, joined_parts, level_from_parts}
use Rattle.lmn_flatten_plain.specs.Agreement.{LeafIs, LevelIs, RuleIs}

-- what is printed with a comma or a full stop behind it
pub data Printed : Type 0 where
  leaf : tree.Leaf → Printed
  membrane : tree.Level → Printed
  context : tree.Context → Printed
  rule_context : tree.Name → Printed
  rule : tree.Rule → Printed

-- one more of these in a level
abbrev pub added : Printed → tree.Level → tree.Level
added (leaf l) (tree.level ls ms ns os rs) = tree.level (l ∷ ls) ms ns os rs
added (membrane m) (tree.level ls ms ns os rs) = tree.level ls (tree.level_and m ms) ns os rs
added (context n) (tree.level ls ms ns os rs) = tree.level ls ms (n ∷ ns) os rs
added (rule_context n) (tree.level ls ms ns os rs) = tree.level ls ms ns (n ∷ os) rs
added (rule r) (tree.level ls ms ns os rs) = tree.level ls ms ns os (tree.rule_and r rs)

-- a level of these
abbrev pub gathered : List Printed → tree.Level
gathered [] = tree.only_leaves []
gathered (i ∷ is) = added i (gathered is)

-- some membranes as they are printed
abbrev pub membranes_items : tree.Levels → List Printed
membranes_items tree.no_level = []
membranes_items (tree.level_and m ms) = membrane m ∷ membranes_items ms

-- some rules as they are printed
abbrev pub rules_items : tree.Rules → List Printed
rules_items tree.no_rule = []
rules_items (tree.rule_and r rs) = rule r ∷ rules_items rs

-- a level as it is printed
abbrev pub level_items : tree.Level → List Printed
level_items (tree.level ls ms ns os rs) =
    map (λ l. leaf l) ls ++ (membranes_items ms ++ (map (λ n. context n) ns ++ (map (λ n. rule_context n) os ++ rules_items rs)))

gathered_rules : (rs : tree.Rules) → gathered (rules_items rs) ≡ tree.level [] tree.no_level [] [] rs
gathered_rules tree.no_rule = refl
gathered_rules (tree.rule_and r rs) = ap (added (rule r)) (gathered_rules rs)

gathered_rule_contexts : (os : List tree.Name) (rs : tree.Rules) → gathered (map (λ n. rule_context n) os ++ rules_items rs) ≡ tree.level [] tree.no_level [] os rs
gathered_rule_contexts [] rs = gathered_rules rs
gathered_rule_contexts (n ∷ os) rs = ap (added (rule_context n)) (gathered_rule_contexts os rs)

gathered_contexts : (ns : List tree.Context) (os : List tree.Name) (rs : tree.Rules)
    → gathered (map (λ n. context n) ns ++ (map (λ n. rule_context n) os ++ rules_items rs)) ≡ tree.level [] tree.no_level ns os rs
gathered_contexts [] os rs = gathered_rule_contexts os rs
gathered_contexts (n ∷ ns) os rs = ap (added (context n)) (gathered_contexts ns os rs)

gathered_membranes : (ms : tree.Levels) (ns : List tree.Context) (os : List tree.Name) (rs : tree.Rules)
    → gathered (membranes_items ms ++ (map (λ n. context n) ns ++ (map (λ n. rule_context n) os ++ rules_items rs))) ≡ tree.level [] ms ns os rs
gathered_membranes tree.no_level ns os rs = gathered_contexts ns os rs
gathered_membranes (tree.level_and m ms) ns os rs = ap (added (membrane m)) (gathered_membranes ms ns os rs)

gathered_leaves : (ls : List tree.Leaf) (ms : tree.Levels) (ns : List tree.Context) (os : List tree.Name) (rs : tree.Rules)
    → gathered (map (λ l. leaf l) ls ++ (membranes_items ms ++ (map (λ n. context n) ns ++ (map (λ n. rule_context n) os ++ rules_items rs)))) ≡ tree.level ls ms ns os rs
gathered_leaves [] ms ns os rs = gathered_membranes ms ns os rs
gathered_leaves (l ∷ ls) ms ns os rs = ap (added (leaf l)) (gathered_leaves ls ms ns os rs)

-- which is that level again
pub gathered_level : (l : tree.Level) → gathered (level_items l) ≡ l
gathered_level (tree.level ls ms ns os rs) = gathered_leaves ls ms ns os rs

-- these rules stand in a table from a number on
abbrev pub StandFrom : List ExpandedRule → ℕ → List ExpandedRule → Type 0
StandFrom table k [] = Unit {0}
StandFrom table k (r ∷ rs) = (slice_get table k ≡ Some r) × StandFrom table (k + 1) rs

-- rules stand from a number on
pub stand_at : (table rs : List ExpandedRule) (k m : ℕ) → k ≡ m → StandFrom table k rs → StandFrom table m rs
stand_at table rs k m e h = let P : ℕ → Type 0 = λ n. StandFrom table n rs in subst P e h

-- rules that stand in a table one list after the other stand there each
pub stand_apart : (table rs ss : List ExpandedRule) (k : ℕ) → StandFrom table k (rs ++ ss) → StandFrom table k rs × StandFrom table (k + length rs) ss
stand_apart table [] ss k h = (tt, stand_at table ss k (k + 0) (omega arith) h)
stand_apart table (r ∷ rs) ss k h =
    let more = stand_apart table rs ss (k + 1) h.1 in
    ((h.0, more.0), stand_at table ss (k + 1 + length rs) (k + length (r ∷ rs)) (omega arith) more.1)

module _ (words : List Word) (places : List Pos) (table : List ExpandedRule) where
  -- parts that are one printed item
  pub data ItemIs : Parts → Printed → Type 0 where
    leaf_is : {a : ExpandedLeaf} {l : tree.Leaf} → LeafIs a l
        → ItemIs (record { leaves = a ∷ []; membranes = []; contexts = []; rule_contexts = []; rules = []; table = [] }) (leaf l)
    membrane_is : {a : ExpandedLevel} {l : tree.Level} {rs : List ExpandedRule} → LevelIs words places table a l
        → ItemIs (record { leaves = []; membranes = a ∷ []; contexts = []; rule_contexts = []; rules = []; table = rs }) (membrane l)
    context_is : {a : Context} {n : tree.Context} → context_with a.closed a.name ≡ n
        → ItemIs (record { leaves = []; membranes = []; contexts = a ∷ []; rule_contexts = []; rules = []; table = [] }) (context n)
    rule_context_is : {a : Context} {n : tree.Name} → a.name ≡ n
        → ItemIs (record { leaves = []; membranes = []; contexts = []; rule_contexts = a ∷ []; rules = []; table = [] }) (rule_context n)
    rule_is : {k : ℕ} {r : tree.Rule} {rs : List ExpandedRule} → RuleIs words places table k r
        → ItemIs (record { leaves = []; membranes = []; contexts = []; rule_contexts = []; rules = k ∷ []; table = rs }) (rule r)

  both : {A : Type 0} (a b : A) (ms ns : List A) → a ≡ b → ms ≡ ns → a ∷ ms ≡ b ∷ ns
  both a b ms ns e f = cc

  pub added_is : {p : Parts} {i : Printed} (q : Parts) (l : tree.Level) → ItemIs p i → LevelIs words places table (level_from_parts q) l
      → LevelIs words places table (level_from_parts (joined_parts p q)) (added i l)
  added_is q (tree.level ls ms ns os rs) (leaf_is e) h = ((e, h.0), h.1, h.2, h.3, h.4)
  added_is q (tree.level ls ms ns os rs) (membrane_is e) h = (h.0, (e, h.1), h.2, h.3, h.4)
  added_is q (tree.level ls ms ns os rs) (context_is e) h = (h.0, h.1, both _ _ _ _ e h.2, h.3, h.4)
  added_is q (tree.level ls ms ns os rs) (rule_context_is e) h = (h.0, h.1, h.2, both _ _ _ _ e h.3, h.4)
  added_is q (tree.level ls ms ns os rs) (rule_is e) h = (h.0, h.1, h.2, h.3, (e, h.4))
