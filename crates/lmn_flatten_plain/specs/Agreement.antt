-- Where the expansion of a tree agrees with trees of the calculus: link number k has the name `Lk` in the text.
use Rattle.std.specs.Prelude.{ℕ, ◌≡◌, ⊤, List, [], ◌∷◌, map, slice_get, Some, codes}
use Rattle.std.specs.List.{AllZip}
use Rattle.lmn_base.specs.declared.refusal.Pos.{Pos}
use Rattle.lmn_congruence.specs.Rules as tree
use Rattle.lmn_congruence.specs.Translation.{context_with}
use Rattle.lmn_lexer.specs.Laying.{Word}
use Rattle.lmn_lexer.specs.Values.{integer_of}
use Rattle.lmn_parser.specs.Syntax as syntax
use Rattle.lmn_flatten_plain.specs.Links.{Link, written}
use Rattle.lmn_flatten_plain.specs.Expanded.{ExpandedLeaf, atom_leaf, typed_leaf, Context, ExpandedLevel, level, ExpandedLevels, no_level, level_and, ExpandedRule, use_links}
use Rattle.lmn_flatten_plain.specs.Meanings.{word_at, name_at}
use Rattle.lmn_flatten_plain.specs.Words.{link_name, kind_name}

-- the link with a number, by its name in the text
abbrev pub link_by_number : ℕ → Link
link_by_number x = written (link_name x)

abbrev pub LeafIs : ExpandedLeaf → tree.Leaf → Type 0
LeafIs (atom_leaf l us pos) (tree.atom_leaf m xs) = (l ≡ m) × (use_links us ≡ map link_by_number xs)
LeafIs (atom_leaf l us pos) (tree.connector_leaf x y) = (l ≡ tree.named (codes "=")) × (use_links us ≡ link_by_number x ∷ link_by_number y ∷ [])
LeafIs (typed_leaf n u pos) (tree.typed_leaf m x) = (n ≡ m) × (u.link ≡ link_by_number x)
LeafIs _ _ = ⊥

-- contexts, open and closed, as trees of the calculus
abbrev pub trees_of_contexts : List Context → List tree.Context
trees_of_contexts cs = map (λ c. context_with c.closed c.name) cs

abbrev pub names_of_contexts : List Context → List tree.Name
names_of_contexts cs = map (λ c. c.name) cs

module _ (words : List Word) (places : List Pos) where
  abbrev pub ExprIs : syntax.Expr → tree.Expression → Type 0
  ExprIs (syntax.integer p) (tree.number z) = let w = word_at words places p in integer_of w.bytes ≡ z
  ExprIs (syntax.value p) (tree.value_of n) = name_at words places p ≡ n
  ExprIs (syntax.operation op l r) (tree.operation o a b) = (op ≡ o) × ExprIs l a × ExprIs r b
  ExprIs _ _ = ⊥

  abbrev pub CondIs : syntax.WrittenCondition → tree.Condition → Type 0
  CondIs (syntax.called p ps) (tree.is_kind k n) = (name_at words places p ≡ kind_name k) × (map (name_at words places) ps ≡ n ∷ [])
  CondIs (syntax.called p ps) (tree.unknown n ns) = (name_at words places p ≡ n) × (map (name_at words places) ps ≡ ns)
  CondIs (syntax.compared op l r s) (tree.compares o a b) = (op ≡ o) × ExprIs l a × ExprIs r b
  CondIs (syntax.equal p r s) (tree.equates n a) = (name_at words places p ≡ n) × ExprIs r a
  CondIs (syntax.different p q s) (tree.differs m n) = (name_at words places p ≡ m) × (name_at words places q ≡ n)
  CondIs _ _ = ⊥

  -- A table gives the rules with their numbers.
  module _ (table : List ExpandedRule) where
    abbrev mutual
      pub LevelIs : ExpandedLevel → tree.Level → Type 0
      LevelIs (level leaves membranes contexts rule_contexts rules) (tree.level ls ms ns os rs) =
          AllZip LeafIs leaves ls × LevelsAre membranes ms × (trees_of_contexts contexts ≡ ns) × (names_of_contexts rule_contexts ≡ os) × RulesAre rules rs

      pub LevelsAre : ExpandedLevels → tree.Levels → Type 0
      LevelsAre no_level tree.no_level = ⊤
      LevelsAre (level_and l ls) (tree.level_and m ms) = LevelIs l m × LevelsAre ls ms
      LevelsAre _ _ = ⊥

      pub RuleIs : ℕ → tree.Rule → Type 0
      RuleIs k (tree.rule_of head guard body) =
          (r : ExpandedRule) × (slice_get table k ≡ Some r) × LevelIs r.head head × AllZip CondIs r.guard guard × LevelIs r.body body

      pub RulesAre : List ℕ → tree.Rules → Type 0
      RulesAre [] tree.no_rule = ⊤
      RulesAre (k ∷ ks) (tree.rule_and r rs) = RuleIs k r × RulesAre ks rs
      RulesAre _ _ = ⊥
