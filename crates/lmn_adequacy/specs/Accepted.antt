-- When the tree of a rule is accepted: what the refusals of texts keep out, said of trees. The limits on sizes and the
-- form in which a context is written aren't asked here.
use Rattle.std.specs.Prelude.{ℕ, List, ◌≡◌, ◌⊎◌, [], ◌∷◌, ◌++◌}
use Rattle.lmn_base.specs.declared.guard.Arith.{Arith}
use Rattle.lmn_base.specs.declared.guard.Cmp.{Cmp}
use Rattle.lmn_congruence.specs.LinkedRules.{LinkedRule}
use Rattle.lmn_congruence.specs.Orders.{Among, Shuffle, EachOnce}
use Rattle.lmn_congruence.specs.Rules.{Condition, Context, Expression, Kind, Leaf, Level, Levels, Name, Rule, Rules, atom_leaf, body_of, closed_context, compares, connector_leaf, differs, equates, guard_of, head_of, is_kind, level, level_and, no_level, no_rule, open_context, operation, rule_and, rule_of, typed_leaf, unknown, value_of}
use Rattle.lmn_reduction.specs.Firing.{typed_contexts}

-- what holds of a level and of each level of a membrane in it, at any depth
abbrev mutual
  pub EachLevel : (Level → Type 0) → Level → Type 0
  EachLevel H (level leaves membranes contexts rule_contexts rules) =
      H (level leaves membranes contexts rule_contexts rules) × EachOf H membranes

  pub EachOf : (Level → Type 0) → Levels → Type 0
  EachOf H no_level = Unit {0}
  EachOf H (level_and l ls) = EachLevel H l × EachOf H ls

-- what stands in a level itself: its leaves, membranes, untyped contexts, rule contexts and rules
abbrev pub own_leaves : Level → List Leaf
own_leaves (level leaves membranes contexts rule_contexts rules) = leaves

abbrev pub own_membranes : Level → Levels
own_membranes (level leaves membranes contexts rule_contexts rules) = membranes

abbrev pub own_contexts : Level → List Context
own_contexts (level leaves membranes contexts rule_contexts rules) = contexts

abbrev pub own_rule_contexts : Level → List Name
own_rule_contexts (level leaves membranes contexts rule_contexts rules) = rule_contexts

abbrev pub own_rules : Level → Rules
own_rules (level leaves membranes contexts rule_contexts rules) = rules

-- the untyped contexts and the rule contexts of a level, at any depth
abbrev mutual
  pub all_contexts : Level → List Context
  all_contexts (level leaves membranes contexts rule_contexts rules) = contexts ++ contexts_in membranes

  pub contexts_in : Levels → List Context
  contexts_in no_level = []
  contexts_in (level_and l ls) = all_contexts l ++ contexts_in ls

-- the names of the open ones
abbrev pub open_names : List Context → List Name
open_names [] = []
open_names (open_context p ∷ ps) = p ∷ open_names ps
open_names (closed_context p ∷ ps) = open_names ps

-- the names of the closed ones
abbrev pub closed_names : List Context → List Name
closed_names [] = []
closed_names (open_context p ∷ ps) = closed_names ps
closed_names (closed_context p ∷ ps) = p ∷ closed_names ps

abbrev mutual
  pub all_rule_contexts : Level → List Name
  all_rule_contexts (level leaves membranes contexts rule_contexts rules) =
      rule_contexts ++ rule_contexts_in membranes

  pub rule_contexts_in : Levels → List Name
  rule_contexts_in no_level = []
  rule_contexts_in (level_and l ls) = all_rule_contexts l ++ rule_contexts_in ls

-- the links that typed contexts are written with, and those at the ports of atoms
abbrev pub typed_links_of : List Leaf → List ℕ
typed_links_of [] = []
typed_links_of (atom_leaf a xs ∷ ls) = typed_links_of ls
typed_links_of (connector_leaf x y ∷ ls) = typed_links_of ls
typed_links_of (typed_leaf p x ∷ ls) = x ∷ typed_links_of ls

abbrev pub port_links_of : List Leaf → List ℕ
port_links_of [] = []
port_links_of (atom_leaf a xs ∷ ls) = xs ++ port_links_of ls
port_links_of (connector_leaf x y ∷ ls) = port_links_of ls
port_links_of (typed_leaf p x ∷ ls) = port_links_of ls

abbrev mutual
  pub typed_links : Level → List ℕ
  typed_links (level leaves membranes contexts rule_contexts rules) =
      typed_links_of leaves ++ typed_links_in membranes

  pub typed_links_in : Levels → List ℕ
  typed_links_in no_level = []
  typed_links_in (level_and l ls) = typed_links l ++ typed_links_in ls

abbrev mutual
  pub port_links : Level → List ℕ
  port_links (level leaves membranes contexts rule_contexts rules) = port_links_of leaves ++ port_links_in membranes

  pub port_links_in : Levels → List ℕ
  port_links_in no_level = []
  port_links_in (level_and l ls) = port_links l ++ port_links_in ls

-- none of the leaves is a connector
abbrev pub NoConnectorLeaf : List Leaf → Type 0
NoConnectorLeaf [] = Unit {0}
NoConnectorLeaf (atom_leaf a xs ∷ ls) = NoConnectorLeaf ls
NoConnectorLeaf (connector_leaf x y ∷ ls) = ⊥
NoConnectorLeaf (typed_leaf p x ∷ ls) = NoConnectorLeaf ls

-- at most one
abbrev pub AtMostOne : {A : Type 0} → List A → Type 0
AtMostOne [] = Unit {0}
AtMostOne (x ∷ []) = Unit {0}
AtMostOne (x ∷ (y ∷ zs)) = ⊥

-- ---- guards

-- a context is used in an expression
pub data UsedIn (p : Name) : Expression → Type 0 where
  here_used : UsedIn p (value_of p)
  left_used : {o : Arith} {e f : Expression} → UsedIn p e → UsedIn p (operation o e f)
  right_used : {o : Arith} {e f : Expression} → UsedIn p f → UsedIn p (operation o e f)

-- a condition gives a context of the head its type: it names the type, it computes with the context, or it compares
-- the context with another one
pub data GivesType (p : Name) : Condition → Type 0 where
  by_kind : {k : Kind} → GivesType p (is_kind k p)
  by_left : {c : Cmp} {e f : Expression} → UsedIn p e → GivesType p (compares c e f)
  by_right : {c : Cmp} {e f : Expression} → UsedIn p f → GivesType p (compares c e f)
  by_value : {q : Name} {e : Expression} → UsedIn p e → GivesType p (equates q e)
  by_equality : {e : Expression} → GivesType p (equates p e)
  by_difference_left : {q : Name} → GivesType p (differs p q)
  by_difference_right : {q : Name} → GivesType p (differs q p)

-- the names on the left of `=`
abbrev pub left_sides : List Condition → List Name
left_sides [] = []
left_sides (is_kind k p ∷ cs) = left_sides cs
left_sides (compares c e f ∷ cs) = left_sides cs
left_sides (equates p e ∷ cs) = p ∷ left_sides cs
left_sides (differs p q ∷ cs) = left_sides cs
left_sides (unknown n ps ∷ cs) = left_sides cs

-- the conditions are those of the language, and each uses contexts of the head and such as earlier ones bind; `heads`
-- are the typed contexts of the head, `bound` the names that earlier conditions bind
pub data InTurn (heads : List Name) : List Name → List Condition → Type 0 where
  all_asked : {bound : List Name} → InTurn heads bound []
  kind_in_turn : {bound : List Name} {k : Kind} {p : Name} {cs : List Condition} →
      Among p heads → InTurn heads bound cs → InTurn heads bound (is_kind k p ∷ cs)
  comparison_in_turn : {bound : List Name} {c : Cmp} {e f : Expression} {cs : List Condition} →
      ((p : Name) → UsedIn p e ⊎ UsedIn p f → Among p heads ⊎ Among p bound) → InTurn heads bound cs →
      InTurn heads bound (compares c e f ∷ cs)
  binding_in_turn : {bound : List Name} {p : Name} {e : Expression} {cs : List Condition} →
      ¬ (Among p heads) → ¬ (Among p bound) → ((q : Name) → UsedIn q e → Among q heads ⊎ Among q bound) →
      InTurn heads (p ∷ bound) cs → InTurn heads bound (equates p e ∷ cs)
  equality_in_turn : {bound : List Name} {p q : Name} {cs : List Condition} →
      Among p heads → Among q heads → InTurn heads bound cs → InTurn heads bound (equates p (value_of q) ∷ cs)
  difference_in_turn : {bound : List Name} {p q : Name} {cs : List Condition} →
      Among p heads → Among q heads → InTurn heads bound cs → InTurn heads bound (differs p q ∷ cs)

-- ---- accepted rules

-- A rule is accepted.
--   linked            each link occurs exactly twice, in head and body together
--   not_empty         the head holds something
--   no_connectors     no connector stands in the head
--   no_rules          no rule stands in the head
--   top_contexts,
--   top_rule_contexts no context and no rule context stands at the head's top
--   few               a head membrane has at most one untyped context and one rule context
--   once              no context stands twice in the head
--   kept              the open contexts of the body are those of the head, each once
--   known_closed      a closed context of the body stands in the head
--   known_rules       a rule context of the body stands in the head
--   known             a typed context of the body stands in the head, or the guard binds it
--   in_turn           the guard uses contexts of the head and such as it has bound
--   typed             the guard gives each typed context of the head its type
--   held              the link of a typed context of the head stands at a port of a head atom
pub record Accepted (r : Rule) : Type 0 where
  pub linked : LinkedRule r
  pub not_empty : ¬ (head_of r ≡ level [] no_level [] [] no_rule)
  pub no_connectors : EachLevel (λ l. NoConnectorLeaf (own_leaves l)) (head_of r)
  pub no_rules : EachLevel (λ l. own_rules l ≡ no_rule) (head_of r)
  pub top_contexts : own_contexts (head_of r) ≡ []
  pub top_rule_contexts : own_rule_contexts (head_of r) ≡ []
  pub few : EachOf (λ l. AtMostOne (own_contexts l) × AtMostOne (own_rule_contexts l)) (own_membranes (head_of r))
  pub once : EachOnce (all_contexts (head_of r)) × EachOnce (all_rule_contexts (head_of r)) ×
      EachOnce (typed_contexts (head_of r))
  pub kept : Shuffle (λ p q. p ≡ q) (open_names (all_contexts (head_of r))) (open_names (all_contexts (body_of r)))
  pub known_closed : (p : Name) → Among p (closed_names (all_contexts (body_of r))) →
      Among p (closed_names (all_contexts (head_of r)))
  pub known_rules : (p : Name) → Among p (all_rule_contexts (body_of r)) → Among p (all_rule_contexts (head_of r))
  pub known : (p : Name) → Among p (typed_contexts (body_of r)) →
      Among p (typed_contexts (head_of r)) ⊎ Among p (left_sides (guard_of r))
  pub in_turn : InTurn (typed_contexts (head_of r)) [] (guard_of r)
  pub typed : (p : Name) → Among p (typed_contexts (head_of r)) →
      (c : Condition) × Among c (guard_of r) × GivesType p c
  pub held : (x : ℕ) → Among x (typed_links (head_of r)) → Among x (port_links (head_of r))

-- ---- rules in rules

-- what holds of a rule and of each rule that stands in its body, at any depth
abbrev mutual
  pub Throughout : (Rule → Type 0) → Rule → Type 0
  Throughout H (rule_of head guard body) = H (rule_of head guard body) × ThroughoutLevel H body

  pub ThroughoutLevel : (Rule → Type 0) → Level → Type 0
  ThroughoutLevel H (level leaves membranes contexts rule_contexts rules) =
      ThroughoutLevels H membranes × ThroughoutRules H rules

  pub ThroughoutLevels : (Rule → Type 0) → Levels → Type 0
  ThroughoutLevels H no_level = Unit {0}
  ThroughoutLevels H (level_and l ls) = ThroughoutLevel H l × ThroughoutLevels H ls

  pub ThroughoutRules : (Rule → Type 0) → Rules → Type 0
  ThroughoutRules H no_rule = Unit {0}
  ThroughoutRules H (rule_and r rs) = Throughout H r × ThroughoutRules H rs
