-- Trees whose labels a text can spell and a list of names holds.
use Rattle.std.proofs.Common.{◌≡◌, ◌≢◌, ℕ, ℤ, pos, negsuc, ◌-◌, ◌^◌, FitsSigned, w64, List, [], ◌∷◌, length, refl, arith}
use lib.Dec.{le→leb, leb→le, lt→ltb, ltb→lt}
use Rattle.std.specs.Prelude.{Contains, ⊤, codes}
use Rattle.std.specs.List.{AllByRecursion}
use Rattle.lmn_congruence.specs.Orders.{at_head, further}
use Rattle.lmn_congruence.specs.Rules as tree
use Rattle.lmn_congruence.specs.Rules.{Condition, Expression, Label, Leaf, Level, Levels, Rule, atom_leaf, compares, connector_leaf, differs, equates, integer, is_kind, level, level_and, named, no_level, number, operation, rule_of, typed_leaf, unknown, value_of}
use Rattle.lmn_guards.specs.Values.{InRange}
use Rattle.lmn_flatten_plain.specs.NamesHeld.{LeafHeld, LevelHeld, LevelsHeld, RuleHeld}
use Rattle.lmn_flatten_plain.specs.Spelled.{ConditionSpelled, ExpressionSpelled, LabelSpelled, LeafSpelled, LevelSpelled, LevelsSpelled, SpellsNoConnector, RuleSpelled}
use Rattle.lmn_app_runs.proofs.LabelsStay.{ExpressionInRange, GuardInRange, Leaves, LevelGood, LevelsGood, RuleGood}

-- ---- integers of 64 bits

-- an integer in range has 64 bits
pub fits : (z : ℤ) → InRange z → FitsSigned w64 z
fits (pos n) (l, h) = record { sfits = ltb→lt n (2 ^ 63) h.lt }
fits (negsuc n) (l, h) = record { sfits = omega (arith, leb→le n (2 ^ 63 - 1) l.le) }

-- and one of 64 bits is in range
pub in_range : (z : ℤ) → FitsSigned w64 z → InRange z
in_range (pos n) h = (record { le = tt }, record { lt = lt→ltb n (2 ^ 63) h.sfits })
in_range (negsuc n) h = (record { le = le→leb n (2 ^ 63 - 1) (omega (arith, h.sfits)) }, record { lt = tt })

expression_in_range : (e : Expression) → ExpressionSpelled e → ExpressionInRange e
expression_in_range (number z) h = in_range z h
expression_in_range (value_of p) h = tt
expression_in_range (operation o e f) h = (expression_in_range e h.0, expression_in_range f h.1)

guard_in_range : (cs : List Condition) → AllByRecursion ConditionSpelled cs → GuardInRange cs
guard_in_range [] h = tt
guard_in_range (is_kind k p ∷ cs) h = guard_in_range cs h.1
guard_in_range (compares c e f ∷ cs) h = guard_in_range cs h.1
guard_in_range (equates p e ∷ cs) h = (expression_in_range e h.0.1, guard_in_range cs h.1)
guard_in_range (differs p q ∷ cs) h = guard_in_range cs h.1
guard_in_range (unknown n ps ∷ cs) h = guard_in_range cs h.1

module _ (names : List tree.Name) where
  -- a label is held
  abbrev pub LabelHeld : Label → Type 0
  LabelHeld (named n) = Contains names n
  LabelHeld (integer z) = ⊤

  -- an atom with a label and so many links is no connector
  abbrev pub IsNoConnector : Label → ℕ → Type 0
  IsNoConnector (named n) k = k ≡ 2 → n ≢ codes "="
  IsNoConnector (integer z) k = ⊤

  -- A label of a solid, on an atom with so many links.
  pub record Good (l : Label) (k : ℕ) : Type 0 where
    pub spelled : LabelSpelled l
    pub held : LabelHeld l
    pub no_connector : IsNoConnector l k

  pub good_integer : (z : ℤ) → InRange z → Good (integer z) 1
  good_integer z h = record { spelled = fits z h; held = tt; no_connector = tt }

  pub integer_good : (z : ℤ) → Good (integer z) 1 → InRange z
  integer_good z h = in_range z h.spelled

  is_no_connector : (l : Label) (xs : List ℕ) → SpellsNoConnector l xs → IsNoConnector l (length xs)
  is_no_connector (named n) [] h = λ e. absurd (omega (arith, e))
  is_no_connector (named n) (x ∷ []) h = λ e. absurd (omega (arith, e))
  is_no_connector (named n) (x ∷ y ∷ []) h = λ e. h
  is_no_connector (named n) (x ∷ y ∷ z ∷ xs) h = λ e. absurd (omega (arith, e))
  is_no_connector (integer z) xs h = tt

  pub not_connector : (l : Label) (xs : List ℕ) → IsNoConnector l (length xs) → SpellsNoConnector l xs
  not_connector (named n) [] h = tt
  not_connector (named n) (x ∷ []) h = tt
  not_connector (named n) (x ∷ y ∷ []) h = h refl
  not_connector (named n) (x ∷ y ∷ z ∷ xs) h = tt
  not_connector (integer z) xs h = tt

  held_label : (l : Label) (xs : List ℕ) → LeafHeld names (atom_leaf l xs) → LabelHeld l
  held_label (named n) xs h = h
  held_label (integer z) xs h = tt

  -- ---- together

  abbrev pub GoodLevel : Level → Type 0
  GoodLevel = LevelGood Good good_integer integer_good

  abbrev pub GoodRule : Rule → Type 0
  GoodRule = RuleGood Good good_integer integer_good

  leaves_good : (ls : List Leaf) → AllByRecursion LeafSpelled ls → AllByRecursion (LeafHeld names) ls → Leaves Good good_integer integer_good ls
  leaves_good [] s h l i = elim i [ ]
  leaves_good (atom_leaf a xs ∷ ls) s h l at_head =
      record { spelled = s.0.0; held = held_label a xs h.0; no_connector = is_no_connector a xs s.0.1 }
  leaves_good (connector_leaf x y ∷ ls) s h l at_head = tt
  leaves_good (typed_leaf p x ∷ ls) s h l at_head = tt
  leaves_good (k ∷ ls) s h l (further i) = leaves_good ls s.1 h.1 l i

  mutual
    pub level_good : (l : Level) → LevelSpelled l → LevelHeld names l → GoodLevel l
    level_good (level leaves membranes contexts rule_contexts rules) s h = (leaves_good leaves s.0 h.0, levels_good membranes s.1 h.1)

    levels_good : (ls : Levels) → LevelsSpelled ls → LevelsHeld names ls → LevelsGood Good good_integer integer_good ls
    levels_good no_level s h = tt
    levels_good (level_and l ls) s h = (level_good l s.0 h.0, levels_good ls s.1 h.1)

  pub rule_good : (r : Rule) → RuleSpelled r → RuleHeld names r → GoodRule r
  rule_good (rule_of head guard body) s h = (level_good body s.2 h.2, guard_in_range guard s.1)
