-- The values that the program keeps, as trees, regions and processes. `names` has the bytes of each name by
-- its number, and `table` the rules by theirs. Both are meant of lists that hold every number in use: of names
-- `NamesPlain` and `NamesSolid` of `lmn_base` say so, of rules `IsWellMade` and `HasEachRule`. Places in the text
-- are left out.
use Rattle.std.specs.Prelude.{ℕ, zero, Bool, ◌+◌, ◌-◌, ◌==◌, if◌then◌else◌, List, [], ◌∷◌, map, slice_index_or}
use Rattle.lmn_base.specs.declared.functor.TheConstants.{INT_NAME, UNARY_NAME, GROUND_NAME}
use Rattle.lmn_base.specs.declared.functor.Label.{Label}
use Rattle.lmn_base.specs.declared.functor.Label.TheVariants.{Name, Int}
use Rattle.lmn_base.specs.declared.level.CtxUse.{CtxUse}
use Rattle.lmn_base.specs.declared.level.Leaf.{Leaf}
use Rattle.lmn_base.specs.declared.level.Leaf.TheVariants.{Atom, Typed}
use Rattle.lmn_base.specs.declared.level.Level.{Level}
use Rattle.lmn_base.specs.declared.level.Level.TheOpen.{Level-F}
use Rattle.lmn_base.specs.declared.level.Level.TheFolds.{fold-Level}
use Rattle.lmn_base.specs.declared.guard.Expr.{Expr}
use Rattle.lmn_base.specs.declared.guard.Expr.TheOpen.{Expr-F, Int as Integer, Ctx, Op}
use Rattle.lmn_base.specs.declared.guard.Expr.TheFolds.{fold-Expr}
use Rattle.lmn_base.specs.declared.guard.Cond.{Cond}
use Rattle.lmn_base.specs.declared.guard.Cond.TheVariants.{Kind, Compare, Equal, Differ}
use Rattle.lmn_base.specs.declared.rule.RuleTree.{RuleTree}
use Rattle.lmn_base.specs.declared.rule.Plain.{Plain}
use Rattle.lmn_base.specs.declared.solid.SolidAtom.{SolidAtom}
use Rattle.lmn_base.specs.declared.solid.Region.TheOpen.{Region-F}
use Rattle.lmn_base.specs.declared.solid.Region.TheFolds.{fold-Region}
use Rattle.lmn_base.specs.declared.solid.Solid.{Solid}
use Rattle.lmn_congruence.specs.Process.{Process}
use Rattle.lmn_congruence.specs.Rules as tree
use Rattle.lmn_congruence.specs.Regions as solid
use Rattle.lmn_congruence.specs.Plains.{level_process}
use Rattle.lmn_base.specs.declared.solid.Region.{Region}

-- the name with a number; the numbers in use are those of the list
abbrev pub name_of : List tree.Name → ℕ → tree.Name
name_of names n = slice_index_or names n []

-- a label, its name by its bytes
abbrev pub label_of : List tree.Name → Label → tree.Label
label_of names (Name n) = tree.named (name_of names n)
label_of names (Int z) = tree.integer z

-- the name with the number 0 and two links make a connector
abbrev pub atom_or_connector : List tree.Name → Label → List ℕ → tree.Leaf
atom_or_connector names (Name zero) (x ∷ (y ∷ [])) = tree.connector_leaf x y
atom_or_connector names l xs = tree.atom_leaf (label_of names l) xs

-- a leaf with the numbers of its links
abbrev pub leaf_of : List tree.Name → Leaf → tree.Leaf
leaf_of names (Atom functor links pos) = atom_or_connector names functor.label (map (λ o. o.link) links)
leaf_of names (Typed n o pos) = tree.typed_leaf (name_of names n) o.link

-- the names of contexts and of rule contexts
abbrev pub names_of : List tree.Name → List CtxUse → List tree.Name
names_of names us = map (λ u. name_of names u.name) us

-- lists of levels and of rules as those of a tree
abbrev pub levels : List tree.Level → tree.Levels
levels [] = tree.no_level
levels (l ∷ ls) = tree.level_and l (levels ls)

abbrev pub rules : List tree.Rule → tree.Rules
rules [] = tree.no_rule
rules (r ∷ rs) = tree.rule_and r (rules rs)

-- an untyped context, open or closed
abbrev pub context_tree : List tree.Name → CtxUse → tree.Context
context_tree names u = if u.closed then tree.closed_context (name_of names u.name) else tree.open_context (name_of names u.name)

-- a level, where `rule` gives the rule with a number
abbrev pub level_step : List tree.Name → (ℕ → tree.Rule) → Level-F tree.Level → tree.Level
level_step names rule l =
    tree.level (map (leaf_of names) l.leaves) (levels l.membranes)
    (map (context_tree names) l.contexts) (names_of names l.rule_contexts) (rules (map rule l.rules))

abbrev pub level_of : List tree.Name → (ℕ → tree.Rule) → Level → tree.Level
level_of names rule = fold-Level tree.Level (level_step names rule)

-- expressions and conditions as those of a tree
abbrev pub expression_step : List tree.Name → Expr-F tree.Expression → tree.Expression
expression_step names (Integer z) = tree.number z
expression_step names (Ctx u) = tree.value_of (name_of names u.name)
expression_step names (Op op left right) = tree.operation op left.value right.value

abbrev pub expression_of : List tree.Name → Expr → tree.Expression
expression_of names = fold-Expr tree.Expression (expression_step names)

-- the conditions `int`, `unary` and `ground` have one context
abbrev pub kind_of : List tree.Name → ℕ → List CtxUse → tree.Condition
kind_of names n (u ∷ []) =
    if n == INT_NAME then tree.is_kind tree.int (name_of names u.name)
    else if n == UNARY_NAME then tree.is_kind tree.unary (name_of names u.name)
    else if n == GROUND_NAME then tree.is_kind tree.grounded (name_of names u.name)
    else tree.unknown (name_of names n) (names_of names (u ∷ []))
kind_of names n us = tree.unknown (name_of names n) (names_of names us)

abbrev pub condition_of : List tree.Name → Cond → tree.Condition
condition_of names (Kind n args pos) = kind_of names n args
condition_of names (Compare op left right pos) = tree.compares op (expression_of names left) (expression_of names right)
condition_of names (Equal left right pos) = tree.equates (name_of names left.name) (expression_of names right)
condition_of names (Differ left right pos) = tree.differs (name_of names left.name) (name_of names right.name)

-- for a number that no rule has: a rule that holds nothing, which is written `( :- )`
abbrev pub no_such_rule : tree.Rule
no_such_rule = let nothing = tree.level [] tree.no_level [] [] tree.no_rule in tree.rule_of nothing [] nothing

-- The rules of a table from the number k on. In a well made plain a rule that stands in another one has a greater
-- number, so it is one of those behind it. A number that isn't greater would be read as that of the next rule.
abbrev pub rules_from : List tree.Name → ℕ → List RuleTree → List tree.Rule
rules_from names k [] = []
rules_from names k (r ∷ rs) =
    let behind = rules_from names (k + 1) rs in
    let rule : ℕ → tree.Rule = λ n. slice_index_or behind (n - (k + 1)) no_such_rule in
    tree.rule_of (level_of names rule r.head) (map (condition_of names) r.guard) (level_of names rule r.body) ∷ behind

-- the top of a plain, and its process
abbrev pub top_of : List tree.Name → Plain → tree.Level
top_of names p = level_of names (λ n. slice_index_or (rules_from names 0 p.rules) n no_such_rule) p.top

-- the process of a plain
abbrev pub plain_process : List tree.Name → Plain → Process
plain_process names p = level_process (top_of names p)

-- a context that is open or closed, a rule where `rule` gives the rule with a number, and the rule of a table with a
-- number, as lemmas tell them
abbrev pub context_with : Bool → tree.Name → tree.Context
context_with closed p = if closed then tree.closed_context p else tree.open_context p

abbrev pub rule_tree : List tree.Name → (ℕ → tree.Rule) → RuleTree → tree.Rule
rule_tree names rule r =
    tree.rule_of (level_of names rule r.head) (map (condition_of names) r.guard) (level_of names rule r.body)

abbrev pub numbered_rule : List tree.Name → List RuleTree → ℕ → tree.Rule
numbered_rule names table n = slice_index_or (rules_from names 0 table) n no_such_rule

-- atoms and lists of regions as those of the calculus
abbrev pub solid_atom_of : List tree.Name → SolidAtom → solid.SolidAtom
solid_atom_of names a = record { label = label_of names a.functor.label; links = a.links }

abbrev pub regions : List solid.Region → solid.Regions
regions [] = solid.no_region
regions (r ∷ rs) = solid.region_and r (regions rs)

abbrev pub region_step : List tree.Name → (ℕ → tree.Rule) → Region-F solid.Region → solid.Region
region_step names rule r = solid.region (map (solid_atom_of names) r.atoms) (regions r.membranes) (map rule r.rules)

abbrev pub numbered_region : List tree.Name → (ℕ → tree.Rule) → Region → solid.Region
numbered_region names rule = fold-Region solid.Region (region_step names rule)

-- the region of a solid, and its process
abbrev pub region_of : List tree.Name → List RuleTree → Solid → solid.Region
region_of names table s = numbered_region names (numbered_rule names table) s.root

-- the process of a solid
abbrev pub solid_process : List tree.Name → List RuleTree → Solid → Process
solid_process names table s = solid.region_process (region_of names table s)
