-- The parts of a rule as they are printed. Contracts of this crate's own functions alone cite these words.
use Rattle.std.specs.Prelude.{ℕ, ◌-◌, ◌==◌, ◌&&◌, Bool, false, if◌then◌else◌, List, [], ◌++◌, codes, drop, slice_index_or}
use Rattle.lmn_base.specs.declared.functor.Label.{Label}
use Rattle.lmn_base.specs.declared.functor.Label.TheVariants.{Name, Int}
use Rattle.lmn_base.specs.declared.guard.Cond.{Cond}
use Rattle.lmn_base.specs.declared.level.CtxUse.{CtxUse}
use Rattle.lmn_base.specs.declared.level.Leaf.{Leaf}
use Rattle.lmn_base.specs.declared.level.Level.{Level}
use Rattle.lmn_base.specs.declared.rule.RuleTree.{RuleTree}
use Rattle.lmn_congruence.specs.Rules as tree
use Rattle.lmn_congruence.specs.Translation.{name_of, leaf_of, level_of, condition_of, rules_from, no_such_rule}
use Rattle.lmn_flatten_plain.specs.Words.{text_of, leaf_pieces, rule_pieces, condition_pieces}

-- whether an atom with a label and so many links is a connector
abbrev pub makes_connector : Label → ℕ → Bool
makes_connector (Name n) arity = (n == 0) && (arity == 2)
makes_connector (Int z) arity = false

abbrev pub leaf_text : List tree.Name → Leaf → List ℕ
leaf_text names leaf = text_of (leaf_pieces (leaf_of names leaf))

abbrev pub condition_text : List tree.Name → Cond → List ℕ
condition_text names cond = text_of (condition_pieces (condition_of names cond))

-- a context or a rule context, by the sign before its name
abbrev pub context_text : List tree.Name → List ℕ → CtxUse → List ℕ
context_text names sign u = sign ++ name_of names u.name

-- a context, open or closed
abbrev pub untyped_text : List tree.Name → CtxUse → List ℕ
untyped_text names u = context_text names (codes "$") u ++ (if u.closed then codes "[]" else [])

-- The rule with a number, where rules below `first` are left out of the table: such a number stands for the rule `first`, as
-- the rules that stand in a rule are read.
abbrev pub rule_from : List tree.Name → ℕ → List RuleTree → ℕ → tree.Rule
rule_from names first table n = slice_index_or (rules_from names first (drop first table)) (n - first) no_such_rule

-- a level that stands in a rule before the rule `first`, or at the top
abbrev pub level_in : List tree.Name → ℕ → List RuleTree → Level → tree.Level
level_in names first table = level_of names (rule_from names first table)

abbrev pub rule_text : List tree.Name → ℕ → List RuleTree → ℕ → List ℕ
rule_text names first table n = text_of (rule_pieces (rule_from names first table n))
