-- Lists of names, and the numbers of names that stand in a level, a rule, a plain and a solid.
use Rattle.std.specs.Prelude.{ℕ, ◌≡◌, ◌≢◌, ◌<◌, List, [], ◌∷◌, ◌++◌, map, flat_map, length, codes, All, AllPairs}
use Rattle.lmn_base.specs.declared.functor.Label.{Label}
use Rattle.lmn_base.specs.declared.functor.Label.TheVariants.{Name, Int}
use Rattle.lmn_base.specs.declared.level.CtxUse.{CtxUse}
use Rattle.lmn_base.specs.declared.level.Leaf.{Leaf}
use Rattle.lmn_base.specs.declared.level.Leaf.TheVariants.{Atom, Typed}
use Rattle.lmn_base.specs.declared.level.Level.{Level}
use Rattle.lmn_base.specs.declared.guard.Expr.{Expr}
use Rattle.lmn_base.specs.declared.guard.Expr.TheOpen.{Expr-F, Int as Integer, Ctx, Op}
use Rattle.lmn_base.specs.declared.guard.Expr.TheFolds.{fold-Expr}
use Rattle.lmn_base.specs.declared.guard.Cond.{Cond}
use Rattle.lmn_base.specs.declared.guard.Cond.TheVariants.{Kind, Compare, Equal, Differ}
use Rattle.lmn_base.specs.declared.rule.RuleTree.{RuleTree}
use Rattle.lmn_base.specs.declared.rule.Plain.{Plain}
use Rattle.lmn_base.specs.declared.solid.Solid.{Solid}
use Rattle.lmn_base.specs.Levels.{leaves_of, contexts_of, rule_contexts_of}
use Rattle.lmn_base.specs.Solids.{atoms_of_region}

-- the names with the numbers 0 to 3, by their bytes
abbrev pub first_names : List (List ℕ)
first_names = codes "=" ∷ codes "int" ∷ codes "unary" ∷ codes "ground" ∷ []

-- A list of names by their bytes. It begins with these four, and no name stands twice in it.
pub record IsNames (names : List (List ℕ)) : Type 0 where
  pub begins : (more : List (List ℕ)) × (names ≡ first_names ++ more)
  pub once : AllPairs (λ m n. m ≢ n) names

-- the names of a label, of a leaf and of contexts
abbrev pub label_names : Label → List ℕ
label_names (Name n) = n ∷ []
label_names (Int z) = []

abbrev pub leaf_names : Leaf → List ℕ
leaf_names (Atom functor links pos) = label_names functor.label
leaf_names (Typed name link pos) = name ∷ []

abbrev pub context_names : List CtxUse → List ℕ
context_names us = map (λ u. u.name) us

-- the names of atoms and contexts in a level, at every depth
abbrev pub level_names : Level → List ℕ
level_names l =
    flat_map leaf_names (leaves_of l) ++ context_names (contexts_of l) ++ context_names (rule_contexts_of l)

-- the names in an expression and in a condition
abbrev pub expression_names_step : Expr-F (List ℕ) → List ℕ
expression_names_step (Integer z) = []
expression_names_step (Ctx u) = u.name ∷ []
expression_names_step (Op op left right) = left.value ++ right.value

abbrev pub expression_names : Expr → List ℕ
expression_names = fold-Expr (List ℕ) expression_names_step

abbrev pub condition_names : Cond → List ℕ
condition_names (Kind name args pos) = name ∷ context_names args
condition_names (Compare op left right pos) = expression_names left ++ expression_names right
condition_names (Equal left right pos) = left.name ∷ expression_names right
condition_names (Differ left right pos) = left.name ∷ right.name ∷ []

-- all names of a rule, and of a plain
abbrev pub rule_names : RuleTree → List ℕ
rule_names r = level_names r.head ++ flat_map condition_names r.guard ++ level_names r.body

abbrev pub plain_names : Plain → List ℕ
plain_names p = level_names p.top ++ flat_map rule_names p.rules

-- the names of a solid's atoms; those in its rules are names of the table
abbrev pub solid_names : Solid → List ℕ
solid_names s = flat_map (λ a. label_names a.functor.label) (atoms_of_region s.root)

-- a list of names has one for each of these numbers
abbrev pub HasNames : List (List ℕ) → List ℕ → Type 0
HasNames names ns = All (λ n. n < length names) ns

-- The numbers in a plain are those of the list. What is said of a plain without its names holds for each such
-- list.
abbrev pub NamesPlain : List (List ℕ) → Plain → Type 0
NamesPlain names p = IsNames names × HasNames names (plain_names p)

-- the same of a solid and the table of its rules
abbrev pub NamesSolid : List (List ℕ) → List RuleTree → Solid → Type 0
NamesSolid names table s =
    IsNames names × HasNames names (flat_map rule_names table) × HasNames names (solid_names s)
