-- Rules of small texts, and what is said of their guards.
use Rattle.std.specs.Prelude.{ℕ, pos, ◌≡◌, List, [], ◌∷◌, Some, None}
use Rattle.lmn_base.specs.declared.functor.Label.TheVariants.{Name}
use Rattle.lmn_base.specs.declared.guard.Cmp.TheVariants.{Lt}
use Rattle.lmn_base.specs.declared.guard.Cond.{Cond}
use Rattle.lmn_base.specs.declared.guard.Cond.TheVariants.{Kind, Compare, Equal, Differ}
use Rattle.lmn_base.specs.declared.guard.Expr.TheVariants.{Int as Integer, Ctx}
use Rattle.lmn_base.specs.declared.level.Leaf.{Leaf}
use Rattle.lmn_base.specs.declared.level.Leaf.TheVariants.{Atom, Typed}
use Rattle.lmn_base.specs.declared.level.Level.{Level}
use Rattle.lmn_base.specs.declared.level.Level.TheViews.{roll-Level}
use Rattle.lmn_guards.specs.GuardCodes.{unknown, unbound, wrong_operands, type_of}
use Rattle.lmn_guards.specs.declared.plan.TypeKind.TheVariants as kind
use Rattle.lmn_base.specs.SmallTexts.{name_a, at_column, use_at}

-- The names `int`, `unary` and `ground` have the numbers 1 to 3, and `a`, `float`, `x`, `y` and `z` the numbers 4 to
-- 8.
abbrev pub name_x : ℕ
name_x = 6

abbrev pub name_y : ℕ
name_y = 7

abbrev pub name_z : ℕ
name_z = 8

abbrev pub level_of_leaves : List Leaf → Level
level_of_leaves leaves = roll-Level (record { leaves = leaves; membranes = []; contexts = []; rule_contexts = []; rules = [] })

-- `a($x)`, with a link
abbrev pub a_of_x : Level
a_of_x = level_of_leaves (Atom (record { label = Name name_a; arity = 1 }) (record { link = 0; pos = at_column 1 } ∷ []) (at_column 1) ∷ Typed name_x (record { link = 0; pos = at_column 1 }) (at_column 3) ∷ [])

-- `name_a` alone
abbrev pub a_alone : Level
a_alone = level_of_leaves (Atom (record { label = Name name_a; arity = 0 }) [] (at_column 1) ∷ [])

-- `float($x)`: an unknown condition, and `int($x, $y)` is one too
abbrev pub Unknown : Type 0
Unknown = (unknown (Kind 5 (use_at name_x 16 ∷ []) (at_column 10)) ≡ at_column 10 ∷ []) × (unknown (Kind 1 (use_at name_x 14 ∷ use_at name_y 18 ∷ []) (at_column 10)) ≡ at_column 10 ∷ []) × (unknown (Kind 1 (use_at name_x 14 ∷ []) (at_column 10)) ≡ [])

-- `a($x) :- $x = 1 | .`: a context of the head is equal to no number.
abbrev pub WrongOperands : Type 0
WrongOperands = wrong_operands a_of_x [] (Equal (use_at name_x 10) (Integer (pos 1)) (at_column 13)) ≡ at_column 13 ∷ []

-- `a :- $x < 1 | b.`: a context from nowhere
abbrev pub Unbound : Type 0
Unbound = unbound a_alone [] (Compare Lt (Ctx (use_at name_x 6)) (Integer (pos 1)) (at_column 9)) ≡ at_column 6 ∷ []

-- `a :- $z = 1, $z < 2, int($z) | .`: a context may be used behind its binding, but no type may be asked of it.
abbrev pub bound_z : List Cond
bound_z = Equal (use_at name_z 6) (Integer (pos 1)) (at_column 9) ∷ []

abbrev pub BoundBefore : Type 0
BoundBefore =
    (unbound a_alone bound_z (Compare Lt (Ctx (use_at name_z 14)) (Integer (pos 2)) (at_column 17)) ≡ [])
    × (unbound a_alone bound_z (Kind 1 (use_at name_z 26 ∷ []) (at_column 22)) ≡ at_column 26 ∷ [])

-- `a($x) :- $z = 1, $x \= $z | .`, and a second `$z = 2`: a bound context is compared with no part, and is bound once.
abbrev pub BoundOperands : Type 0
BoundOperands =
    (wrong_operands a_of_x bound_z (Differ (use_at name_x 18) (use_at name_z 24) (at_column 21)) ≡ at_column 21 ∷ [])
    × (wrong_operands a_of_x bound_z (Equal (use_at name_z 18) (Integer (pos 2)) (at_column 21)) ≡ at_column 21 ∷ [])

-- `$z = $x` binds z and makes x an integer, and of `ground($x), int($x)` the narrower type counts.
abbrev pub Narrowest : Type 0
Narrowest =
    (type_of a_of_x (Equal (use_at name_z 10) (Ctx (use_at name_x 15)) (at_column 13) ∷ []) name_x ≡ Some kind.Int)
    × (type_of a_of_x (Kind 3 (use_at name_x 17 ∷ []) (at_column 10) ∷ Kind 1 (use_at name_x 25 ∷ []) (at_column 21) ∷ []) name_x ≡ Some kind.Int)
    × (type_of a_of_x (Kind 3 (use_at name_x 17 ∷ []) (at_column 10) ∷ []) name_x ≡ Some kind.Ground)
    × (type_of a_of_x [] name_x ≡ None)
