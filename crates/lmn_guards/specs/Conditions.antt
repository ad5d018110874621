-- Conditions that may stand in a guard.
use Rattle.std.specs.Prelude.{ℕ, ◌≡◌, ◌||◌, ◌⊎◌, ⊤, List, [], ◌∷◌, ◌++◌, Contains, IsTrue}
use Rattle.lmn_base.specs.declared.guard.Cond.{Cond}
use Rattle.lmn_base.specs.declared.guard.Cond.TheVariants.{Kind, Compare, Equal, Differ}
use Rattle.lmn_base.specs.declared.guard.Expr.{Expr}
use Rattle.lmn_base.specs.declared.item.FormedUse.{FormedUse}
use Rattle.lmn_base.specs.declared.item.Item.TheVariants.{Context}
use Rattle.lmn_base.specs.declared.level.CtxUse.{CtxUse}
use Rattle.lmn_base.specs.declared.level.Level.{Level}
use Rattle.lmn_base.specs.Items.{expression_items}
use Rattle.lmn_guards.specs.GuardCodes.{in_head, is_bound, is_type, is_of_head}

-- a context of this name stands in the head, or conditions before bind it
abbrev pub IsKnown : Level → List Cond → ℕ → Type 0
IsKnown head before n = IsTrue (in_head head n || is_bound head before n)

-- so does each context of an expression
abbrev pub EachKnown : Level → List Cond → Expr → Type 0
EachKnown head before e = (u : FormedUse) → Contains (expression_items e) (Context u) → IsKnown head before u.name

-- What may stand behind some conditions:
--   a type, which is asked of one context of the head
--   a comparison, whose contexts are in the head or bound before
--   `=`, which binds a context to the value of such an expression, or asks whether two contexts of the head are equal
--   `\=`, which asks whether two contexts of the head differ
abbrev pub MayStand : Level → List Cond → Cond → Type 0
MayStand head before (Kind name args pos) = IsTrue (is_type name) × ((u : CtxUse) × (args ≡ u ∷ []) × IsTrue (in_head head u.name))
MayStand head before (Compare op left right pos) = EachKnown head before left × EachKnown head before right
MayStand head before (Equal left right pos) =
    (¬ (IsKnown head before left.name) × EachKnown head before right) ⊎ (IsTrue (in_head head left.name) × IsTrue (is_of_head head right))
MayStand head before (Differ left right pos) = IsTrue (in_head head left.name) × IsTrue (in_head head right.name)

-- each of some conditions may stand behind those before it
abbrev pub AllMayStand : Level → List Cond → List Cond → Type 0
AllMayStand head before [] = ⊤
AllMayStand head before (c ∷ cs) = MayStand head before c × AllMayStand head (before ++ c ∷ []) cs
