-- What is said of the guards of small texts, by computation.
use Rattle.std.proofs.Common.{ℕ, ℤ, pos, false, ◌≡◌, List, [], ◌∷◌, ◌++◌, refl, ap, ◌∙◌}
use Rattle.std.specs.List.{flat_map}
use Rattle.lmn_base.specs.declared.item.Item.{Item}
use Rattle.lmn_base.specs.Items.{used, expression_items, expression_items_step, condition_items}
use Rattle.lmn_base_walks.proofs.ItemLemmas.{listed_items as listed}
use Rattle.lmn_base.specs.declared.guard.Cmp.TheVariants.{Lt}
use Rattle.lmn_base.specs.declared.guard.Cond.TheVariants.{Compare}
use Rattle.lmn_base.specs.declared.guard.Expr.TheVariants.{Int as Integer, Ctx}
use Rattle.lmn_base.specs.declared.guard.Expr as rolled
use Rattle.lmn_base.specs.declared.guard.Expr.TheOpen as opened
use Rattle.lmn_base.specs.SmallTexts.{at_column, use_at}
use denote.Hole.Carrier
use Rattle.lmn_base.specs.declared.guard.Expr.TheFolds.{fold-roll-Expr}
use Rattle.lmn_base.specs.declared.item.Form.TheVariants.{Typed}
use Rattle.lmn_base.specs.declared.level.CtxUse.{CtxUse}
use Rattle.lmn_guards.specs.GuardCodes.{in_head, use_of_none}
use Rattle.lmn_guards.specs.Examples.{name_x, name_z, bound_z, a_alone, Unknown, WrongOperands, Unbound, BoundBefore, BoundOperands, Narrowest}

-- the contexts of an expression of one context, and of one integer
pub of_context : (u : CtxUse) → expression_items (Ctx u) ≡ used Typed u ∷ []
unfolding rolled.roll-Expr denote.Hole.Carrier.roll
of_context u = fold-roll-Expr (List Item) expression_items_step (opened.Ctx u)

-- an integer has no contexts
pub of_integer : (n : ℤ) → expression_items (Integer n) ≡ []
unfolding rolled.roll-Expr denote.Hole.Carrier.roll
of_integer n = fold-roll-Expr (List Item) expression_items_step (opened.Int n)

-- no context stands in `a` alone
not_in_a : (n : ℕ) → in_head a_alone n ≡ false
not_in_a n = rw (listed _) refl

-- a condition of another name, or with more contexts, is unknown
pub unknown : Unknown
unknown = (refl, refl, refl)

-- a context of the head is equal to no number
pub wrong_operands : WrongOperands
wrong_operands = rw (listed _) refl

-- a context from nowhere is unbound
pub unbound : Unbound
unbound =
    let items : condition_items (Compare Lt (Ctx (use_at name_x 6)) (Integer (pos 1)) (at_column 9)) ≡ used Typed (use_at name_x 6) ∷ [] = λ i. of_context (use_at name_x 6) i ++ of_integer (pos 1) i in
    ap (flat_map (use_of_none a_alone [])) items ∙ rw (not_in_a name_x) refl

-- a context may be used behind its binding, and no type is asked of it
pub bound_before : BoundBefore
bound_before =
    let items : condition_items (Compare Lt (Ctx (use_at name_z 14)) (Integer (pos 2)) (at_column 17)) ≡ used Typed (use_at name_z 14) ∷ [] = λ i. of_context (use_at name_z 14) i ++ of_integer (pos 2) i in
    (ap (flat_map (use_of_none a_alone bound_z)) items ∙ rw (not_in_a name_z) refl, rw (not_in_a name_z) refl)

-- a bound context is compared with no part, and is bound once
pub bound_operands : BoundOperands
bound_operands = (rw (listed _) refl, rw (listed _) refl)

-- of the types that the guard gives a context the narrowest counts
pub narrowest : Narrowest
narrowest = (rw (listed _) (rw (of_context (use_at name_x 15)) refl), refl, refl, refl)
