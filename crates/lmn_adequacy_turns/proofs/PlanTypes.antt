-- The kinds of a plan are those that the guard gives.
use Rattle.std.proofs.Common.{◌≡◌, sym, ap, ◌∙◌, refl}
use Rattle.std.specs.Prelude.{Option, Some, None, IsSome, List}
use Rattle.lmn_base.specs.declared.rule.RuleTree.{RuleTree}
use Rattle.lmn_guards.specs.declared.plan.GuardPlan.{GuardPlan}
use Rattle.lmn_guards.specs.declared.plan.TypeKind.{TypeKind}
use Rattle.lmn_guards.specs.GuardCodes.{type_of}
use Rattle.lmn_guards.proofs.AcceptedLemmas.{in_order}
use Rattle.lmn_compile_head.specs.Accepted.{IsReady}
use Rattle.lmn_compile_head.specs.Heads.{kind_in}
use Rattle.lmn_compile_head.proofs.HeadLeaves.{typed_leaf}
use Rattle.lmn_compile_head.proofs.PlanKinds.{kind_of_leaf}
use Rattle.lmn_adequacy_heaps.specs.Premises.{HasTypes}

-- where a kind is there, it is one
pub is_of : (o : Option TypeKind) → IsSome o → (k : TypeKind) × (o ≡ Some k)
is_of (Some k) s = (k, refl)
is_of None s = absurd (cc)

-- each typed context of the head has the narrowest type that the conditions ask
pub plan_types : (table : List RuleTree) (r : RuleTree) (plan : GuardPlan) → IsReady table r plan → HasTypes (kind_in plan.kinds) r
plan_types table r plan ready n u k =
    let l = typed_leaf (kind_in plan.kinds) r.head n u k in
    let t = is_of (type_of r.head r.guard u.name) ((in_order table r ready.accepted).has_type u.name l.0 l.1 l.2) in
    let same : kind_in plan.kinds u.name ≡ t.0 = ap (λ ts. kind_in ts u.name) ready.planned.kinds ∙ kind_of_leaf r.head r.guard u.name t.0 t.1 l.0 l.1 l.2 in
    t.1 ∙ ap (λ z. Some z) (sym (l.4 ∙ same))
