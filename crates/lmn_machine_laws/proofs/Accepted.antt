-- The code of the head of each accepted rule sets its registers in order.
use Rattle.std.proofs.Common.{◌≡◌, ◌≤◌, List, length, refl, sym, subst, arith}
use Rattle.std.specs.Prelude.{Bool, true, false, ◌||◌, nat_lt}
use Rattle.lmn_base.specs.declared.rule.RuleTree.{RuleTree}
use Rattle.lmn_base.specs.Items.{number_of_items}
use Rattle.lmn_base.specs.Limits.{most_head_items}
use Rattle.lmn_base_walks.specs.RuleCodes.{too_large, is_too_large}
use Rattle.lmn_guards.specs.declared.plan.GuardPlan.{GuardPlan}
use Rattle.lmn_guards.proofs.OrderLemmas.{not_then}
use Rattle.lmn_solid_heads.proofs.HeadTrees.{head}
use Rattle.lmn_compile_head.specs.Heads.{kind_in}
use Rattle.lmn_compile_head.specs.Accepted.{head_items, IsReady, AcceptedHeads}
use Rattle.lmn_compile_head.proofs.Counting.{head_sets}
use Rattle.lmn_machine.specs.Searching.{HeadInOrder}
use Rattle.lmn_machine_laws.proofs.Counted.{head_counted}
use Rattle.lmn_machine_laws.specs.AcceptedCode.{AcceptedInOrder, SetsItems, AcceptedSetsItems}
use Rattle.lmn_machine_laws.proofs.Order.{head_order, few_of_each}
use Rattle.lmn_base.proofs.Numbers.{at_most_by_test as not_less}
use Rattle.lmn_compile_head.proofs.HeadLeaves.{items_few}

first_false : (a b : Bool) → (a || b) ≡ false → a ≡ false
first_false true b e = absurd (cc)
first_false false b e = refl

-- the head of an accepted rule hasn't too many items
few : (table : List RuleTree) (r : RuleTree) (plan : GuardPlan) → IsReady table r plan → length (head_items r plan) ≤ most_head_items
few table r plan ready =
    let large = not_then (is_too_large r) r.pos (ready.accepted.contexts 0 (too_large r) (omega arith)) in
    let n = not_less most_head_items (number_of_items r.head) (first_false (nat_lt most_head_items (number_of_items r.head)) _ large) in
    let k = items_few (kind_in plan.kinds) r.head in
    omega (arith, n, k)

-- the head code of an accepted rule sets its registers in order
pub in_order : AcceptedHeads → AcceptedInOrder
in_order heads code table r plan is =
    let items = head_items r plan in
    let k = few table r plan is.ready in
    let each = few_of_each items in
    let short = (heads.room table r plan is.ready).integers in
    subst (λ c. HeadInOrder 0 1 0 0 c) (sym is.is)
    (head_order items (heads.head table r plan is.ready) r.guard (heads.guard table r plan is.ready) (omega (arith, k, each)) (omega (arith, k, each)) (omega (arith, k, each)) (omega (arith, short)))

-- one for each of its items
pub sets_items : AcceptedHeads → AcceptedSetsItems
sets_items heads code table r plan is =
    let items = head_items r plan in
    let n = head_counted items (heads.head table r plan is.ready) r.guard in
    subst (λ c. SetsItems c items) (sym is.is) (record { atoms = head_sets items r.guard; membranes = n.0; parts = n.1 })
