-- There is room for the code of the bodies of accepted rules.
use Rattle.std.proofs.Common.{◌≤◌, List, length, arith}
use Rattle.std.specs.Prelude.{nat_lt}
use Rattle.lmn_base.specs.declared.rule.RuleTree.{RuleTree}
use Rattle.lmn_base.specs.Items.{number_of_items}
use Rattle.lmn_base.specs.Limits.{most_head_items, most_body_items}
use Rattle.lmn_base_walks.specs.RuleCodes.{too_large, is_too_large}
use Rattle.lmn_guards.specs.declared.plan.GuardPlan.{GuardPlan}
use Rattle.lmn_guards.proofs.OrderLemmas.{not_then}
use Rattle.lmn_solid_heads.specs.Heads.{membranes_of}
use Rattle.lmn_compile_head.specs.Accepted.{head_items, AcceptedHeads}
use Rattle.lmn_compile_head.specs.Heads.{kind_in}
use Rattle.lmn_solid_bodies.proofs.Numbered.{same_size, head_size}
use Rattle.lmn_compile_body.specs.Accepted.{rule_body_names, IsCompilable, AcceptedBodies}
use Rattle.lmn_compile_head.proofs.HeadLeaves as leaves
use Rattle.lmn_compile_body.proofs.BodyTrees.{items_few, size_few, links_fit, links_many, links_counted}
use Rattle.lmn_base.proofs.Numbers.{at_most_by_test as not_less}
use Rattle.std.proofs.lemmas.Bool.{or_parts}

-- the limits of head and body
pub limits : (table : List RuleTree) (r : RuleTree) (plan : GuardPlan) → IsCompilable table r plan → (number_of_items r.head ≤ most_head_items) × (number_of_items r.body ≤ most_body_items)
limits table r plan whole =
    let large = not_then (is_too_large r) r.pos (whole.ready.accepted.contexts 0 (too_large r) (omega arith)) in
    let a = or_parts (nat_lt most_head_items (number_of_items r.head)) _ large in
    let b = or_parts (nat_lt most_body_items (number_of_items r.body)) _ a.1 in
    (not_less most_head_items (number_of_items r.head) a.0, not_less most_body_items (number_of_items r.body) b.0)

-- the bodies of accepted rules have their items
pub accepted_bodies : AcceptedHeads → AcceptedBodies
accepted_bodies heads table r plan whole =
    let room = heads.room table r plan whole.ready in
    let kind = kind_in plan.kinds in
    let s = rule_body_names r plan in
    let k = length (membranes_of (head_items r plan)) in
    let l = limits table r plan whole in
    let head_few = l.0 in
    let body_few = l.1 in
    let fits = room.membranes in
    let sized = head_size kind r.head in
    let contexts = same_size (λ l. l.contexts) kind r.head in
    let rule_contexts = same_size (λ l. l.rule_contexts) kind r.head in
    let body_size = size_few s r.body in
    let numbers = whole.ready.made.table.numbered in
    let counted = links_counted r.head r.body (length r.links) numbers in
    let head_links = links_many r.head whole.ready.few_links in
    let body_links = links_many r.body whole.few_links in
    let head_many = leaves.size_few kind r.head in
    let items = items_few s k r.body in
    let head_items = room.items in
    let few_head = leaves.items_few kind r.head in
    record {
      head = room;
      contexts = omega (arith, contexts, fits);
      rule_contexts = omega (arith, rule_contexts, fits);
      membranes = omega (arith, sized, head_many, head_few, body_size, body_few);
      links = omega (arith, counted, head_links, body_links, head_few, body_few);
      items = links_fit s k r.head r.body (length r.links) whole.few_links numbers;
      few = omega (arith, few_head, head_few, items, body_few);
    }
