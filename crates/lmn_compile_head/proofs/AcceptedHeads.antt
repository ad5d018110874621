-- The laws of head code hold of accepted rules.
use Rattle.std.proofs.Common.{ℕ, ◌≤◌, List, [], length, sym, subst, arith}
use Rattle.std.specs.Prelude.{sum_by, nat_lt}
use Rattle.lmn_base.specs.declared.rule.RuleTree.{RuleTree}
use Rattle.lmn_base.specs.Items.{number_of_items}
use Rattle.lmn_base_walks.specs.RuleCodes.{too_large, is_too_large, condition_tokens}
use Rattle.lmn_base.proofs.RowLemmas.{none_before}
use Rattle.lmn_guards.specs.declared.plan.GuardPlan.{GuardPlan}
use Rattle.lmn_guards.specs.GuardCodes.{rows_of_conditions, rows_of_typed}
use Rattle.lmn_guards.proofs.AcceptedLemmas.{in_order}
use Rattle.lmn_guards.proofs.OrderLemmas.{not_then}
use Rattle.lmn_store_heap.specs.Heap.{Heap}
use Rattle.lmn_store_heap.specs.Sound.{Valid}
use Rattle.lmn_solid_heads.specs.Heads.{HeadTyped}
use Rattle.lmn_solid_heads.specs.Embeddings.{HasTyped, HasLink}
use Rattle.lmn_solid_heads.specs.Heads as heads
use Rattle.lmn_compile_head.specs.Heads.{kind_in, IsHead, IsGuard}
use Rattle.lmn_compile_head.specs.Laws.{HeadMeetsHeap}
use Rattle.lmn_compile_head.specs.Accepted.{head_items, HasRoom, IsReady, AcceptedHeads, AcceptedLeast}
use Rattle.lmn_compile_head.proofs.HeadLeaves.{items_inside, at_most_twice, typed_leaf, port_of_leaf, head_fits, items_few, size_few}
use Rattle.lmn_compile_head.proofs.GuardUses.{accepted_guard}
use Rattle.lmn_compile_head.proofs.Laws.{code_of_least}
use Rattle.lmn_base.specs.Graphs.{Port}
use Rattle.lmn_base.specs.Limits.{most_head_items, most_body_items, most_conditions, most_guard_tokens}
use Rattle.lmn_base.proofs.Numbers.{at_most_by_test as not_less}
use Rattle.std.proofs.lemmas.Bool.{or_parts}

module _ (table : List RuleTree) (r : RuleTree) (plan : GuardPlan) (ready : IsReady table r plan) where
  -- the limits of a rule
  small : (number_of_items r.head ≤ most_head_items) × (sum_by condition_tokens r.guard ≤ most_guard_tokens)
  small =
      let large = not_then (is_too_large r) r.pos (ready.accepted.contexts 0 (too_large r) (omega arith)) in
      let a = or_parts (nat_lt most_head_items (number_of_items r.head)) _ large in
      let b = or_parts (nat_lt most_body_items (number_of_items r.body)) _ a.1 in
      let c = or_parts (nat_lt most_conditions (length r.guard)) _ b.1 in
      (not_less most_head_items (number_of_items r.head) a.0, not_less most_guard_tokens (sum_by condition_tokens r.guard) c.1)

  is_head : IsHead (head_items r plan)
  is_head =
      let kind = kind_in plan.kinds in
      let order = in_order table r ready.accepted in
      let held : (n : ℕ) (t : HeadTyped) → HasTyped (head_items r plan) n t → (p : Port) × HasLink (head_items r plan) t.link p = λ n t e.
      (let l = typed_leaf kind r.head n t e in
      let p = port_of_leaf kind r.head l.0.link (order.is_held t.name l.0 l.1 l.2) in
      (p.0, subst (λ x. HasLink (head_items r plan) x p.0) (sym l.3) p.1)) in
      record {
        inside = items_inside kind r.head;
        at_most_twice = λ x. at_most_twice kind r.head r.body x ready.accepted.linked;
        held = held;
      }

  is_guard : IsGuard (heads.typed_contexts_of (head_items r plan)) [] r.guard
  is_guard = accepted_guard table r plan (in_order table r ready.accepted) ready.planned (none_before (rows_of_conditions r.head [] r.guard) (rows_of_typed r) ready.accepted.guard)

  has_room : HasRoom r plan
  has_room =
      let kind = kind_in plan.kinds in
      let a = items_few kind r.head in
      let b = size_few kind r.head in
      let c = small.0 in
      record {
        membranes = omega (arith, b, c);
        links = head_fits kind r.head r.body (length r.links) ready.few_links ready.made.table.numbered;
        items = omega (arith, a, c);
        integers = small.1;
      }

  meets : (h : Heap) → Valid h → HeadMeetsHeap h (head_items r plan) r.guard
  meets h valid = record { valid = valid; head = is_head; allowed = is_guard }

-- the head code of an accepted rule succeeds where the rule embeds
pub accepted_heads : AcceptedHeads
accepted_heads = record { head = is_head; guard = is_guard; room = has_room }

-- and first at the least embedding
pub accepted_least : AcceptedLeast
accepted_least = record {
  least = λ table r plan h m s ready valid. code_of_least.least h (head_items r plan) r.guard m s (meets table r plan ready h valid);
  first = λ table r plan h m f ready valid. code_of_least.first h (head_items r plan) r.guard m f (meets table r plan ready h valid);
  fails = λ table r plan h m ready valid. code_of_least.fails h (head_items r plan) r.guard m (meets table r plan ready h valid);
}
