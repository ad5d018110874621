-- The law of the cost of a commit.
use Rattle.std.specs.Prelude.{ℕ, ◌≡◌, ◌+◌, ◌↔◌, List}
use Rattle.lmn_base.specs.declared.rule.RuleTree.{RuleTree}
use Rattle.lmn_guards.specs.declared.plan.GuardPlan.{GuardPlan}
use Rattle.lmn_store_heap.specs.Heap.{Heap, IsMemInPlace}
use Rattle.lmn_store_heap.specs.Sound.{Forest, IsTree, Valid, flat, item_count_in}
use Rattle.lmn_solid_heads.specs.declared.items.HeadItem.{HeadItem}
use Rattle.lmn_solid_heads.specs.Embeddings.{Lies}
use Rattle.lmn_instr_code.specs.Running.{IsFirstSuccess}
use Rattle.lmn_compile_head.specs.Accepted.{head_items, rule_head_code}
use Rattle.lmn_compile_body.specs.Accepted.{IsCompilable, rule_body_code}
use Rattle.lmn_solid_bodies.specs.declared.items.BodyItem.{BodyItem}
use Rattle.lmn_solid_bodies.specs.Code.{body_code}
use Rattle.lmn_solid_bodies.specs.Rules.{NestedRule}
use Rattle.lmn_solid_bodies.specs.Running.{Registers, RunsBody}
use Rattle.lmn_solid_bodies.specs.Within.{HoldsRests}
use Rattle.lmn_machine.specs.Costs.{Leaves}

-- The head code of an accepted rule first succeeds in the membrane m of a valid heap, with these registers, which hold what is
-- left where closed contexts stand.
pub record HeadIsFound (table : List RuleTree) (r : RuleTree) (plan : GuardPlan) (h : Heap) (m : ℕ) (s : Registers) : Type 0 where
  pub whole : IsCompilable table r plan
  pub valid : Valid h
  pub placed : IsMemInPlace h m
  pub first : IsFirstSuccess h (rule_head_code r plan) m s.head
  pub rests : HoldsRests h s (head_items r plan)

-- The sum over the instructions of a body tells what a commit leaves.
--   told   where the body code runs, the sum is the number of items of the heap after it, without the root
--   some   there is such a sum, before anything runs
--   one    and no other
pub record CostIsTold : Type 0 where
  pub told : (table : List RuleTree) (r : RuleTree) (plan : GuardPlan) (h : Heap) (m : ℕ) (s : Registers) → HeadIsFound table r plan h m s →
      (h' : Heap) → RunsBody s (rule_body_code r plan) h h' → (f : Forest) → IsTree h' f → (n : ℕ) → Leaves h s (rule_body_code r plan) n ↔ (n + 1 ≡ item_count_in h' (flat f))
  pub some : (table : List RuleTree) (r : RuleTree) (plan : GuardPlan) (h : Heap) (m : ℕ) (s : Registers) → HeadIsFound table r plan h m s →
      (n : ℕ) × Leaves h s (rule_body_code r plan) n
  pub one : (table : List RuleTree) (r : RuleTree) (plan : GuardPlan) (h : Heap) (m : ℕ) (s : Registers) → HeadIsFound table r plan h m s →
      (n k : ℕ) → Leaves h s (rule_body_code r plan) n → Leaves h s (rule_body_code r plan) k → n ≡ k

-- The head of a flat rule lies in the membrane m of a valid heap, at the images in these registers, which hold what is left
-- where closed contexts stand.
pub record HeadLies (head : List HeadItem) (body : List BodyItem) (links : ℕ) (h : Heap) (m : ℕ) (s : Registers) : Type 0 where
  pub rule : NestedRule head body links
  pub valid : Valid h
  pub placed : IsMemInPlace h m
  pub lies : Lies h head m s.head.images
  pub rests : HoldsRests h s head

-- The same three of the code of any body whose head lies, be it that of an accepted rule or not.
pub record BodyCostIsTold : Type 0 where
  pub told : (head : List HeadItem) (body : List BodyItem) (links : ℕ) (h : Heap) (m : ℕ) (s : Registers) → HeadLies head body links h m s →
      (h' : Heap) → RunsBody s (body_code head body links) h h' → (f : Forest) → IsTree h' f → (n : ℕ) → Leaves h s (body_code head body links) n ↔ (n + 1 ≡ item_count_in h' (flat f))
  pub some : (head : List HeadItem) (body : List BodyItem) (links : ℕ) (h : Heap) (m : ℕ) (s : Registers) → HeadLies head body links h m s →
      (n : ℕ) × Leaves h s (body_code head body links) n
  pub one : (head : List HeadItem) (body : List BodyItem) (links : ℕ) (h : Heap) (m : ℕ) (s : Registers) → HeadLies head body links h m s →
      (n k : ℕ) → Leaves h s (body_code head body links) n → Leaves h s (body_code head body links) k → n ≡ k
