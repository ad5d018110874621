-- The heads and guards of accepted rules, and what their code means.
use Rattle.std.specs.Prelude.{ℕ, ◌≡◌, ◌<◌, ◌≤◌, ◌+◌, ◌^◌, ◌↔◌, List, [], length, sum_by}
use Rattle.std.specs.List.{AllByRecursion}
use Rattle.lmn_base.specs.declared.rule.RuleTree.{RuleTree}
use Rattle.lmn_base.specs.Levels.{leaves_of}
use Rattle.lmn_base.specs.Limits.{most_guard_tokens}
use Rattle.lmn_base_walks.specs.RuleCodes.{condition_tokens}
use Rattle.lmn_base.specs.WellMade.{IsWellMadeRule}
use Rattle.lmn_store_heap.specs.Heap.{Heap}
use Rattle.lmn_store_heap.specs.Sound.{Valid}
use Rattle.lmn_guards.specs.declared.plan.GuardPlan.{GuardPlan}
use Rattle.lmn_guards.specs.Accepted.{IsAcceptedRule}
use Rattle.lmn_guards.specs.Plans.{IsPlan}
use Rattle.lmn_solid_heads.specs.declared.items.HeadItem.{HeadItem}
use Rattle.lmn_solid_heads.specs.Embeddings.{Images, Embeds, IsLeast}
use Rattle.lmn_solid_heads.specs.Flattening.{unnumbered, items_of_head}
use Rattle.lmn_solid_heads.specs.Heads.{typed_contexts_of}
use Rattle.lmn_instr_code.specs.declared.instr.Instr.{Instr}
use Rattle.lmn_instr_code.specs.Running.{HeadRegisters, Succeeds, IsFirstSuccess}
use Rattle.lmn_instr_code.specs.HeadCode.{head_code}
use Rattle.lmn_compile_head.specs.Heads.{kind_in, IsHead, IsGuard}
use Rattle.lmn_compile_head.specs.Tables.{HeadFits, HasFewLinks}

-- the items of the head of a rule with a plan
abbrev pub head_items : RuleTree → GuardPlan → List HeadItem
head_items r plan = items_of_head (kind_in plan.kinds) r.head

-- the code of the head of a rule with a plan
abbrev pub rule_head_code : RuleTree → GuardPlan → List Instr
rule_head_code r plan = head_code (head_items r plan) r.guard

-- There is room for the code of a head: its membranes, items and links have numbers, and so have the integers that its
-- guard computes.
pub record HasRoom (r : RuleTree) (plan : GuardPlan) : Type 0 where
  pub membranes : 1 + (unnumbered (kind_in plan.kinds) r.head).size < 2 ^ 16
  pub links : HeadFits (length r.links) (head_items r plan)
  pub items : length (head_items r plan) < 2 ^ 15
  pub integers : sum_by condition_tokens r.guard ≤ most_guard_tokens

-- A rule is accepted and well made, and the plan is its plan. An arity is a number of 8 bits, so no atom has more
-- links than it can count.
pub record IsReady (table : List RuleTree) (r : RuleTree) (plan : GuardPlan) : Type 0 where
  pub accepted : IsAcceptedRule table r
  pub made : IsWellMadeRule r
  pub few_links : AllByRecursion HasFewLinks (leaves_of r.head)
  pub planned : IsPlan r plan

-- Of such a rule the head is as the laws of head code ask, the guard too, and there is room for the code.
pub record AcceptedHeads : Type 0 where
  pub head : (table : List RuleTree) (r : RuleTree) (plan : GuardPlan) → IsReady table r plan → IsHead (head_items r plan)
  pub guard : (table : List RuleTree) (r : RuleTree) (plan : GuardPlan) → IsReady table r plan → IsGuard (typed_contexts_of (head_items r plan)) [] r.guard
  pub room : (table : List RuleTree) (r : RuleTree) (plan : GuardPlan) → IsReady table r plan → HasRoom r plan

-- In a valid heap the first success of the code of an accepted head is the least embedding of the head, its registers hold
-- the images, and the code fails exactly where the head doesn't embed.
pub record AcceptedLeast : Type 0 where
  pub least : (table : List RuleTree) (r : RuleTree) (plan : GuardPlan) (h : Heap) (m : ℕ) (s : HeadRegisters) → IsReady table r plan → Valid h →
      IsFirstSuccess h (rule_head_code r plan) m s → IsLeast h (head_items r plan) r.guard m s.images
  pub first : (table : List RuleTree) (r : RuleTree) (plan : GuardPlan) (h : Heap) (m : ℕ) (f : Images) → IsReady table r plan → Valid h →
      IsLeast h (head_items r plan) r.guard m f → (s : HeadRegisters) × (s.images ≡ f) × IsFirstSuccess h (rule_head_code r plan) m s
  pub fails : (table : List RuleTree) (r : RuleTree) (plan : GuardPlan) (h : Heap) (m : ℕ) → IsReady table r plan → Valid h →
      ((s : HeadRegisters) → Succeeds h (rule_head_code r plan) m s → ⊥) ↔ ((f : Images) → Embeds h (head_items r plan) r.guard m f → ⊥)
