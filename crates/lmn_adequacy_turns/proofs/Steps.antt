-- Steps and the success of head code.
use Rattle.std.proofs.Common.{ℕ, ◌≡◌, List, Some, slice_get}
use Rattle.lmn_base.specs.declared.rule.RuleTree.{RuleTree}
use Rattle.lmn_guards.specs.declared.plan.GuardPlan.{GuardPlan}
use Rattle.lmn_compile_head.specs.Accepted.{AcceptedHeads, head_items}
use Rattle.lmn_compile_head.specs.Heads.{kind_in}
use Rattle.lmn_compile_head.specs.Laws.{CodeOfEmbeddings, HeadMeetsHeap}
use Rattle.lmn_adequacy_heaps.specs.Laws.{SomeRuleEmbeds, AllTyped, HeapStepsExactly, HeapIrreducibleExactly}
use Rattle.lmn_adequacy_turns.specs.Ends.{AllPlanned, SomeCodeSucceeds, StepsByCode, IrreducibleByCode}
use Rattle.lmn_adequacy_turns.proofs.PlanTypes.{plan_types}
use Rattle.lmn_store_heap.specs.Heap.{Heap}
use Rattle.lmn_adequacy_heaps.specs.Premises.{IsRead}
use Rattle.lmn_adequacy_heaps.specs.HeapRegions.{HeapReading}

module _ (heads : AcceptedHeads) (codes : CodeOfEmbeddings) where
  all_typed : (table : List RuleTree) (plans : ℕ → GuardPlan) → AllPlanned table plans → AllTyped table (λ k. kind_in (plans k).kinds)
  all_typed table plans all k rule is = plan_types table rule (plans k) (all k rule is)

  module _ (h : Heap) (r : HeapReading) (read : IsRead h r) (table : List RuleTree) (plans : ℕ → GuardPlan) (all : AllPlanned table plans) where
    meets : (k : ℕ) (rule : RuleTree) (is : slice_get table k ≡ Some rule) → HeadMeetsHeap h (head_items rule (plans k)) rule.guard
    meets k rule is = let ready = all k rule is in record { valid = read.valid; head = heads.head table rule (plans k) ready; allowed = heads.guard table rule (plans k) ready }

    from_code : SomeCodeSucceeds h table plans → SomeRuleEmbeds h table (λ k. kind_in (plans k).kinds)
    from_code s = record {
      membrane = s.membrane;
      in_place = s.in_place;
      number = s.number;
      stands = s.stands;
      rule = s.rule;
      is = s.is;
      images = s.registers.images;
      embeds = codes.embeds h (head_items s.rule (plans s.number)) s.rule.guard s.membrane s.registers (meets s.number s.rule s.is) s.succeeds;
    }

    to_code : SomeRuleEmbeds h table (λ k. kind_in (plans k).kinds) → SomeCodeSucceeds h table plans
    to_code e =
        let u = codes.succeeds h (head_items e.rule (plans e.number)) e.rule.guard e.membrane e.images (meets e.number e.rule e.is) e.embeds in
        record {
          membrane = e.membrane;
          in_place = e.in_place;
          number = e.number;
          stands = e.stands;
          rule = e.rule;
          is = e.is;
          registers = u.0;
          succeeds = u.2;
        }

  pub steps_by_code : HeapStepsExactly → StepsByCode
  steps_by_code steps h r table plans inner read tree has all =
      let u = steps h r table (λ k. kind_in (plans k).kinds) inner read tree has (all_typed table plans all) in
      ((λ q. to_code h r read table plans all (u.0 q)), (λ s. u.1 (from_code h r read table plans all s)))

  pub irreducible_by_code : HeapIrreducibleExactly → IrreducibleByCode
  irreducible_by_code irreducible h r table plans inner read tree has all =
      let u = irreducible h r table (λ k. kind_in (plans k).kinds) inner read tree has (all_typed table plans all) in
      ((λ q s. u.0 q (from_code h r read table plans all s)), (λ n. u.1 (λ e. n (to_code h r read table plans all e))))
