-- When nothing can happen on a heap, by the code of its rules.
use Rattle.std.specs.Prelude.{ℕ, ◌≡◌, ◌↔◌, Some, List, slice_get}
use Rattle.lmn_base.specs.declared.rule.RuleTree.{RuleTree}
use Rattle.lmn_guards.specs.declared.plan.GuardPlan.{GuardPlan}
use Rattle.lmn_store_heap.specs.Heap.{Heap, IsMem, rules_in}
use Rattle.lmn_store_heap.specs.Sound.{Forest, bare, mem, IsTree}
use Rattle.lmn_instr_code.specs.Running.{HeadRegisters, Succeeds}
use Rattle.lmn_compile_head.specs.Accepted.{IsReady, rule_head_code}
use Rattle.lmn_congruence.specs.Process.{Process}
use Rattle.lmn_reduction.specs.Commits.{Irreducible}
use Rattle.lmn_reduction.specs.Steps.{Step}
use Rattle.lmn_adequacy_heaps.specs.HeapRegions.{HeapReading}
use Rattle.lmn_adequacy_heaps.specs.Laws.{heap_process}
use Rattle.lmn_adequacy_heaps.specs.Premises.{IsRead, HasRules}
use Rattle.lmn_base.specs.Lists.{In}

-- the rules of a table are accepted and well made, each with its plan
abbrev pub AllPlanned : List RuleTree → (ℕ → GuardPlan) → Type 0
AllPlanned table plans = (k : ℕ) (rule : RuleTree) → slice_get table k ≡ Some rule → IsReady table rule (plans k)

-- the code of the head of a rule of some membrane of a heap succeeds
pub record SomeCodeSucceeds (h : Heap) (table : List RuleTree) (plans : ℕ → GuardPlan) : Type 0 where
  pub membrane : ℕ
  pub in_place : IsMem h membrane
  pub number : ℕ
  pub stands : In number (rules_in h membrane)
  pub rule : RuleTree
  pub is : slice_get table number ≡ Some rule
  pub registers : HeadRegisters
  pub succeeds : Succeeds h (rule_head_code rule (plans number)) membrane registers

-- A step is possible from the process of a heap exactly where the code of a head succeeds in some membrane,
abbrev pub StepsByCode : Type 0
StepsByCode = (h : Heap) (r : HeapReading) (table : List RuleTree) (plans : ℕ → GuardPlan) (inner : Forest) →
    IsRead h r → IsTree h (mem h.root inner bare) → HasRules h r table → AllPlanned table plans →
    ((Q : Process) × Step (heap_process h r inner) Q) ↔ SomeCodeSucceeds h table plans

-- and the process is irreducible exactly where the code of no head does.
abbrev pub IrreducibleByCode : Type 0
IrreducibleByCode = (h : Heap) (r : HeapReading) (table : List RuleTree) (plans : ℕ → GuardPlan) (inner : Forest) →
    IsRead h r → IsTree h (mem h.root inner bare) → HasRules h r table → AllPlanned table plans →
    Irreducible (heap_process h r inner) ↔ (¬ (SomeCodeSucceeds h table plans))
