-- The code that can be looked for is that of the heads of accepted rules.
use Rattle.std.specs.Prelude.{◌≡◌, List, length}
use Rattle.lmn_base.specs.declared.rule.RuleTree.{RuleTree}
use Rattle.lmn_guards.specs.declared.plan.GuardPlan.{GuardPlan}
use Rattle.lmn_instr_code.specs.declared.instr.Instr.{Instr}
use Rattle.lmn_compile_head.specs.Accepted.{IsReady, head_items, rule_head_code}
use Rattle.lmn_solid_heads.specs.declared.items.HeadItem.{HeadItem}
use Rattle.lmn_solid_heads.specs.Heads.{atoms_of, typed_contexts_of, membranes_of}
use Rattle.lmn_instr_code.specs.Running.{atoms_set, membranes_set}
use Rattle.lmn_machine.specs.Searching.{HeadInOrder, parts_set}

-- Code of the head of an accepted and well made rule, by its plan.
pub record IsCodeOf (code : List Instr) (table : List RuleTree) (r : RuleTree) (plan : GuardPlan) : Type 0 where
  pub ready : IsReady table r plan
  pub is : code ≡ rule_head_code r plan

-- Such code sets its registers in the order of their numbers, reads none that isn't set, and has no more than there are.
abbrev pub AcceptedInOrder : Type 0
AcceptedInOrder = (code : List Instr) (table : List RuleTree) (r : RuleTree) (plan : GuardPlan) → IsCodeOf code table r plan → HeadInOrder 0 1 0 0 code

-- Such code sets a register for each atom, membrane and typed context of the head.
pub record SetsItems (code : List Instr) (items : List HeadItem) : Type 0 where
  pub atoms : atoms_set code ≡ length (atoms_of items)
  pub membranes : membranes_set code ≡ length (membranes_of items)
  pub parts : parts_set code ≡ length (typed_contexts_of items)

abbrev pub AcceptedSetsItems : Type 0
AcceptedSetsItems = (code : List Instr) (table : List RuleTree) (r : RuleTree) (plan : GuardPlan) → IsCodeOf code table r plan → SetsItems code (head_items r plan)
