-- The bodies of rules with their plans, and that there is room for their code.
use Rattle.std.specs.Prelude.{◌<◌, ◌+◌, ◌^◌, List, length}
use Rattle.std.specs.List.{AllByRecursion}
use Rattle.lmn_base.specs.declared.rule.RuleTree.{RuleTree}
use Rattle.lmn_base.specs.Levels.{leaves_of}
use Rattle.lmn_guards.specs.declared.plan.GuardPlan.{GuardPlan}
use Rattle.lmn_solid_heads.specs.Heads.{membranes_of}
use Rattle.lmn_instr_code.specs.declared.instr.Instr.{Instr}
use Rattle.lmn_compile_head.specs.Accepted.{head_items, HasRoom, IsReady}
use Rattle.lmn_compile_head.specs.Tables.{HasFewLinks}
use Rattle.lmn_solid_bodies.specs.declared.items.BodyItem.{BodyItem}
use Rattle.lmn_solid_bodies.specs.Code.{body_code}
use Rattle.lmn_solid_bodies.specs.Flattening.{BodyNames, body_items}
use Rattle.lmn_solid_bodies.specs.Rules.{NestedRule}
use Rattle.lmn_compile_body.specs.Naming.{body_names, unnumbered_body, numbered_contexts, numbered_rule_contexts}
use Rattle.lmn_compile_body.specs.Tables.{BodyFits}

-- what the names of the body of a rule stand for
abbrev pub rule_body_names : RuleTree → GuardPlan → BodyNames
rule_body_names r plan = body_names (head_items r plan) r.guard r.head

-- the items of the body of a rule with a plan
abbrev pub rule_body_items : RuleTree → GuardPlan → List BodyItem
rule_body_items r plan = body_items (rule_body_names r plan) (length (membranes_of (head_items r plan))) r.body

-- the code of the body of a rule with a plan
abbrev pub rule_body_code : RuleTree → GuardPlan → List Instr
rule_body_code r plan = body_code (head_items r plan) (rule_body_items r plan) (length r.links)

-- There is room for the code of a body, and of its head: membranes, links and items have numbers.
pub record HasBodyRoom (r : RuleTree) (plan : GuardPlan) : Type 0 where
  pub head : HasRoom r plan
  pub contexts : 1 + (numbered_contexts r.head).size < 2 ^ 16
  pub rule_contexts : 1 + (numbered_rule_contexts r.head).size < 2 ^ 16
  pub membranes : 1 + length (membranes_of (head_items r plan)) + (unnumbered_body (rule_body_names r plan) r.body).size < 2 ^ 16
  pub links : length r.links < 2 ^ 32
  pub items : BodyFits (length r.links) (rule_body_items r plan)
  pub few : 1 + length (head_items r plan) + length (rule_body_items r plan) < 2 ^ 15

-- A rule is accepted and well made, with its plan, and no atom of its body has too many links, as no atom of its head has.
pub record IsCompilable (table : List RuleTree) (r : RuleTree) (plan : GuardPlan) : Type 0 where
  pub ready : IsReady table r plan
  pub few_links : AllByRecursion HasFewLinks (leaves_of r.body)

-- There is room for the code of the body of each such rule.
abbrev pub AcceptedBodies : Type 0
AcceptedBodies = (table : List RuleTree) (r : RuleTree) (plan : GuardPlan) → IsCompilable table r plan → HasBodyRoom r plan

-- Each such rule, flattened, is as the laws of firing ask.
abbrev pub AcceptedNested : Type 0
AcceptedNested = (table : List RuleTree) (r : RuleTree) (plan : GuardPlan) → IsCompilable table r plan →
    NestedRule (head_items r plan) (rule_body_items r plan) (length r.links)
