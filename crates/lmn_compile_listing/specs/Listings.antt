-- The listings of the rules of a table with their plans.
use Rattle.std.specs.Prelude.{ℕ, ◌+◌, List, [], ◌∷◌, ◌++◌}
use Rattle.lmn_base.specs.declared.rule.RuleTree.{RuleTree}
use Rattle.lmn_base.specs.Names.{HasNames, rule_names}
use Rattle.lmn_guards.specs.declared.plan.GuardPlan.{GuardPlan}
use Rattle.lmn_instr_code.specs.declared.instr.Code.{Code}
use Rattle.lmn_instr_code.specs.Listings.{code_listing, HasCode}
use Rattle.lmn_compile_head.specs.Accepted.{rule_head_code}
use Rattle.lmn_compile_body.specs.Accepted.{rule_body_code}

-- the code of a rule with its plan
abbrev pub rule_code : RuleTree → GuardPlan → Code
rule_code r plan = record { head = rule_head_code r plan; body = rule_body_code r plan }

-- of each rule with its plan, in their order
abbrev pub rule_codes : List RuleTree → List GuardPlan → List Code
rule_codes [] plans = []
rule_codes (r ∷ rs) [] = []
rule_codes (r ∷ rs) (plan ∷ plans) = rule_code r plan ∷ rule_codes rs plans

-- the listings of codes, each as that of the rule with the next number, from k on
abbrev pub code_listings : List (List ℕ) → ℕ → List Code → List ℕ
code_listings names k [] = []
code_listings names k (code ∷ codes) = code_listing names code k ++ code_listings names (k + 1) codes

-- The listing of each rule of a table with its plan, in the order of their numbers, from 0 on.
abbrev pub rule_listings : List (List ℕ) → List RuleTree → List GuardPlan → List ℕ
rule_listings names table plans = code_listings names 0 (rule_codes table plans)

-- A list that has the names of a rule has those of its code.
abbrev pub CodesHaveNames : Type 0
CodesHaveNames = (names : List (List ℕ)) (r : RuleTree) (plan : GuardPlan) → HasNames names (rule_names r) → HasCode names (rule_code r plan)
