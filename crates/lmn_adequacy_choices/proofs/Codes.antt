-- The rules of a membrane, with their plans and their codes: a code succeeds where its rule embeds.
use Rattle.std.proofs.Common.{ℕ, ◌≡◌, List, Some, sym, subst, arith}
use Rattle.std.specs.Prelude.{slice_get}
use Rattle.lmn_base.specs.declared.rule.RuleTree.{RuleTree}
use Rattle.lmn_guards.specs.declared.plan.GuardPlan.{GuardPlan}
use Rattle.lmn_store_heap.specs.Heap.{Heap, rules_in}
use Rattle.lmn_store_heap.specs.Sound.{Forest}
use Rattle.lmn_instr_code.specs.declared.instr.Code.{Code}
use Rattle.lmn_instr_code.specs.Running.{Succeeds}
use Rattle.lmn_compile_head.specs.Accepted.{AcceptedHeads, head_items, rule_head_code}
use Rattle.lmn_compile_head.specs.Heads.{kind_in}
use Rattle.lmn_compile_head.specs.Laws.{CodeOfEmbeddings}
use Rattle.lmn_compile_body.specs.Accepted.{IsCompilable, rule_body_code}
use Rattle.lmn_congruence.specs.Translation.{rule_tree}
use Rattle.lmn_adequacy.specs.Embedding.{EmbedsAt}
use Rattle.lmn_adequacy_heaps.specs.HeapRegions.{HeapReading, region_at}
use Rattle.lmn_adequacy_heaps.specs.Laws.{EmbedsAlike}
use Rattle.lmn_adequacy_heaps.specs.Premises.{IsRead, IsRule, HasForest, HasRules}
use Rattle.lmn_schedule_strategy.specs.Choosing.{CodeSucceeds}
use Rattle.lmn_adequacy_choices.specs.Turns.{HaveCodes}
use Rattle.lmn_base.proofs.Lists.{get_below, get_there as get_some}
use Rattle.lmn_base.specs.Lists.{In}
use Rattle.lmn_adequacy_turns.proofs.PlanTypes.{plan_types}

-- A rule of a membrane, by its number: its tree, its plan and its code.
pub record Coded (r : HeapReading) (table : List RuleTree) (plans : List GuardPlan) (codes : List Code) (k : ℕ) : Type 0 where
  pub rule : RuleTree
  pub is : slice_get table k ≡ Some rule
  pub allowed : IsRule r rule
  pub read : r.rule k ≡ rule_tree r.names r.rule rule
  pub plan : GuardPlan
  pub plan_is : slice_get plans k ≡ Some plan
  pub whole : IsCompilable table rule plan
  pub code : Code
  pub code_is : slice_get codes k ≡ Some code
  pub head : code.head ≡ rule_head_code rule plan
  pub body : code.body ≡ rule_body_code rule plan

-- each rule of a membrane has them
pub coded : (h : Heap) (r : HeapReading) (table : List RuleTree) (plans : List GuardPlan) (codes : List Code) → HaveCodes table plans codes → HasRules h r table →
    (m k : ℕ) → In k (rules_in h m) → Coded r table plans codes k
coded h r table plans codes c has m k p =
    let u = has.known m k p in
    let below = get_below table k u.0 u.1 in
    let plan = get_some plans k (omega (arith, below, c.whole.many)) in
    let code = get_some codes k (omega (arith, below, c.compiled.many)) in
    let is = c.compiled.each k u.0 plan.0 code.0 u.1 plan.1 code.1 in
    record {
      rule = u.0;
      is = u.1;
      allowed = u.2;
      read = has.read k u.0 u.1;
      plan = plan.0;
      plan_is = plan.1;
      whole = c.whole.whole k u.0 plan.0 u.1 plan.1;
      code = code.0;
      code_is = code.1;
      head = is.head;
      body = is.body;
    }

-- where the tree of a rule embeds, its code succeeds
pub embedded_succeeds : AcceptedHeads → CodeOfEmbeddings → EmbedsAlike → (h : Heap) (r : HeapReading) (table : List RuleTree) (plans : List GuardPlan) (codes : List Code) → HaveCodes table plans codes → IsRead h r → HasRules h r table →
    (m : ℕ) (mi : Forest) → HasForest h m mi → (k : ℕ) → In k (rules_in h m) → (g : List ℕ) → EmbedsAt (r.rule k) g (region_at h r m mi) → CodeSucceeds h codes m k
embedded_succeeds heads embeddings alike h r table plans codes c read has m mi F k p g e =
    let u = coded h r table plans codes c has m k p in
    let ready = u.whole.ready in
    let on = (alike h r m mi (kind_in u.plan.kinds) u.rule read F u.allowed (plan_types table u.rule u.plan ready) g).1 (subst (λ z. EmbedsAt z g (region_at h r m mi)) u.read e) in
    let w = embeddings.succeeds h (head_items u.rule u.plan) u.rule.guard m on.0
    (record { valid = read.valid; head = heads.head table u.rule u.plan ready; allowed = heads.guard table u.rule u.plan ready }) on.1 in
    record { code = u.code; is = u.code_is; registers = w.0; succeeds = subst (λ z. Succeeds h z m w.0) (sym u.head) w.2 }
