-- The code of a table of accepted rules can be run by turns.
use Rattle.std.proofs.Common.{ℕ, ◌≡◌, ◌<◌, ◌+◌, List, length, Some, sym, subst, arith}
use Rattle.std.specs.Prelude.{slice_get, All}
use Rattle.std.specs.List.{AllByRecursion}
use Rattle.std.proofs.lemmas.Option.{slice_get_within}
use Rattle.lmn_base.specs.declared.rule.RuleTree.{RuleTree}
use Rattle.lmn_base.specs.Levels.{rules_of}
use Rattle.lmn_base.proofs.Lists.{get_there as there}
use Rattle.lmn_guards.specs.declared.plan.GuardPlan.{GuardPlan}
use Rattle.lmn_instr_code.specs.declared.instr.Code.{Code}
use Rattle.lmn_instr_code.specs.declared.instr.Instr.TheVariants.{CopyCells}
use Rattle.lmn_instr_code.specs.Running.{HeadRegisters, IsFirstSuccess, membranes_set}
use Rattle.lmn_store_heap.specs.Heap.{Heap}
use Rattle.lmn_store_heap.specs.Sound.{Valid}
use Rattle.lmn_ground_parts.specs.Rests.{NoneLeaves}
use Rattle.lmn_solid_bodies.specs.Rules.{closed_rests}
use Rattle.lmn_solid_bodies.specs.Running.{Registers}
use Rattle.lmn_solid_bodies.specs.Within.{HoldsRests}
use Rattle.lmn_compile_head.specs.Accepted.{head_items, rule_head_code, AcceptedLeast}
use Rattle.lmn_compile_body.specs.Accepted.{IsCompilable, AcceptedNested, rule_body_names, rule_body_items, rule_body_code}
use Rattle.lmn_solid_heads.specs.Heads.{membranes_of}
use Rattle.lmn_machine_commit.specs.Matched.{CanBeCommitted, BodiesCanBeCommitted}
use Rattle.lmn_machine_laws.specs.Laws.{CostIsTold}
use Rattle.lmn_machine.specs.Costs.{Leaves}
use Rattle.lmn_machine_laws.specs.AcceptedCode.{AcceptedInOrder, AcceptedSetsItems}
use Rattle.lmn_compile_rules.specs.Compiled.{IsCompiled}
use Rattle.lmn_schedule_strategy.specs.Turns.{BodiesAreReady, HoldsRestsOf, IsRestOf, IsTableCode, Loads, TablesAreRunnable}
use Rattle.lmn_schedule_strategy.proofs.BodyAll.{level_rules}
use Rattle.lmn_schedule_strategy.proofs.BodyInstructions.{Copies, code_copies, code_loads, each_at}
use Rattle.lmn_schedule_strategy.proofs.RestsFound.{closed_of_rule, rests_of_rule}

-- a code is that of a rule of its table, with its plan
pub record HasRule (codes : List Code) (t : IsTableCode codes) (n : ℕ) (code : Code) : Type 0 where
  pub rule : RuleTree
  pub plan : GuardPlan
  pub stands : slice_get t.table n ≡ Some rule
  pub whole : IsCompilable t.table rule plan
  pub compiled : IsCompiled rule plan code

-- the code of a table is that of a rule
pub has_rule : (codes : List Code) (t : IsTableCode codes) (n : ℕ) (code : Code) → slice_get codes n ≡ Some code → HasRule codes t n code
has_rule codes t n code e =
    let l = slice_get_within codes n code e in
    let rule = there t.table n (let m = t.compiled.many in omega (arith, l, m)) in
    let plan = there t.plans n (let m = t.compiled.many in let k = t.whole.many in omega (arith, l, m, k)) in
    record {
      rule = rule.0;
      plan = plan.0;
      stands = rule.1;
      whole = t.whole.whole n rule.0 plan.0 rule.1 plan.1;
      compiled = t.compiled.each n rule.0 plan.0 code rule.1 plan.1 e;
    }

-- the rules that the code of a rule loads are of its table
loads_of_table : (codes : List Code) (t : IsTableCode codes) (n : ℕ) (code : Code) → HasRule codes t n code → AllByRecursion (Loads (λ j. j < length codes)) code.body
loads_of_table codes t n code r =
    let P : ℕ → Type 0 = λ j. j < length codes in
    let inner = subst (λ k. All (λ j. j < k) (rules_of r.rule.body)) (sym t.compiled.many) (t.inner n r.rule r.stands) in
    let items = head_items r.rule r.plan in
    subst (AllByRecursion (Loads P)) (sym r.compiled.body)
    (code_loads P items (rule_body_items r.rule r.plan) (length r.rule.links) (level_rules (rule_body_names r.rule r.plan) P (length (membranes_of items)) r.rule.body inner))

-- where the code of a rule copies a rest, no link leaves it
copies_closed : AcceptedSetsItems → AcceptedNested → AcceptedLeast → (codes : List Code) (t : IsTableCode codes) (n : ℕ) (code : Code) → HasRule codes t n code →
    (h : Heap) (m : ℕ) (s : HeadRegisters) → Valid h → IsFirstSuccess h code.head m s → (at k x : ℕ) → slice_get code.body at ≡ Some (CopyCells k x) →
    (k < 1 + membranes_set code.head) × ((atoms membranes : List ℕ) → IsRestOf h code.head s k atoms membranes → NoneLeaves h atoms)
copies_closed sets nested least codes t n code r h m s valid first at k x e =
    subst (λ hd. (k < 1 + membranes_set hd) × ((atoms membranes : List ℕ) → IsRestOf h hd s k atoms membranes → NoneLeaves h atoms)) (sym r.compiled.head)
    (closed_of_rule sets nested least t.table r.rule r.plan r.whole h valid m s (subst (λ hd. IsFirstSuccess h hd m s) r.compiled.head first) k
    (each_at (Copies (closed_rests (rule_body_items r.rule r.plan))) (rule_body_code r.rule r.plan) at (CopyCells k x)
    (code_copies (head_items r.rule r.plan) (rule_body_items r.rule r.plan) (length r.rule.links)) (subst (λ is. slice_get is at ≡ Some (CopyCells k x)) r.compiled.body e)))

-- the law, from those of heads and bodies
pub tables_are_runnable : AcceptedInOrder → AcceptedSetsItems → BodiesAreReady → BodiesCanBeCommitted → AcceptedNested → AcceptedLeast → CostIsTold → TablesAreRunnable
tables_are_runnable order sets ready commit nested least cost codes t n code e =
    let r = has_rule codes t n code e in
    let first : (h : Heap) (m : ℕ) (s : HeadRegisters) → IsFirstSuccess h code.head m s → IsFirstSuccess h (rule_head_code r.rule r.plan) m s = λ h m s f. subst (λ hd. IsFirstSuccess h hd m s) r.compiled.head f in
    let rests : (h : Heap) (m : ℕ) (s : Registers) → Valid h → IsFirstSuccess h code.head m s.head → HoldsRestsOf h code.head s → HoldsRests h s (head_items r.rule r.plan) =
    λ h m s valid f w. rests_of_rule sets nested least t.table r.rule r.plan r.whole h valid m s (first h m s.head f) (subst (λ hd. HoldsRestsOf h hd s) r.compiled.head w) in
    record {
      head = order code.head t.table r.rule r.plan (record { ready = r.whole.ready; is = r.compiled.head });
      ready = ready t.table r.rule r.plan r.whole code r.compiled;
      loads = loads_of_table codes t n code r;
      copies = λ h m s valid placed f. copies_closed sets nested least codes t n code r h m s valid f;
      leaves = λ h m s valid placed f w. subst (λ b. (n : ℕ) × Leaves h s b n) (sym r.compiled.body)
          (cost.some t.table r.rule r.plan h m s (record { whole = r.whole; valid = valid; placed = placed; first = first h m s.head f; rests = rests h m s valid f w }));
      commits = λ h m s valid placed f w. subst (λ b. CanBeCommitted s b h) (sym r.compiled.body)
          (commit (head_items r.rule r.plan) (rule_body_items r.rule r.plan) (length r.rule.links) (nested t.table r.rule r.plan r.whole) h valid m placed s
          (least.least t.table r.rule r.plan h m s.head r.whole.ready valid (first h m s.head f)).embeds.lies (rests h m s valid f w));
    }
