-- The code of accepted rules succeeds nowhere anew where nothing was touched, and its commits wake what they touch.
use Rattle.std.proofs.Common.{ℕ, sym, subst, length}
use Rattle.lmn_store_heap.specs.Heap.{Heap}
use Rattle.lmn_store_heap.specs.Sound.{Valid}
use Rattle.lmn_instr_code.specs.Running.{HeadRegisters, IsFirstSuccess, Succeeds}
use Rattle.lmn_solid_bodies.specs.Running.{Registers}
use Rattle.lmn_solid_bodies.specs.Within.{HoldsRests}
use Rattle.lmn_machine_commit.specs.Touching.{RulesWakeTouched}
use Rattle.lmn_machine_commit.specs.Waking.{Commits}
use Rattle.lmn_compile_head.specs.Accepted.{AcceptedHeads, AcceptedLeast, head_items, rule_head_code}
use Rattle.lmn_compile_body.specs.Accepted.{AcceptedNested, rule_body_items}
use Rattle.lmn_machine_laws.specs.AcceptedCode.{AcceptedSetsItems}
use Rattle.lmn_schedule_sleep.specs.Laws.{QuietStaysMatchless}
use Rattle.lmn_schedule_sleep.specs.Quiet.{IsQuiet}
use Rattle.lmn_schedule_strategy.specs.Quieting.{TablesAreQuiet}
use Rattle.lmn_schedule_strategy.specs.Turns.{HoldsRestsOf}
use Rattle.lmn_schedule_strategy.proofs.RestsFound.{rests_of_rule}
use Rattle.lmn_schedule_strategy.proofs.Runnable.{has_rule}

pub tables_are_quiet : AcceptedSetsItems → AcceptedNested → AcceptedHeads → AcceptedLeast → QuietStaysMatchless → RulesWakeTouched → TablesAreQuiet
tables_are_quiet sets nested heads least law wake codes t n code e =
    let r = has_rule codes t n code e in
    let items = head_items r.rule r.plan in
    let first : (h : Heap) (m : ℕ) (s : HeadRegisters) → IsFirstSuccess h code.head m s → IsFirstSuccess h (rule_head_code r.rule r.plan) m s = λ h m s f. subst (λ hd. IsFirstSuccess h hd m s) r.compiled.head f in
    let rests : (h : Heap) (m : ℕ) (s : Registers) → Valid h → IsFirstSuccess h code.head m s.head → HoldsRestsOf h code.head s → HoldsRests h s items =
    λ h m s valid f w. rests_of_rule sets nested least t.table r.rule r.plan r.whole h valid m s (first h m s.head f) (subst (λ hd. HoldsRestsOf h hd s) r.compiled.head w) in
    let fails : (h k : Heap) → Valid h → Valid k → (m : ℕ) → IsQuiet h k m → ((s : HeadRegisters) → Succeeds h code.head m s → ⊥) → (s : HeadRegisters) → Succeeds k code.head m s → ⊥ =
    λ h k vh vk m quiet none s w.
    (let before = least.fails t.table r.rule r.plan h m r.whole.ready vh in
    let now = least.fails t.table r.rule r.plan k m r.whole.ready vk in
    let none_before = before.0 (λ s w. none s (subst (λ is. Succeeds h is m s) (sym r.compiled.head) w)) in
    now.1 (λ f e. none_before f (law h k vh vk m quiet items (heads.head t.table r.rule r.plan r.whole.ready) r.rule.guard f e)) s (subst (λ is. Succeeds k is m s) r.compiled.head w)) in
    record {
      stays = fails;
      wakes = λ h m s valid placed f w z done.
          wake items (rule_body_items r.rule r.plan) (length r.rule.links) (nested t.table r.rule r.plan r.whole) h valid m placed s
          (least.least t.table r.rule r.plan h m s.head r.whole.ready valid (first h m s.head f)).embeds.lies (rests h m s valid f w) z (subst (λ b. Commits h s b z) r.compiled.body done);
    }
