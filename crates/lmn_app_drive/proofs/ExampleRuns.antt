-- How many rules are asked in runs without commits.
use Rattle.std.proofs.Common.{ℕ, ◌≡◌, ◌==◌, if◌then◌else◌, List, [], ◌∷◌, inl, inr, refl, ap, subst, ◌∙◌, arith}
use Rattle.lmn_base.specs.Lists.{In}
use Rattle.lmn_base.proofs.Numbers.{not_equal}
use Rattle.lmn_base.specs.declared.rule.RuleTree.{RuleTree}
use Rattle.lmn_store_heap.specs.Heap.{Heap, mem_mark_of}
use Rattle.lmn_store_heap.specs.Sound.{IsTree, flat}
use Rattle.lmn_instr_code.specs.declared.instr.Code.{Code}
use Rattle.lmn_schedule_strategy.specs.Counting.{awake_of, rule_count}
use Rattle.lmn_app_drive.specs.Asking.{AwakeRun, awake_rules, starts, turns_on}
use Rattle.lmn_app_drive.specs.Examples.{AwakeMayBeAsked, InputsHaveSizes, SleepersAreNotAsked}

-- as many are asked as may be
pub awake_may_be_asked : AwakeMayBeAsked
awake_may_be_asked c table codes size h f t begun =
    record { last = h; forest = f; sum = 0; run = starts; tree = t; ends = inl refl; rises = record { rises = omega arith; within = omega arith } }

-- a run without commits has begun, no more
at_start : {Answers : ℕ → ℕ → ℕ → Type 0} {table : List RuleTree} {codes : List Code} {size n sum : ℕ} {h k : Heap} → AwakeRun Answers table codes size h n k sum → n ≡ 0 → (k ≡ h) × (sum ≡ 0)
at_start starts e = (refl, refl)
at_start (turns_on f run t turn) e = absurd (omega (arith, e))

-- no rule stands in a membrane that is awake where all sleep
none_awake : (h : Heap) (ms : List ℕ) → ((m : ℕ) → In m ms → mem_mark_of h m ≡ 1) → rule_count h (awake_of h ms) ≡ 0
none_awake h [] asleep = refl
none_awake h (m ∷ ms) asleep = by (mem_mark_of h m) (asleep m (inl refl)) (none_awake h ms (λ n i. asleep n (inr i)))
  where
    by : (v : ℕ) → v ≡ 1 → rule_count h (awake_of h ms) ≡ 0 → rule_count h (if v == 0 then m ∷ awake_of h ms else awake_of h ms) ≡ 0
    by v e r = rw (not_equal v 0 (λ z. omega (arith, e, z))) r

-- none is asked where all sleep
pub sleepers_are_not_asked : SleepersAreNotAsked
sleepers_are_not_asked c table codes size h asleep h' begun counted a =
    let s = at_start a.run refl in
    let none = ap (λ k. awake_rules k a.forest) s.0 ∙ none_awake h (flat a.forest) (asleep a.forest (subst (λ k. IsTree k a.forest) s.0 a.tree)) in
    let sum = s.1 in
    let up = a.rises.rises in
    let within = a.rises.within in
    omega (arith, none, sum, up, within)

-- what is said of each input
pub inputs_have_sizes : InputsHaveSizes
inputs_have_sizes names table h options c S holds = ((λ T held. refl), (λ all. let e : ◌≡◌ {A = ℕ} 3 4 = all S holds in omega (arith, e)))
