-- The membranes of a heap have as many rules as the solid that it holds, and no more are asked than are asked in it.
use Rattle.std.proofs.Common.{ℕ, zero, suc, ◌≡◌, ◌≤◌, ◌+◌, List, [], ◌∷◌, length, refl, sym, ap, subst, arith}
use Rattle.std.specs.Prelude.{if◌then◌else◌}
use Rattle.std.proofs.lemmas.Bool.{eq-eqb}
use Rattle.std.proofs.lemmas.List.{length-map}
use Rattle.lmn_base.proofs.Numbers.{not_equal}
use Rattle.lmn_store_heap.specs.Heap.{Heap, mem_mark_of, rules_in}
use Rattle.lmn_store_heap.specs.Sound.{Forest, bare, mem, flat}
use Rattle.lmn_adequacy_heaps.specs.HeapRegions.{HeapReading, region_at, regions_at}
use Rattle.lmn_adequacy.specs.Choice.{asked_paths}
use Rattle.lmn_adequacy_choices.specs.Counting.{AsksRulesOf}
use Rattle.lmn_adequacy_choices.specs.Laws.{RulesAreAskedAlike}
use Rattle.lmn_adequacy_choices.specs.Turns.{tree_over}
use Rattle.lmn_instr_code.specs.declared.instr.Code.{Code}
use Rattle.lmn_schedule_strategy.specs.Choosing.{asked}
use Rattle.lmn_schedule_strategy.specs.Counting.{AsksRules, asks_all, asks_until, awake_of, rule_count}
use Rattle.lmn_schedule_strategy.specs.Quieting.{SleepsRightly}
use Rattle.lmn_schedule_strategy.proofs.Counts.{count_both}
use Rattle.lmn_schedule.specs.Counting.{CountsAreAlike, RulesAreCounted, rule_count_of_region, rule_count_of_regions}
use Rattle.lmn_schedule.specs.Held.{reading_by}

-- those of a forest are those of its regions
count_regions : (h : Heap) (r : HeapReading) (f : Forest) → rule_count h (flat f) ≡ rule_count_of_regions (regions_at h r f)
count_regions h r bare = refl
count_regions h r (mem m inner rest) =
    let both = count_both h (flat inner) (flat rest) in
    let first = count_regions h r inner in
    let others = count_regions h r rest in
    let here = length-map (rules_in h m) r.rule in
    omega (arith, both, first, others, here)

pub rules_are_counted : RulesAreCounted
rules_are_counted names table h S o =
    let r = reading_by names table o.number in
    let all : rule_count h (flat (tree_over h o.inner)) ≡ rule_count_of_region (region_at h r h.root o.inner) + 0 = count_regions h r (tree_over h o.inner) in
    let is : rule_count_of_region (region_at h r h.root o.inner) ≡ rule_count_of_region S = ap rule_count_of_region (sym o.is) in
    (tree_over h o.inner, o.tree, omega (arith, all, is))

-- ---- those that sleep

-- one that is awake is asked, and then others
asks_awake : (h : Heap) (codes : List Code) (m : ℕ) (ms awake : List ℕ) → ((j : ℕ) → AsksRules h codes awake j → (k : ℕ) × (j ≤ k) × AsksRules h codes ms k) →
    (n : ℕ) → AsksRules h codes (m ∷ awake) n → (k : ℕ) × (n ≤ k) × AsksRules h codes (m ∷ ms) k
asks_awake h codes m ms awake rest n (asks_all {n = j} none more) =
    let q = rest j more in
    let l = q.1 in
    (length (rules_in h m) + q.0, omega (arith, l), asks_all none q.2)
asks_awake h codes m ms awake rest n (asks_until {place = place} first) = (place + 1, omega arith, asks_until first)

-- Where those that sleep would be asked too, no fewer rules are asked: none of theirs succeeds.
pub asks_sleepers : (h : Heap) (codes : List Code) → SleepsRightly h codes → (ms : List ℕ) (n : ℕ) → AsksRules h codes (awake_of h ms) n → (k : ℕ) × (n ≤ k) × AsksRules h codes ms k
asks_sleepers h codes s [] n a = (n, omega arith, a)
asks_sleepers h codes s (m ∷ ms) n a = by (mem_mark_of h m) refl (asks_sleepers h codes s ms)
  where
    by : (mark : ℕ) → mem_mark_of h m ≡ mark → ((j : ℕ) → AsksRules h codes (awake_of h ms) j → (k : ℕ) × (j ≤ k) × AsksRules h codes ms k) → (k : ℕ) × (n ≤ k) × AsksRules h codes (m ∷ ms) k
    by zero e rest =
        let z = eq-eqb (mem_mark_of h m) 0 e in
        asks_awake h codes m ms (awake_of h ms) rest n (subst (λ b. AsksRules h codes (if b then m ∷ awake_of h ms else awake_of h ms) n) z a)
    by (suc zero) e rest =
        let z = not_equal (mem_mark_of h m) 0 (λ q. absurd (omega (arith, e, q))) in
        let q = rest n (subst (λ b. AsksRules h codes (if b then m ∷ awake_of h ms else awake_of h ms) n) z a) in
        let l = q.1 in
        (length (rules_in h m) + q.0, omega (arith, l), asks_all (s.none m e) q.2)
    by (suc (suc mark)) e rest = let l = s.low m in absurd (omega (arith, l, e))

-- what is counted on a heap is counted of its solid
pub counts_are_alike : RulesAreAskedAlike → CountsAreAlike
counts_are_alike alike names table h S codes size o run from old new counts =
    let r = reading_by names table o.number in
    let c = counts (tree_over h o.inner) o.tree in
    let more = asks_sleepers h codes run.sleeps (asked from (tree_over h o.inner)) c.rules c.asks in
    let least = more.1 in
    let within = c.counts.within in
    record {
      rules = more.0;
      asks = subst (λ T. AsksRulesOf T (asked_paths from T) more.0) (sym o.is)
          (alike table run.plans codes (record { whole = run.whole; compiled = run.compiled }) h r o.inner (record { read = o.read; tree = o.tree; rules = o.rules }) from more.0 more.2);
      counts = record { rises = c.counts.rises; within = omega (arith, least, within) };
    }
