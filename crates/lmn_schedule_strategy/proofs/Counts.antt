-- How far attempts are counted while membranes are asked.
use Rattle.std.proofs.Common.{ℕ, zero, suc, ◌≡◌, ◌≤◌, ◌<◌, ◌+◌, ◌==◌, Bool, true, false, List, [], ◌∷◌, ◌++◌, length, inl, inr, refl, sym, ap, subst, ◌∙◌, arith}
use Rattle.std.specs.Prelude.{drop, if◌then◌else◌, take}
use Rattle.std.proofs.lemmas.List.{take-append-drop}
use Rattle.std.proofs.lemmas.Option.{slice_get_within}
use Rattle.lmn_base.specs.Lists.{In}
use Rattle.lmn_store_heap.specs.Heap.{Heap, mem_mark_of, rules_in}
use Rattle.lmn_store_heap.specs.Sound.{Forest, IsTree, flat}
use Rattle.lmn_store_heap.proofs.Common.{in_at}
use Rattle.lmn_instr_code.specs.declared.instr.Code.{Code}
use Rattle.lmn_schedule_strategy.specs.Counting.{AsksRules, CountsAsked, CountsUpTo, RisesWithin, asks_all, asks_none, asks_until, awake_of, rule_count}
use Rattle.lmn_schedule_strategy.specs.Choosing.{CodeSucceeds, NoneIn, asked}

-- a count that stands
pub counts_none : (a : ℕ) → CountsUpTo 0 a a
counts_none a = record { rises = omega arith; within = omega arith; some = λ l. absurd (omega (arith, l)) }

-- one attempt more
pub counts_more : (n a b c : ℕ) → CountsUpTo n a b → c ≡ b + 1 → CountsUpTo (n + 1) a c
counts_more n a b c r e = let l = r.rises in let w = r.within in record { rises = omega (arith, l, e); within = omega (arith, w, e); some = λ k. omega (arith, l, e) }

-- some attempts and then others
pub counts_both : (n k a b c : ℕ) → CountsUpTo n a b → CountsUpTo k b c → CountsUpTo (n + k) a c
counts_both n k a b c r s =
    let l = r.rises in let w = r.within in let m = s.rises in let v = s.within in
    record { rises = omega (arith, l, m); within = omega (arith, w, v); some = by n r.some }
  where
    by : (n : ℕ) → (0 < n → a < b) → 0 < n + k → a < c
    by zero first p = let q = s.some (omega (arith, p)) in let l = r.rises in omega (arith, q, l)
    by (suc n) first p = let q = first (omega arith) in let m = s.rises in omega (arith, q, m)

-- a count that stands within each bound
pub rises_none : (most a : ℕ) → RisesWithin most a a
rises_none most a = record { rises = omega arith; within = omega arith }

-- one rise and then another
pub rises_both : (n k a b c : ℕ) → RisesWithin n a b → RisesWithin k b c → RisesWithin (n + k) a c
rises_both n k a b c r s =
    let l = r.rises in let w = r.within in let m = s.rises in let v = s.within in
    record { rises = omega (arith, l, m); within = omega (arith, w, v) }

module _ (h : Heap) where
  -- the rules of two lists of membranes
  pub count_both : (xs ys : List ℕ) → rule_count h (xs ++ ys) ≡ rule_count h xs + rule_count h ys
  count_both [] ys = omega arith
  count_both (x ∷ xs) ys = let e = count_both xs ys in omega (arith, e)

  -- those of two lists are those of both
  pub awake_both : (xs ys : List ℕ) → awake_of h (xs ++ ys) ≡ awake_of h xs ++ awake_of h ys
  awake_both [] ys = refl
  awake_both (x ∷ xs) ys = by (mem_mark_of h x == 0) (awake_both xs ys)
    where
      by : (b : Bool) → awake_of h (xs ++ ys) ≡ awake_of h xs ++ awake_of h ys →
          (if b then x ∷ awake_of h (xs ++ ys) else awake_of h (xs ++ ys)) ≡ (if b then x ∷ awake_of h xs else awake_of h xs) ++ awake_of h ys
      by true e = ap (λ z. x ∷ z) e
      by false e = e

-- ---- the rules that are asked

module _ (h : Heap) (codes : List Code) where
  -- some rule of these membranes succeeds
  abbrev pub SomeIn : List ℕ → Type 0
  SomeIn ms = (m : ℕ) × (k : ℕ) × In m ms × In k (rules_in h m) × CodeSucceeds h codes m k

  -- where one succeeds no more membranes are asked than these
  pub asks_before : {ms : List ℕ} {n : ℕ} (ns : List ℕ) → AsksRules h codes ms n → SomeIn ms → AsksRules h codes (ms ++ ns) n
  asks_before ns asks_none some = absurd some.2
  asks_before ns (asks_all {m = m} {ms = ms} none rest) some = asks_all none (asks_before ns rest (elim some.2 [
    | inl e ↦ absurd (none some.1 (subst (λ z. In some.1 (rules_in h z)) (sym e) some.3) (subst (λ z. CodeSucceeds h codes z some.1) (sym e) some.4))
    | inr p ↦ (some.0, some.1, p, some.3, some.4)
  ]))
  asks_before ns (asks_until first) some = asks_until first

  -- where none succeeds the others are asked too
  pub asks_behind : {ms ns : List ℕ} {n k : ℕ} → NoneIn h codes ms → AsksRules h codes ms n → AsksRules h codes ns k → AsksRules h codes (ms ++ ns) (n + k)
  asks_behind {ns = ns} {k = k} none asks_none more = let e : k ≡ 0 + k = omega arith in subst (AsksRules h codes ns) e more
  asks_behind {ns = ns} {k = k} none (asks_all {m = m} {ms = ms} {n = n} here rest) more =
      let e : length (rules_in h m) + (n + k) ≡ (length (rules_in h m) + n) + k = omega arith in
      subst (AsksRules h codes (m ∷ (ms ++ ns))) e (asks_all here (asks_behind (λ y p. none y (inr p)) rest more))
  asks_behind none (asks_until {m = m} {place = place} {k = k} first) more = absurd (none m (inl refl) k (in_at (rules_in h m) place k first.stands) first.succeeds)

  -- no more are asked than there are
  asks_within : {ms : List ℕ} {n : ℕ} → AsksRules h codes ms n → n ≤ rule_count h ms
  asks_within asks_none = omega arith
  asks_within (asks_all none rest) = let l = asks_within rest in omega (arith, l)
  asks_within (asks_until {m = m} {place = place} {k = k} first) = let l = slice_get_within (rules_in h m) place k first.stands in omega (arith, l)

  -- and one at least where there is one
  asks_some : {ms : List ℕ} {n : ℕ} → AsksRules h codes ms n → 0 < rule_count h ms → 0 < n
  asks_some asks_none l = l
  asks_some (asks_all {m = m} {ms = ms} {n = n} none rest) l = by (length (rules_in h m)) (rule_count h ms) n (asks_some rest) l
    where
      by : (k c n : ℕ) → (0 < c → 0 < n) → 0 < k + c → 0 < k + n
      by zero c n more l = let q = more (omega (arith, l)) in omega (arith, q)
      by (suc k) c n more l = omega arith
  asks_some (asks_until first) l = omega arith

  -- So attempts are counted up to the rules of all membranes that are awake, and one at least where there is such a rule.
  pub counts_rules : (from a b : ℕ) → CountsAsked h codes from a b → (f : Forest) → IsTree h f → CountsUpTo (rule_count h (awake_of h (flat f))) a b
  counts_rules from a b counts f t =
      let c = counts f t in
      let up = c.counts in
      let less = asks_within c.asks in
      let within = up.within in
      let before = awake_of h (take from (flat f)) in
      let behind = awake_of h (drop from (flat f)) in
      let all : rule_count h (awake_of h (asked from f)) ≡ rule_count h behind + rule_count h before =
      ap (rule_count h) (awake_both h (drop from (flat f)) (take from (flat f))) ∙ count_both h behind before in
      let parts : rule_count h (awake_of h (flat f)) ≡ rule_count h before + rule_count h behind =
      ap (λ z. rule_count h (awake_of h z)) (sym (take-append-drop from (flat f))) ∙ ap (rule_count h) (awake_both h (take from (flat f)) (drop from (flat f))) ∙ count_both h before behind in
      record {
        rises = up.rises;
        within = omega (arith, all, parts, less, within);
        some = λ l. up.some (asks_some c.asks (omega (arith, l, all, parts)));
      }
