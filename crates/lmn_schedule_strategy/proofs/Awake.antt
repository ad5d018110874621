-- How far attempts are counted while the membranes that are awake are asked.
use Rattle.std.proofs.Common.{ℕ, zero, suc, ◌≡◌, ◌+◌, ◌==◌, Bool, true, false, List, [], ◌∷◌, ◌++◌, length, inl, inr, refl, sym, ap, subst, ◌∙◌, arith}
use Rattle.std.specs.Prelude.{if◌then◌else◌, take, drop}
use Rattle.std.proofs.lemmas.Bool.{eq-eqb}
use Rattle.std.proofs.lemmas.List.{take-append-drop}
use Rattle.lmn_base.specs.Lists.{In}
use Rattle.lmn_base.proofs.Numbers.{not_equal}
use Rattle.lmn_store_heap.specs.Heap.{Heap, mem_mark_of, rules_in}
use Rattle.lmn_store_heap.specs.Lists.{Distinct}
use Rattle.lmn_store_heap.proofs.Common.{in_at}
use Rattle.lmn_store_heap.proofs.ListLemmas.{apart}
use Rattle.lmn_store_heap.proofs.Trees.{in_here}
use Rattle.lmn_instr_code.specs.declared.instr.Code.{Code}
use Rattle.lmn_schedule_sleep.proofs.Marks.{ReadAlike, read_alike, alike_back}
use Rattle.lmn_schedule_strategy.specs.Choosing.{IsFirstIn, IsFirstRule, Lulls, NoneIn, NoneOf}
use Rattle.lmn_schedule_strategy.specs.Counting.{AsksRules, CountsAmong, CountsUpTo, asks_all, asks_none, asks_until, awake_of}
use Rattle.lmn_schedule_strategy.specs.Quieting.{SleepsRightly}
use Rattle.lmn_schedule_strategy.proofs.Counts.{asks_before, asks_behind, awake_both, counts_both}
use Rattle.lmn_schedule_strategy.proofs.Lulling.{first_rule_alike, lulls_alike, none_here_back, none_of_back}

-- ---- those that are awake

module _ (h : Heap) where
  -- those that are awake are of the list,
  awake_in : (ms : List ℕ) (m : ℕ) → In m (awake_of h ms) → In m ms
  awake_in [] m i = i
  awake_in (x ∷ ms) m i = by (mem_mark_of h x == 0) (awake_in ms m) i
    where
      by : (b : Bool) → (In m (awake_of h ms) → In m ms) → In m (if b then x ∷ awake_of h ms else awake_of h ms) → In m (x ∷ ms)
      by true rest (inl e) = inl e
      by true rest (inr j) = inr (rest j)
      by false rest j = inr (rest j)

  -- and those of it that are awake are there
  in_awake : (ms : List ℕ) (m : ℕ) → mem_mark_of h m ≡ 0 → In m ms → In m (awake_of h ms)
  in_awake [] m e i = i
  in_awake (x ∷ ms) m e (inl s) =
      let z : (mem_mark_of h x == 0) ≡ true = eq-eqb (mem_mark_of h x) 0 (ap (mem_mark_of h) s ∙ e) in
      rw z (inl s)
  in_awake (x ∷ ms) m e (inr i) = by (mem_mark_of h x == 0) (in_awake ms m e i)
    where
      by : (b : Bool) → In m (awake_of h ms) → In m (if b then x ∷ awake_of h ms else awake_of h ms)
      by true j = inr j
      by false j = j

  -- one that is awake
  pub awake_one : (m : ℕ) → mem_mark_of h m ≡ 0 → awake_of h (m ∷ []) ≡ m ∷ []
  awake_one m e = let z : (mem_mark_of h m == 0) ≡ true = eq-eqb (mem_mark_of h m) 0 e in rw z refl

  -- and one that isn't
  pub asleep_one : (m : ℕ) → mem_mark_of h m ≡ 1 → awake_of h (m ∷ []) ≡ []
  asleep_one m e =
      let d : mem_mark_of h m ≡ 0 → ⊥ = (λ q. absurd (omega (arith, e, q))) in
      let z : (mem_mark_of h m == 0) ≡ false = not_equal (mem_mark_of h m) 0 d in
      rw z refl

  -- where none of some succeeds none of those that are awake does
  none_awake : (codes : List Code) (ms : List ℕ) → NoneIn h codes ms → NoneIn h codes (awake_of h ms)
  none_awake codes ms none m i = none m (awake_in ms m i)

-- what fell asleep changed no mark of others
mark_stays : (b : Bool) (h k : Heap) (xs : List ℕ) → Lulls b h k xs → (m : ℕ) → (In m xs → ⊥) → mem_mark_of k m ≡ mem_mark_of h m
mark_stays true h k xs w m o = w.others m o
mark_stays false h k xs w m o = ap (λ z. mem_mark_of z m) w

-- so those of others that are awake are the same
awake_still : (b : Bool) (h k : Heap) (xs ys : List ℕ) → Lulls b h k xs → ((m : ℕ) → In m xs → In m ys → ⊥) → awake_of k ys ≡ awake_of h ys
awake_still b h k xs [] w apart = refl
awake_still b h k xs (y ∷ ys) w apart =
    let rest = awake_still b h k xs ys w (λ m i j. apart m i (inr j)) in
    let mark = mark_stays b h k xs w y (λ i. apart y i (inl refl)) in
    ap (λ z. if z == 0 then y ∷ awake_of k ys else awake_of k ys) mark ∙ ap (λ z. if mem_mark_of h y == 0 then y ∷ z else z) rest

-- one of which a rule succeeds is awake
succeeds_awake : (h : Heap) (codes : List Code) (m place n : ℕ) → SleepsRightly h codes → IsFirstRule h codes m place n → mem_mark_of h m ≡ 0
succeeds_awake h codes m place n s f = by (mem_mark_of h m) refl
  where
    by : (v : ℕ) → mem_mark_of h m ≡ v → mem_mark_of h m ≡ 0
    by zero e = e
    by (suc zero) e = absurd (s.none m e n (in_at (rules_in h m) place n f.stands) f.succeeds)
    by (suc (suc v)) e = let l = s.low m in absurd (omega (arith, l, e))

-- ---- what is asked

-- rules are asked alike in heaps that are read alike
asks_alike : (h k : Heap) (codes : List Code) → ReadAlike h k → (ms : List ℕ) (n : ℕ) → AsksRules k codes ms n → AsksRules h codes ms n
asks_alike h k codes same ms n asks_none = asks_none
asks_alike h k codes same ms n (asks_all {m = m} {ms = rest} {n = j} none more) =
    subst (λ xs. AsksRules h codes (m ∷ rest) (length xs + j)) (sym (same.rules m)) (asks_all (none_here_back h k codes same m none) (asks_alike h k codes same rest j more))
asks_alike h k codes same ms n (asks_until {m = m} {ms = rest} {place = place} {k = i} first) =
    asks_until (first_rule_alike k h codes (alike_back h k same) m place i (λ ns. none_of_back h k codes same m ns) first)

-- one is asked in vain
pub counts_in_vain : (h : Heap) (codes : List Code) (m a b : ℕ) → mem_mark_of h m ≡ 0 → NoneOf h codes m (rules_in h m) → CountsUpTo (length (rules_in h m)) a b → CountsAmong h codes (awake_of h (m ∷ [])) a b
counts_in_vain h codes m a b e none c =
    let n : length (rules_in h m) ≡ length (rules_in h m) + 0 = omega arith in
    subst (λ ms. CountsAmong h codes ms a b) (sym (awake_one h m e)) (record { rules = length (rules_in h m) + 0; asks = asks_all none asks_none; counts = subst (λ z. CountsUpTo z a b) n c })

-- one is asked of which a rule succeeds
pub counts_one : (h : Heap) (codes : List Code) (m place n a b : ℕ) → mem_mark_of h m ≡ 0 → IsFirstRule h codes m place n → CountsUpTo (place + 1) a b → CountsAmong h codes (awake_of h (m ∷ [])) a b
counts_one h codes m place n a b e first c = subst (λ ms. CountsAmong h codes ms a b) (sym (awake_one h m e)) (record { rules = place + 1; asks = asks_until first; counts = c })

-- Some are asked in vain, which fall asleep if they may, and then others.
pub counts_next : (s : Bool) (h k : Heap) (codes : List Code) (xs ys zs : List ℕ) (a b d : ℕ) → Lulls s h k xs → zs ≡ xs ++ ys → ((m : ℕ) → In m xs → In m ys → ⊥) → NoneIn h codes xs →
    CountsAmong h codes (awake_of h xs) a b → CountsAmong k codes (awake_of k ys) b d → CountsAmong h codes (awake_of h zs) a d
counts_next s h k codes xs ys zs a b d w e others none one two =
    let same = read_alike h k (lulls_alike s h k xs w) in
    let still = awake_still s h k xs ys w others in
    let behind = subst (λ ms. AsksRules h codes ms two.rules) still (asks_alike h k codes same (awake_of k ys) two.rules two.asks) in
    subst (λ ms. CountsAmong h codes ms a d) (sym (ap (awake_of h) e ∙ awake_both h xs ys))
    (record {
      rules = one.rules + two.rules;
      asks = asks_behind h codes (none_awake h codes xs none) one.asks behind;
      counts = counts_both one.rules two.rules a b d one.counts two.counts;
    })

-- one of some membranes is chosen, before others
pub counts_there : (h : Heap) (codes : List Code) (ms ns zs : List ℕ) (m place n a b : ℕ) → SleepsRightly h codes → IsFirstRule h codes m place n → In m ms → zs ≡ ms ++ ns →
    CountsAmong h codes (awake_of h ms) a b → CountsAmong h codes (awake_of h zs) a b
counts_there h codes ms ns zs m place n a b s first i e c =
    let awake = succeeds_awake h codes m place n s first in
    subst (λ xs. CountsAmong h codes xs a b) (sym (ap (awake_of h) e ∙ awake_both h ms ns))
    (record {
      rules = c.rules;
      asks = asks_before h codes (awake_of h ns) c.asks (m, n, in_awake h ms m awake i, in_at (rules_in h m) place n first.stands, first.succeeds);
      counts = c.counts;
    })

-- the membrane that is chosen is one of those that were asked
pub first_there : (h : Heap) (codes : List Code) (xs ys : List ℕ) (m place n : ℕ) → IsFirstIn h codes xs m place n → xs ≡ ys → In m ys
first_there h codes xs ys m place n f e = subst (In m) (sym f.order ∙ e) (in_here m f.earlier f.later)

-- of a list without repeats nothing behind a number is before it
pub turned_apart : (xs : List ℕ) (i m : ℕ) → Distinct xs → In m (drop i xs) → In m (take i xs) → ⊥
turned_apart xs i m d a b = apart (take i xs) (drop i xs) m m (subst Distinct (sym (take-append-drop i xs)) d) b a refl
