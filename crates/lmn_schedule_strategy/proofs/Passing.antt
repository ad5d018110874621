-- Membranes that are asked in vain, or sleep, one after the other.
use Rattle.std.proofs.Common.{ℕ, zero, suc, ◌≡◌, ◌<◌, ◌≤◌, ◌+◌, ◌-◌, Bool, true, false, List, [], ◌∷◌, ◌++◌, Some, inl, inr, refl, sym, ap, subst, ◌∙◌, arith}
use Rattle.std.specs.Prelude.{slice_get, take, drop}
use Rattle.std.proofs.Math.Seq.{take-add}
use Rattle.std.proofs.lemmas.List.{append_assoc, drop-drop, take-append-drop}
use Rattle.lmn_base.specs.Lists.{In}
use Rattle.lmn_base.proofs.Lists.{in_either}
use Rattle.lmn_store_trait.specs.Awake.{NoneAwake}
use Rattle.lmn_store_heap.specs.Heap.{Heap, mem_mark_of, rules_in}
use Rattle.lmn_store_heap.specs.Lists.{Distinct}
use Rattle.lmn_store_heap.proofs.ListLemmas.{in_left, in_right}
use Rattle.lmn_schedule_strategy.proofs.Numbers.{get_drop}
use Rattle.lmn_instr_code.specs.declared.instr.Code.{Code}
use Rattle.lmn_schedule_sleep.proofs.Marks.{read_alike, alike_back}
use Rattle.lmn_machine_commit.proofs.Rousing.{no_marks}
use Rattle.lmn_schedule_strategy.specs.Between.{between}
use Rattle.lmn_schedule_strategy.specs.Choosing.{IsFirstIn, IsFirstRule, Lulls, NoneIn, NoneOf}
use Rattle.lmn_schedule_strategy.specs.Counting.{CountsAmong, asks_none, awake_of}
use Rattle.lmn_schedule_strategy.specs.Quieting.{SleepsRightly}
use Rattle.lmn_schedule_strategy.proofs.Awake.{asleep_one, counts_next, counts_there, turned_apart}
use Rattle.lmn_schedule_strategy.proofs.Counts.{awake_both, counts_none}
use Rattle.lmn_schedule_strategy.proofs.Lulling.{first_rule_alike, lulls_alike, lulls_none, lulls_on, none_in_back, none_of_back}

-- ---- what stands from a number to another

-- up to one number and on to another
between_on : (xs : List ℕ) (i j n : ℕ) → i ≤ j → j ≤ n → between i n xs ≡ between i j xs ++ between j n xs
between_on xs i j n low high =
    let a : n - i ≡ (j - i) + (n - j) = omega (arith, low, high) in
    let b : j ≡ i + (j - i) = omega (arith, low) in
    ap (λ z. take z (drop i xs)) a ∙ take-add (j - i) (n - j) (drop i xs)
    ∙ ap (λ z. take (j - i) (drop i xs) ++ take (n - j) z) (drop-drop (j - i) i xs ∙ ap (λ z. drop z xs) (sym b))

-- none stands from a number to it
between_none : (xs : List ℕ) (i : ℕ) → between i i xs ≡ []
between_none xs i = ap (λ n. take n (drop i xs)) (let z : i - i ≡ 0 = omega arith in z)

-- one stands there alone
between_one : (xs : List ℕ) (n m : ℕ) → slice_get xs n ≡ Some m → between n (n + 1) xs ≡ m ∷ []
between_one xs n m e = ap (λ k. take k (drop n xs)) (let z : (n + 1) - n ≡ suc 0 = omega arith in z) ∙ by (drop n xs) (get_drop xs n 0 ∙ ap (slice_get xs) (let z : n + 0 ≡ n = omega arith in z) ∙ e)
  where
    by : (ys : List ℕ) → slice_get ys 0 ≡ Some m → take (suc 0) ys ≡ m ∷ []
    by [] e = absurd (cc)
    by (y ∷ ys) e = let s : y ≡ m = (cc) in ap (λ z. z ∷ []) s

-- what stands there has a number
pub has_place : (xs : List ℕ) (k x : ℕ) → In x (take k xs) → (i : ℕ) × (i < k) × (slice_get xs i ≡ Some x)
has_place [] zero x p = absurd p
has_place [] (suc k) x p = absurd p
has_place (y ∷ ys) zero x p = absurd p
has_place (y ∷ ys) (suc k) x (inl e) = (0, omega arith, ap (λ z. Some z) e)
has_place (y ∷ ys) (suc k) x (inr p) = let w = has_place ys k x p in (suc w.0, (let l = w.1 in omega (arith, l)), w.2)

-- what stands up to a number doesn't stand behind it
between_apart : (xs : List ℕ) (i j n : ℕ) → Distinct xs → i ≤ j → (x : ℕ) → In x (between i j xs) → In x (between j n xs) → ⊥
between_apart xs i j n d low x here there =
    let behind = subst (In x) (take-append-drop (n - j) (drop j xs)) (in_left x (take (n - j) (drop j xs)) (drop (n - j) (drop j xs)) there) in
    let e : i + (j - i) ≡ j = omega (arith, low) in
    turned_apart xs j x d behind (subst (In x) (sym (take-add i (j - i) xs) ∙ ap (λ k. take k xs) e) (in_right x (take i xs) (take (j - i) (drop i xs)) here))

-- ---- membranes that are passed

-- From h to k these membranes were asked in vain, where they were awake, and fell asleep, if they may. Attempts were counted.
pub record Passed (b : Bool) (h k : Heap) (codes : List Code) (xs : List ℕ) (old new : ℕ) : Type 0 where
  pub none : NoneIn h codes xs
  pub lulls : Lulls b h k xs
  pub counts : CountsAmong h codes (awake_of h xs) old new

module _ (b : Bool) (codes : List Code) where
  passed_none : (h : Heap) (a : ℕ) → Passed b h h codes [] a a
  passed_none h a = record { none = λ m i. absurd i; lulls = lulls_none b h; counts = record { rules = 0; asks = asks_none; counts = counts_none a } }

  -- some and then others
  passed_on : (h k l : Heap) (xs ys : List ℕ) (a c d : ℕ) → ((m : ℕ) → In m xs → In m ys → ⊥) → Passed b h k codes xs a c → Passed b k l codes ys c d → Passed b h l codes (xs ++ ys) a d
  passed_on h k l xs ys a c d differ one two =
      let same = read_alike h k (lulls_alike b h k xs one.lulls) in
      let behind = none_in_back h k codes same ys two.none in
      record {
        none = λ m i. elim (in_either m xs ys i) [ inl q ↦ one.none m q | inr q ↦ behind m q ];
        lulls = lulls_on b h k l xs ys one.lulls two.lulls;
        counts = counts_next b h k codes xs ys (xs ++ ys) a c d one.lulls refl differ one.none one.counts two.counts;
      }

  -- those that sleep
  asleep_all : (k : Heap) (zs : List ℕ) → ((x : ℕ) → In x zs → mem_mark_of k x ≡ 1) → awake_of k zs ≡ []
  asleep_all k [] asleep = refl
  asleep_all k (z ∷ zs) asleep = awake_both k (z ∷ []) zs ∙ ap (λ ws. ws ++ awake_of k zs) (asleep_one k z (asleep z (inl refl))) ∙ asleep_all k zs (λ x i. asleep x (inr i))

  sleep_on : (s : Bool) (k : Heap) (zs : List ℕ) → ((x : ℕ) → In x zs → mem_mark_of k x ≡ 1) → Lulls s k k zs
  sleep_on true k zs asleep = record { alike = no_marks k; asleep = asleep; others = λ m o. refl }
  sleep_on false k zs asleep = refl

  passed_asleep : (k : Heap) (zs : List ℕ) (c : ℕ) → SleepsRightly k codes → ((x : ℕ) → In x zs → mem_mark_of k x ≡ 1) → Passed b k k codes zs c c
  passed_asleep k zs c s asleep = record {
    none = λ m i. s.none m (asleep m i);
    lulls = sleep_on b k zs asleep;
    counts = subst (λ ms. CountsAmong k codes ms c c) (sym (asleep_all k zs asleep)) (record { rules = 0; asks = asks_none; counts = counts_none c });
  }

  -- Between two numbers of which no membrane is awake all sleep.
  all_asleep : (k : Heap) (xs : List ℕ) (at n : ℕ) → SleepsRightly k codes → NoneAwake k xs at n → (x : ℕ) → In x (between at n xs) → mem_mark_of k x ≡ 1
  all_asleep k xs at n s none x i =
      let w = has_place (drop at xs) (n - at) x i in
      let l = w.1 in
      let not = none (at + w.0) x (omega arith) (omega (arith, l)) (sym (get_drop xs at w.0) ∙ w.2) in
      by (mem_mark_of k x) (s.low x) not
    where
      by : (v : ℕ) → v ≤ 1 → (v ≡ 0 → ⊥) → v ≡ 1
      by zero low not = absurd (not refl)
      by (suc v) low not = omega (arith, low)

  module _ (h : Heap) (xs : List ℕ) (once : Distinct xs) (from : ℕ) where
    -- at first none is passed
    pub passed_first : (a : ℕ) → Passed b h h codes (between from from xs) a a
    passed_first a = subst (λ ys. Passed b h h codes ys a a) (sym (between_none xs from)) (passed_none h a)

    -- those that sleep are passed, up to the next that is awake or to all that are asked
    pub passed_sleepers : (k k' : Heap) (at n a c : ℕ) → from ≤ at → at ≤ n → k' ≡ k → SleepsRightly k codes → NoneAwake k xs at n →
        Passed b h k codes (between from at xs) a c → Passed b h k' codes (between from n xs) a c
    passed_sleepers k k' at n a c low high e s none p = subst (λ z. Passed b h z codes (between from n xs) a c) (sym e) (
        subst (λ ys. Passed b h k codes ys a c) (sym (between_on xs from at n low high))
        (passed_on h k k (between from at xs) (between at n xs) a c c (between_apart xs from at n once low) p
        (passed_asleep k (between at n xs) c s (all_asleep k xs at n s none))))

    -- one that is asked in vain is passed
    pub passed_vain : (k l : Heap) (n m a c d : ℕ) → from ≤ n → slice_get xs n ≡ Some m → Passed b h k codes (between from n xs) a c →
        NoneOf k codes m (rules_in k m) → Lulls b k l (m ∷ []) → CountsAmong k codes (awake_of k (m ∷ [])) c d → Passed b h l codes (between from (n + 1) xs) a d
    passed_vain k l n m a c d low is p none lulls counts =
        let one = between_one xs n m is in
        subst (λ ys. Passed b h l codes ys a d) (sym (between_on xs from n (n + 1) low (omega arith)))
        (passed_on h k l (between from n xs) (between n (n + 1) xs) a c d (between_apart xs from n (n + 1) once low) p
        (subst (λ ys. Passed b k l codes ys c d) (sym one)
        (record { none = λ x i. elim i [ inl e ↦ subst (λ z. NoneOf k codes z (rules_in k z)) e none | inr v ↦ absurd v ]; lulls = lulls; counts = counts })))

    -- the rest, where one of which a rule succeeds is met
    met : (n m until : ℕ) → from ≤ n → n < until → slice_get xs n ≡ Some m → between from until xs ≡ between from n xs ++ m ∷ between (n + 1) until xs
    met n m until low high is =
        between_on xs from n until low (omega (arith, high))
        ∙ ap (λ ys. between from n xs ++ ys) (between_on xs n (n + 1) until (omega arith) (omega (arith, high)) ∙ ap (λ ys. ys ++ between (n + 1) until xs) (between_one xs n m is))

    -- the first rule of the membrane is the first of those that are asked
    pub passed_found : (k l : Heap) (n m place j until a c : ℕ) → from ≤ n → n < until → slice_get xs n ≡ Some m → l ≡ k → Passed b h k codes (between from n xs) a c →
        IsFirstRule k codes m place j → (q : IsFirstIn h codes (between from until xs) m place j) × Lulls b h l q.earlier
    passed_found k l n m place j until a c low high is e p first =
        let same = read_alike h k (lulls_alike b h k (between from n xs) p.lulls) in (
          record {
            earlier = between from n xs;
            later = between (n + 1) until xs;
            order = met n m until low high is;
            none = p.none;
            rule = first_rule_alike k h codes (alike_back h k same) m place j (λ ns. none_of_back h k codes same m ns) first;
          },
          subst (λ z. Lulls b h z (between from n xs)) (sym e) p.lulls,
        )

    -- and attempts are counted up to it
    pub passed_counts : (k : Heap) (n m place j until a c d : ℕ) → from ≤ n → n < until → slice_get xs n ≡ Some m → SleepsRightly h codes → Passed b h k codes (between from n xs) a c →
        IsFirstRule k codes m place j → CountsAmong k codes (awake_of k (m ∷ [])) c d → CountsAmong h codes (awake_of h (between from until xs)) a d
    passed_counts k n m place j until a c d low high is s p first counts =
        let ys = between from n xs in
        let same = read_alike h k (lulls_alike b h k ys p.lulls) in
        counts_there h codes (ys ++ m ∷ []) (between (n + 1) until xs) (between from until xs) m place j a d s
        (first_rule_alike k h codes (alike_back h k same) m place j (λ ns. none_of_back h k codes same m ns) first)
        (in_right m ys (m ∷ []) (inl refl)) (met n m until low high is ∙ sym (append_assoc ys (m ∷ []) (between (n + 1) until xs)))
        (counts_next b h k codes ys (m ∷ []) (ys ++ m ∷ []) a c d p.lulls refl
        (λ x here last. between_apart xs from n (n + 1) once low x here (subst (In x) (sym (between_one xs n m is)) last)) p.none p.counts counts)
