-- The order in which membranes are asked, and what is found first in it.
use Rattle.std.proofs.Common.{ℕ, zero, suc, ◌≡◌, ◌+◌, ◌<◌, ◌≤◌, inl, inr, List, [], ◌∷◌, ◌++◌, length, take, drop, Some, refl, sym, ap, subst, ◌∙◌, arith}
use Rattle.std.specs.Prelude.{slice_get}
use Rattle.std.specs.List.{range_with_len}
use Rattle.std.proofs.lemmas.Bool.{cases_lt}
use Rattle.std.proofs.lemmas.List.FromFn.{length-range_with_len}
use Rattle.std.proofs.lemmas.Option.{same_Some}
use Rattle.lmn_base.specs.Lists.{In}
use Rattle.lmn_base.specs.declared.rule.RuleTree.{RuleTree}
use Rattle.lmn_guards.specs.declared.plan.GuardPlan.{GuardPlan}
use Rattle.lmn_store_heap.specs.Heap.{Heap, rules_in}
use Rattle.lmn_solid_next.specs.Choosing.{NoneOf}
use Rattle.lmn_receipt_search.specs.Turns.{AskedAt, NoneBefore}
use Rattle.lmn_base.proofs.Numbers.{split_at}
use Rattle.lmn_schedule_strategy.proofs.Passing.{has_place}

-- ---- a list that is turned

get_front : (xs ys : List ℕ) (i : ℕ) → i < length xs → slice_get (xs ++ ys) i ≡ slice_get xs i
get_front [] ys i l = absurd (omega (arith, l))
get_front (x ∷ xs) ys zero l = refl
get_front (x ∷ xs) ys (suc i) l = get_front xs ys i (omega (arith, l))

get_past : (xs ys : List ℕ) (i j : ℕ) → i ≡ length xs + j → slice_get (xs ++ ys) i ≡ slice_get ys j
get_past [] ys i j e = let s : i ≡ j = omega (arith, e) in ap (slice_get ys) s
get_past (x ∷ xs) ys zero j e = absurd (omega (arith, e))
get_past (x ∷ xs) ys (suc i) j e = get_past xs ys i j (omega (arith, e))

get_dropped : (xs ys : List ℕ) (from i k : ℕ) → k ≡ from + i → k < length xs → slice_get (drop from xs ++ ys) i ≡ slice_get xs k
get_dropped [] ys from i k e l = absurd (omega (arith, l))
get_dropped (x ∷ xs) ys zero i k e l = let s : i ≡ k = omega (arith, e) in get_front (x ∷ xs) ys i (omega (arith, e, l)) ∙ ap (slice_get (x ∷ xs)) s
get_dropped (x ∷ xs) ys (suc from) i zero e l = absurd (omega (arith, e))
get_dropped (x ∷ xs) ys (suc from) i (suc k) e l = get_dropped xs ys from i k (omega (arith, e)) (omega (arith, l))

get_wrapped : (xs ys : List ℕ) (from i j : ℕ) → from ≤ length xs → from + i ≡ length xs + j → slice_get (drop from xs ++ ys) i ≡ slice_get ys j
get_wrapped [] ys zero i j l e = let s : i ≡ j = omega (arith, e) in ap (slice_get ys) s
get_wrapped [] ys (suc from) i j l e = absurd (omega (arith, l))
get_wrapped (x ∷ xs) ys zero i j l e = get_past (x ∷ xs) ys i j (omega (arith, e))
get_wrapped (x ∷ xs) ys (suc from) i j l e = get_wrapped xs ys from i j (omega (arith, l)) (omega (arith, e))

get_taken : (xs : List ℕ) (n j : ℕ) → j < n → slice_get (take n xs) j ≡ slice_get xs j
get_taken xs zero j l = absurd (omega (arith, l))
get_taken [] (suc n) j l = refl
get_taken (x ∷ xs) (suc n) zero l = refl
get_taken (x ∷ xs) (suc n) (suc j) l = get_taken xs n j (omega (arith, l))

pub get_range : (s n k : ℕ) → k < n → slice_get (range_with_len s n) k ≡ Some (s + k)
get_range s zero k l = absurd (omega (arith, l))
get_range s (suc n) zero l = let e : s ≡ s + 0 = omega arith in ap (λ z. Some z) e
get_range s (suc n) (suc k) l = let e : s + 1 + k ≡ s + suc k = omega arith in get_range (s + 1) n k (omega (arith, l)) ∙ ap (λ z. Some z) e

-- where a list is cut at an element
cut : (xs : List ℕ) (n y : ℕ) → slice_get xs n ≡ Some y → (later : List ℕ) × (xs ≡ take n xs ++ y ∷ later)
cut [] n y e = absurd (cc)
cut (x ∷ xs) zero y e = (xs, ap (λ z. z ∷ xs) (same_Some x y e))
cut (x ∷ xs) (suc n) y e = let u = cut xs n y e in (u.0, ap (λ zs. x ∷ zs) u.1)

-- ---- membranes at turns

-- the membranes with the numbers below a count, as they are asked
abbrev pub turned : (from count : ℕ) → List ℕ
turned from count = drop from (range_with_len 0 count) ++ take from (range_with_len 0 count)

pub turned_at : (from count i m : ℕ) → from < count → i < count → AskedAt from count i m → slice_get (turned from count) i ≡ Some m
turned_at from count i m f l (b, inl e) =
    let R = range_with_len 0 count in
    let many = length-range_with_len 0 count in
    let z : 0 + m ≡ m = omega arith in
    get_dropped R (take from R) from i m (sym e) (omega (arith, b, many)) ∙ get_range 0 count m b ∙ ap (λ z. Some z) z
turned_at from count i m f l (b, inr e) =
    let R = range_with_len 0 count in
    let many = length-range_with_len 0 count in
    let z : 0 + m ≡ m = omega arith in
    get_wrapped R (take from R) from i m (omega (arith, f, many)) (omega (arith, e, many)) ∙ get_taken R from m (omega (arith, e, l)) ∙ get_range 0 count m b ∙ ap (λ z. Some z) z

-- at each turn a membrane is asked
at_turn : (from count i : ℕ) → from < count → i < count → (m : ℕ) × AskedAt from count i m
at_turn from count i f l = elim (cases_lt (from + i) count) [
  | inl b ↦ (from + i, (b, inl refl))
  | inr b ↦ (let u = split_at count (from + i) b in let e = u.1 in (u.0, (omega (arith, f, l, e), inr (omega (arith, e)))))
]

-- and only one
pub asked_back : (from count i m : ℕ) → from < count → i < count → slice_get (turned from count) i ≡ Some m → AskedAt from count i m
asked_back from count i m f l e =
    let u = at_turn from count i f l in
    subst (AskedAt from count i) (same_Some u.0 m (sym (turned_at from count i u.0 f l u.1) ∙ e)) u.1

-- each membrane has a turn
pub turn_of : (from count m : ℕ) → from < count → m < count → (i : ℕ) × (i < count) × AskedAt from count i m
turn_of from count m f l = elim (cases_lt m from) [
  | inr b ↦ (let u = split_at from m b in let e = u.1 in (u.0, omega (arith, l, e), (l, inl (omega (arith, e)))))
  | inl b ↦ (let u = split_at from (m + count) (omega (arith, f)) in let e = u.1 in (u.0, omega (arith, b, e), (l, inr (omega (arith, e)))))
]

-- Where membranes are asked from a later number, which is reached, those of earlier turns were of earlier turns before.
pub record Reached (from count turn m k : ℕ) : Type 0 where
  pub turn_there : ℕ
  pub later : List ℕ
  pub order : turned k count ≡ take turn_there (turned k count) ++ m ∷ later
  pub earlier : (x : ℕ) → In x (take turn_there (turned k count)) → (i : ℕ) × (i < turn) × AskedAt from count i x

pub reached : (from count turn m k : ℕ) → from < count → turn < count → AskedAt from count turn m → from ≤ k → k < count → k ≤ from + turn → Reached from count turn m k
reached from count turn m k f l a low high within =
    let t = split_at k (from + turn) within in
    let e = t.1 in
    let here : AskedAt k count t.0 m = (a.0, elim a.1 [ inl s ↦ inl (omega (arith, s, e)) | inr s ↦ inr (omega (arith, s, e)) ]) in
    let below : t.0 < count = omega (arith, e, l, low) in
    let c = cut (turned k count) t.0 m (turned_at k count t.0 m high below here) in
    record {
      turn_there = t.0;
      later = c.0;
      order = c.1;
      earlier = λ x p.
          let j = has_place (turned k count) t.0 x p in
          let jl = j.1 in
          let b = asked_back k count j.0 x high (omega (arith, jl, below)) j.2 in
          let i = split_at from (k + j.0) (omega (arith, low)) in
          let ie = i.1 in
          (i.0, omega (arith, ie, jl, e), (b.0, elim b.1 [ inl s ↦ inl (omega (arith, s, ie)) | inr s ↦ inr (omega (arith, s, ie)) ]));
    }

-- one membrane is asked at a turn
pub one_at_turn : (from count t m x : ℕ) → AskedAt from count t m → AskedAt from count t x → m ≡ x
one_at_turn from count t m x (b, inl e) (c, inl d) = omega (arith, e, d)
one_at_turn from count t m x (b, inl e) (c, inr d) = absurd (omega (arith, b, e, d))
one_at_turn from count t m x (b, inr e) (c, inl d) = absurd (omega (arith, c, e, d))
one_at_turn from count t m x (b, inr e) (c, inr d) = omega (arith, e, d)

-- where nothing embeds in the membranes of earlier turns, and not in that of this one
pub before_more : (table : List RuleTree) (plans : List GuardPlan) (h : Heap) (from count turn m : ℕ) → AskedAt from count turn m →
    NoneBefore table plans h from count turn → NoneOf table plans h m (rules_in h m) → NoneBefore table plans h from count (turn + 1)
before_more table plans h from count turn m a none here i x l b = elim (cases_lt i turn) [
  | inl below ↦ none i x below b
  | inr past ↦ (let s : i ≡ turn = omega (arith, l, past) in
      subst (λ z. NoneOf table plans h z (rules_in h z)) (one_at_turn from count turn m x a (subst (λ z. AskedAt from count z x) s b)) here)
]

-- where nothing embeds in the membranes of turns that are all
pub all_before : (table : List RuleTree) (plans : List GuardPlan) (h : Heap) (from count turn : ℕ) → count ≤ turn → NoneBefore table plans h from count turn → NoneBefore table plans h from count count
all_before table plans h from count turn past none i x l a = none i x (omega (arith, l, past)) a
