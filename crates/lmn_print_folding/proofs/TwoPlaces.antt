-- Each link stands at most twice among different atoms of a heap.
use Rattle.std.proofs.Common.{◌≡◌, ◌≢◌, ℕ, zero, suc, ◌+◌, ◌<◌, ◌≤◌, ◌⊎◌, List, [], ◌∷◌, Some, refl, sym, ◌∙◌, subst, inl, inr, arith}
use Rattle.lmn_congruence.specs.Links.{one_if_same, places}
use Rattle.lmn_congruence.proofs.Counts.{one_if_equal, none_if_apart}
use Rattle.lmn_store_heap.specs.Heap.{Heap, arity_of, link_of}
use Rattle.lmn_store_heap.specs.Lists.{Distinct}
use Rattle.lmn_store_heap.specs.Solid.{IsNaming, links_from}
use Rattle.lmn_store_heap.proofs.ListLemmas.{each_in}
use Rattle.lmn_base.proofs.Numbers.{same_or_not}
use Rattle.lmn_store_heap.proofs.Common.{same_port}
use Rattle.lmn_base.specs.Lists.{In}
use Rattle.std.specs.List.{AllByRecursion}

-- a port of the atom c from k on, or of an atom of the list
abbrev Among : ℕ → ℕ → List ℕ → ℕ → ℕ → Type 0
Among c k xs b j = ((b ≡ c) × (k ≤ j)) ⊎ In b xs

-- the port stands for the link x
record Stands (s : Heap) (name : ℕ → ℕ → ℕ) (x c k : ℕ) (xs : List ℕ) (b j : ℕ) : Type 0 where
  pub among : Among c k xs b j
  pub port : j < arity_of s b
  pub named : name b j ≡ x

-- the ports that stand for x: none, one, or two different ones
data Ports (s : Heap) (name : ℕ → ℕ → ℕ) (x c k : ℕ) (xs : List ℕ) : ℕ → Type 0 where
  none : Ports s name x c k xs 0
  one : (b j : ℕ) → Stands s name x c k xs b j → Ports s name x c k xs 1
  two : (b j d l : ℕ) → Stands s name x c k xs b j → Stands s name x c k xs d l → (b ≡ d → j ≡ l → ⊥) → Ports s name x c k xs 2

-- how often a link stands at the ports of these atoms
abbrev pub times : Heap → (ℕ → ℕ → ℕ) → ℕ → List ℕ → ℕ
times s name x [] = 0
times s name x (c ∷ xs) = places x (links_from name c 0 (arity_of s c)) + times s name x xs

module _ (s : Heap) (name : ℕ → ℕ → ℕ) (naming : IsNaming s name) (x : ℕ) where
  moved_one : (c k e i : ℕ) (xs ys : List ℕ) → ((b j : ℕ) → Among c k xs b j → Among e i ys b j) → (b j : ℕ) → Stands s name x c k xs b j → Stands s name x e i ys b j
  moved_one c k e i xs ys f b j h = record { among = f b j h.among; port = h.port; named = h.named }

  moved : (c k e i : ℕ) (xs ys : List ℕ) → ((b j : ℕ) → Among c k xs b j → Among e i ys b j) → (n : ℕ) → Ports s name x c k xs n → Ports s name x e i ys n
  moved c k e i xs ys f _ none = none
  moved c k e i xs ys f _ (one b j h) = one b j (moved_one c k e i xs ys f b j h)
  moved c k e i xs ys f _ (two b j d l h g u) = two b j d l (moved_one c k e i xs ys f b j h) (moved_one c k e i xs ys f d l g) u

  module _ (c k : ℕ) (xs : List ℕ) (apart : AllByRecursion (λ y. c ≢ y) xs) (port : k < arity_of s c) where
    wider : (b j : ℕ) → Among c (k + 1) xs b j → Among c k xs b j
    wider b j (inl h) = let l = h.1 in inl (h.0, omega (arith, l))
    wider b j (inr h) = inr h

    fresh : (b j : ℕ) → Among c (k + 1) xs b j → c ≡ b → k ≡ j → ⊥
    fresh b j (inl h) e f = let l = h.1 in absurd (omega (arith, l, f))
    fresh b j (inr h) e f = each_in (λ y. c ≢ y) xs b apart h e

    joined : name c k ≡ x → (b j : ℕ) → Stands s name x c (k + 1) xs b j → link_of s c k ≡ Some (b, j)
    joined e b j h = elim (naming.apart c k b j port h.port (e ∙ sym h.named)) [
      | inl p ↦ absurd (fresh b j h.among p.0 p.1)
      | inr l ↦ l
    ]

    here : name c k ≡ x → Stands s name x c k xs c k
    here e = record { among = inl (refl, omega arith); port = port; named = e }

    one_more : name c k ≡ x → (n : ℕ) → Ports s name x c (k + 1) xs n → Ports s name x c k xs (1 + n)
    one_more e _ none = one c k (here e)
    one_more e _ (one b j h) = two c k b j (here e) (moved_one c (k + 1) c k xs xs wider b j h) (fresh b j h.among)
    one_more e _ (two b j d l h g u) =
        let same = same_port (sym (joined e b j h) ∙ joined e d l g) in
        absurd (u same.0 same.1)

    next : (n : ℕ) → Ports s name x c (k + 1) xs n → Ports s name x c k xs (one_if_same x (name c k) + n)
    next n h = elim (same_or_not x (name c k)) [
      | inl e ↦ subst (Ports s name x c k xs) (let u = one_if_equal x (name c k) e in omega (arith, u)) (one_more (sym e) n h)
      | inr d ↦ subst (Ports s name x c k xs) (let u = none_if_apart x (name c k) d in omega (arith, u)) (moved c (k + 1) c k xs xs wider n h)
    ]

  from_port : (c : ℕ) (xs : List ℕ) → AllByRecursion (λ y. c ≢ y) xs → (k n m : ℕ) → k + n ≤ arity_of s c → Ports s name x c (k + n) xs m
      → Ports s name x c k xs (places x (links_from name c k n) + m)
  from_port c xs apart k zero m l h =
      let at : k + 0 ≡ k = omega arith in
      let count : m ≡ 0 + m = omega arith in
      subst (Ports s name x c k xs) count (subst (λ i. Ports s name x c i xs m) at h)
  from_port c xs apart k (suc n) m l h =
      let at : k + suc n ≡ (k + 1) + n = omega arith in
      let others = from_port c xs apart (k + 1) n m (omega (arith, l)) (subst (λ i. Ports s name x c i xs m) at h) in
      let count : one_if_same x (name c k) + (places x (links_from name c (k + 1) n) + m) ≡ (one_if_same x (name c k) + places x (links_from name c (k + 1) n)) + m = omega arith in
      subst (Ports s name x c k xs) count (next c k xs apart (omega (arith, l)) (places x (links_from name c (k + 1) n) + m) others)

  all_ports : (xs : List ℕ) → Distinct xs → (d : ℕ) → Ports s name x d (arity_of s d) xs (times s name x xs)
  all_ports [] distinct d = none
  all_ports (c ∷ xs) distinct d =
      let up : arity_of s c ≡ 0 + arity_of s c = omega arith in
      let start = subst (λ i. Ports s name x c i xs (times s name x xs)) up (all_ports xs distinct.1 c) in
      moved c 0 d (arity_of s d) xs (c ∷ xs) into _ (from_port c xs distinct.0 0 (arity_of s c) (times s name x xs) (omega arith) start)
    where
      into : (b j : ℕ) → Among c 0 xs b j → Among d (arity_of s d) (c ∷ xs) b j
      into b j (inl h) = inr (inl (sym h.0))
      into b j (inr h) = inr (inr h)

  few : (c k : ℕ) (xs : List ℕ) (n : ℕ) → Ports s name x c k xs n → n ≤ 2
  few c k xs _ none = omega arith
  few c k xs _ (one b j h) = omega arith
  few c k xs _ (two b j d l h g u) = omega arith

  pub at_most_twice : (xs : List ℕ) → Distinct xs → times s name x xs ≤ 2
  at_most_twice xs distinct = few 0 (arity_of s 0) xs (times s name x xs) (all_ports xs distinct 0)
