-- The atoms of a part that lies in a list can be listed.
use Rattle.std.proofs.Common.{ℕ, zero, suc, ◌+◌, ◌<◌, ◌≤◌, ◌≡◌, ◌≢◌, ◌⊎◌, List, [], ◌∷◌, length, Option, Some, None, refl, sym, subst, ◌∙◌, inl, inr, arith}
use Rattle.std.proofs.lemmas.Bool.{cases_eq}
use Rattle.lmn_base.specs.Graphs.{Reached, at_root, across, Port}
use Rattle.lmn_store_heap.specs.Heap.{Heap, Distinct, arity_of, link_of}
use Rattle.lmn_store_heap.specs.Graphs.{atom_map}
use Rattle.lmn_store_heap.proofs.ListLemmas.{each_of}
use Rattle.lmn_store_heap.proofs.Pigeonholes.{has_all}
use Rattle.lmn_store_heap.proofs.Replacing.{port_within}
use Rattle.lmn_congruence_splice.proofs.Joining.{same_some}
use Rattle.lmn_ground.specs.Spread.{AreAtoms}
use Rattle.lmn_base.proofs.Common.{port_cases}
use Rattle.lmn_store_heap.proofs.Common.{decide_in}
use Rattle.lmn_base.specs.Lists.{In}

module _ (h : Heap) (root : Port) (all : List ℕ) (inside : (a : ℕ) → Reached (atom_map h) root a → In a all) where
  abbrev Part : ℕ → Type 0
  Part a = Reached (atom_map h) root a

  -- what a port leads to is in the list
  abbrev Done : List ℕ → ℕ → ℕ → Type 0
  Done xs x i = ◌≢◌ {A = Port} (x, i) root → (b j : ℕ) → link_of h x i ≡ Some (b, j) → In b xs

  -- an atom of the part that isn't in the list
  abbrev New : List ℕ → Type 0
  New xs = (b : ℕ) × Part b × (In b xs → ⊥)

  at_port : (xs : List ℕ) (x i : ℕ) → Part x → Done xs x i ⊎ New xs
  at_port xs x i p = elim (port_cases (x, i) root) [
    | inl e ↦ inl (λ d b j w. absurd (d e))
    | inr d ↦ by d (link_of h x i) refl
  ]
    where
      by : ◌≢◌ {A = Port} (x, i) root → (o : Option Port) → link_of h x i ≡ o → Done xs x i ⊎ New xs
      by d None e = inl (λ q b j w. absurd (let z : ◌≡◌ {A = Option Port} None (Some (b, j)) = sym e ∙ w in cc))
      by d (Some q) e = elim (decide_in q.0 xs) [
        | inl k ↦ inl (λ o b j w. subst (λ (z : Port). In z.0 xs) (same_some q (b, j) (sym e ∙ w)) k)
        | inr o ↦ inr (q.0, across {a = x} {i = i} {j = q.1} p d e, o)
      ]

  ports_done : (xs : List ℕ) (x : ℕ) → Part x → (n : ℕ) → ((i : ℕ) → i < n → Done xs x i) ⊎ New xs
  ports_done xs x p zero = inl (λ i l. absurd (off i l))
    where
      off : (i : ℕ) → i < 0 → ⊥
      off i l = omega arith
  ports_done xs x p (suc n) = elim (ports_done xs x p n) [
    | inl f ↦ elim (at_port xs x n p) [
      | inl g ↦ inl (λ i l. elim (cases_eq i n) [ inl e ↦ subst (Done xs x) (sym e) g | inr d ↦ f i (less i l d) ])
      | inr w ↦ inr w
    ]
    | inr w ↦ inr w
  ]
    where
      less : (i : ℕ) → i < suc n → i ≢ n → i < n
      less i l d = grind arith

  atoms_done : (xs ys : List ℕ) → ((y : ℕ) → In y ys → Part y) → ((y : ℕ) → In y ys → (i : ℕ) → Done xs y i) ⊎ New xs
  atoms_done xs [] p = inl (λ y i. absurd i)
  atoms_done xs (y ∷ ys) p = elim (ports_done xs y (p y (inl refl)) (arity_of h y)) [
    | inl f ↦ elim (atoms_done xs ys (λ z i. p z (inr i))) [
      | inl g ↦ inl (λ z k i. elim k [ inl e ↦ subst (λ u. Done xs u i) e (λ d b j w. f i (port_within h y i (b, j) w) d b j w) | inr t ↦ g z t i ])
      | inr w ↦ inr w
    ]
    | inr w ↦ inr w
  ]

  closed_all : (xs : List ℕ) → In root.0 xs → ((x : ℕ) → In x xs → (i : ℕ) → Done xs x i) → (a : ℕ) → Part a → In a xs
  closed_all xs r f a at_root = r
  closed_all xs r f a (across {a = b} {i = i} {j = j} p d e) = f b (closed_all xs r f b p) i d a j e

  grow : (k : ℕ) (xs : List ℕ) → Distinct xs → In root.0 xs → ((x : ℕ) → In x xs → Part x) → length all ≤ length xs + k → (ys : List ℕ) × AreAtoms h root ys
  grow zero xs d r p l = (xs, (d, λ a. (p a, λ q. has_all xs all d (λ b i. inside b (p b i)) (omega arith) a (inside a q))))
  grow (suc k) xs d r p l = elim (atoms_done xs xs p) [
    | inl f ↦ (xs, (d, λ a. (p a, closed_all xs r f a)))
    | inr w ↦ grow k (w.0 ∷ xs) (each_of _ xs (λ a i e. w.2 (subst (λ z. In z xs) (sym e) i)), d) (inr r) (λ x i. elim i [ inl e ↦ subst Part e w.1 | inr j ↦ p x j ]) (omega arith)
  ]

  -- The atoms of the part, each once.
  pub part_listed : (ys : List ℕ) × AreAtoms h root ys
  part_listed = grow (length all) (root.0 ∷ []) (tt, tt) (inl refl) (λ x i. elim i [ inl e ↦ subst Part e at_root | inr j ↦ absurd j ]) (omega arith)
