-- Ports that are partners.
use Rattle.std.proofs.Common.{◌≡◌, ◌≢◌, ◌⊎◌, ℕ, zero, suc, ◌<◌, List, [], ◌∷◌, length, Option, Some, None, refl, sym, ap, subst, ◌∙◌, inl, inr}
use Rattle.std.proofs.lemmas.Bool.{cases_eq, eq-eqb}
use Rattle.std.proofs.lemmas.List.{get_or-set_same, get_or-set_other, length-set}
use Rattle.std.specs.Option.{option_map}
use Rattle.std.specs.Prelude.{slice_set, slice_index_or}
use Rattle.lmn_store_heap.specs.Heap.{Heap, HeapAtom, partners_of, link_of, arity_of, with_link, linked, cleared, joined}
use Rattle.lmn_store_heap.specs.Sound.{Paired}
use Rattle.lmn_base.proofs.Numbers.{not_equal as apart_test}

-- two ports with one partner are one port
pub unify_differ : (s : Heap) (a i b j c k d l : ℕ) → link_of s c k ≡ Some (a, i) → link_of s d l ≡ Some (b, j) → ◌≢◌ {A = ℕ × ℕ} (a, i) (b, j) → ◌≢◌ {A = ℕ × ℕ} (c, k) (d, l)
unify_differ s a i b j c k d l e f apart same =
    let g : link_of s c k ≡ link_of s d l = ap (λ (p : ℕ × ℕ). link_of s p.0 p.1) same in
    let h : ◌≡◌ {A = Option (ℕ × ℕ)} (Some (a, i)) (Some (b, j)) = sym e ∙ g ∙ f in
    apart (cc)

-- the partner of a port
abbrev pub lk : (ℕ → Option HeapAtom) → ℕ → ℕ → Option (ℕ × ℕ)
lk f c k = slice_index_or (partners_of (f c)) k None

-- the number of an atom's ports
abbrev pub ar : (ℕ → Option HeapAtom) → ℕ → ℕ
ar f c = length (partners_of (f c))

-- the same atom and the same index
abbrev pub SamePort : ℕ → ℕ → ℕ → ℕ → Type 0
SamePort c k a i = (c ≡ a) × (k ≡ i)

-- two ports are one or not
pub same_port : (c k a i : ℕ) → SamePort c k a i ⊎ (SamePort c k a i → ⊥)
same_port c k a i = elim (cases_eq c a) [
  | inl e ↦ elim (cases_eq k i) [ inl h ↦ inl (e, h) | inr d ↦ inr (λ p. d p.1) ]
  | inr d ↦ inr (λ p. d p.0)
]

links_map : (i : ℕ) (p : Option (ℕ × ℕ)) (o : Option HeapAtom) → partners_of (option_map (with_link i p) o) ≡ slice_set (partners_of o) i p
links_map i p None = refl
links_map i p (Some x) = refl

-- a port gets a partner: its atom
pub linked_at : (f : ℕ → Option HeapAtom) (a i : ℕ) (p : Option (ℕ × ℕ)) → partners_of (linked f a i p a) ≡ slice_set (partners_of (f a)) i p
linked_at f a i p = rw (eq-eqb a a refl) (links_map i p (f a))

-- the other atoms
pub linked_away : (f : ℕ → Option HeapAtom) (a i : ℕ) (p : Option (ℕ × ℕ)) (c : ℕ) → c ≢ a → linked f a i p c ≡ f c
linked_away f a i p c d = rw (apart_test c a d) refl

-- the port itself
pub linked_same : (f : ℕ → Option HeapAtom) (a i : ℕ) (p : Option (ℕ × ℕ)) → i < ar f a → lk (linked f a i p) a i ≡ p
linked_same f a i p h = ap (λ xs. slice_index_or xs i None) (linked_at f a i p) ∙ get_or-set_same (partners_of (f a)) i p None h

-- a cleared port has no partner, whether or not there is such a port
pub linked_none : (f : ℕ → Option HeapAtom) (a i : ℕ) → lk (linked f a i None) a i ≡ None
linked_none f a i = ap (λ xs. slice_index_or xs i None) (linked_at f a i None) ∙ by (partners_of (f a)) i
  where
    by : (xs : List (Option (ℕ × ℕ))) (i : ℕ) → slice_index_or (slice_set xs i None) i None ≡ None
    by [] i = refl
    by (x ∷ xs) zero = refl
    by (x ∷ xs) (suc i) = by xs i

-- the other ports
pub linked_other : (f : ℕ → Option HeapAtom) (a i : ℕ) (p : Option (ℕ × ℕ)) (c k : ℕ) → (SamePort c k a i → ⊥) → lk (linked f a i p) c k ≡ lk f c k
linked_other f a i p c k d =
    elim (cases_eq c a) [
      | inl e ↦ subst (λ z. lk (linked f a i p) z k ≡ lk f z k) (sym e)
          (ap (λ xs. slice_index_or xs k None) (linked_at f a i p) ∙ get_or-set_other (partners_of (f a)) i k p None (λ h. d (e, h)))
      | inr w ↦ ap (λ (o : Option HeapAtom). slice_index_or (partners_of o) k None) (linked_away f a i p c w)
    ]

-- no port comes or goes
pub linked_arity : (f : ℕ → Option HeapAtom) (a i : ℕ) (p : Option (ℕ × ℕ)) (c : ℕ) → ar (linked f a i p) c ≡ ar f c
linked_arity f a i p c =
    elim (cases_eq c a) [
      | inl e ↦ subst (λ z. ar (linked f a i p) z ≡ ar f z) (sym e) (ap (λ (xs : List (Option (ℕ × ℕ))). length xs) (linked_at f a i p) ∙ length-set (partners_of (f a)) i p)
      | inr w ↦ ap (λ (o : Option HeapAtom). length (partners_of o)) (linked_away f a i p c w)
    ]

-- an atom keeps its arity when a port loses its partner
pub cleared_arity : (f : ℕ → Option HeapAtom) (q : Option (ℕ × ℕ)) (c : ℕ) → ar (cleared f q) c ≡ ar f c
cleared_arity f None c = refl
cleared_arity f (Some q) c = linked_arity f q.0 q.1 None c

-- the port that loses its partner has none, the others keep theirs
pub cleared_at : (f : ℕ → Option HeapAtom) (q : Option (ℕ × ℕ)) (c k : ℕ) → ((q ≡ Some (c, k)) × (lk (cleared f q) c k ≡ None)) ⊎ ((q ≡ Some (c, k) → ⊥) × (lk (cleared f q) c k ≡ lk f c k))
cleared_at f None c k = inr (λ e. absurd (cc), refl)
cleared_at f (Some q) c k =
    elim (same_port c k q.0 q.1) [
      | inl e ↦ inl (λ i. Some (sym e.0 i, sym e.1 i), rw (e.0, e.1) (linked_none f q.0 q.1))
      | inr d ↦ inr (λ (h : ◌≡◌ {A = Option (ℕ × ℕ)} (Some q) (Some (c, k))). d (cc, cc), linked_other f q.0 q.1 None c k d)
    ]

-- what a port is joined to after a join: A, B, or what it had, or none
module _ (s : Heap) (a i b j : ℕ) (ra : i < arity_of s a) (rb : j < arity_of s b) (differ : SamePort a i b j → ⊥) where
  abbrev f2 : ℕ → Option HeapAtom
  f2 = cleared (cleared s.atoms (link_of s a i)) (link_of s b j)

  abbrev f3 : ℕ → Option HeapAtom
  f3 = linked f2 a i (Some (b, j))

  ar2 : (c : ℕ) → ar f2 c ≡ arity_of s c
  ar2 c = cleared_arity (cleared s.atoms (link_of s a i)) (link_of s b j) c ∙ cleared_arity s.atoms (link_of s a i) c

  ar3 : (c : ℕ) → ar f3 c ≡ arity_of s c
  ar3 c = linked_arity f2 a i (Some (b, j)) c ∙ ar2 c

  pub joined_arity : (c : ℕ) → arity_of (joined s a i b j) c ≡ arity_of s c
  joined_arity c = linked_arity f3 b j (Some (a, i)) c ∙ ar3 c

  pub joined_b : link_of (joined s a i b j) b j ≡ Some (a, i)
  joined_b = linked_same f3 b j (Some (a, i)) (rw (ar3 b) rb)

  pub joined_a : link_of (joined s a i b j) a i ≡ Some (b, j)
  joined_a = linked_other f3 b j (Some (a, i)) a i differ ∙ linked_same f2 a i (Some (b, j)) (rw (ar2 a) ra)

  -- another port keeps its partner, unless its partner was one of the two
  pub joined_other : (c k : ℕ) → (SamePort c k a i → ⊥) → (SamePort c k b j → ⊥)
      → (((link_of s a i ≡ Some (c, k)) ⊎ (link_of s b j ≡ Some (c, k))) × (link_of (joined s a i b j) c k ≡ None))
      ⊎ ((link_of s a i ≡ Some (c, k) → ⊥) × (link_of s b j ≡ Some (c, k) → ⊥) × (link_of (joined s a i b j) c k ≡ link_of s c k))
  joined_other c k na nb =
      let e : link_of (joined s a i b j) c k ≡ lk f2 c k = linked_other f3 b j (Some (a, i)) c k nb ∙ linked_other f2 a i (Some (b, j)) c k na in
      elim (cleared_at (cleared s.atoms (link_of s a i)) (link_of s b j) c k) [
        | inl w ↦ inl (inr w.0, e ∙ w.1)
        | inr w ↦ elim (cleared_at s.atoms (link_of s a i) c k) [
          | inl v ↦ inl (inl v.0, e ∙ w.1 ∙ v.1)
          | inr v ↦ inr (v.0, w.0, e ∙ w.1 ∙ v.1)
        ]
      ]

  module _ (sound : Paired s) where
    at_port : (c k d l : ℕ) → SamePort c k d l → link_of (joined s a i b j) c k ≡ link_of (joined s a i b j) d l
    at_port c k d l w = ap (λ (p : ℕ × ℕ). link_of (joined s a i b j) p.0 p.1) (λ t. (w.0 t, w.1 t))

    as_port : (c k d l : ℕ) → SamePort c k d l → ◌≡◌ {A = Option (ℕ × ℕ)} (Some (c, k)) (Some (d, l))
    as_port c k d l w = λ t. Some (w.0 t, w.1 t)

    of_port : (c k d l : ℕ) → ◌≡◌ {A = Option (ℕ × ℕ)} (Some (c, k)) (Some (d, l)) → SamePort c k d l
    of_port c k d l h = let g : ◌≡◌ {A = ℕ × ℕ} (c, k) (d, l) = (cc) in (ap (λ (p : ℕ × ℕ). p.0) g, ap (λ (p : ℕ × ℕ). p.1) g)

    no_port : (c k : ℕ) → ◌≡◌ {A = Option (ℕ × ℕ)} None (Some (c, k)) → ⊥
    no_port c k h = absurd (cc)

    joined_back : (c k d l : ℕ) → link_of (joined s a i b j) c k ≡ Some (d, l) → link_of (joined s a i b j) d l ≡ Some (c, k)
    joined_back c k d l e =
        elim (same_port c k b j) [
          | inl w ↦ (let h = of_port a i d l (sym joined_b ∙ sym (at_port c k b j w) ∙ e) in
              at_port d l a i (sym h.0, sym h.1) ∙ joined_a ∙ sym (as_port c k b j w))
          | inr nb ↦ elim (same_port c k a i) [
            | inl w ↦ (let h = of_port b j d l (sym joined_a ∙ sym (at_port c k a i w) ∙ e) in
                at_port d l b j (sym h.0, sym h.1) ∙ joined_b ∙ sym (as_port c k a i w))
            | inr na ↦ elim (joined_other c k na nb) [
              | inl w ↦ absurd (no_port d l (sym w.1 ∙ e))
              | inr w ↦ (let old : link_of s c k ≡ Some (d, l) = sym w.2 ∙ e in
                  let back : link_of s d l ≡ Some (c, k) = sound.back c k d l old in
                  let from_port : (x y : ℕ) → SamePort d l x y → link_of s x y ≡ Some (c, k) = λ x y v. sym (ap (λ (p : ℕ × ℕ). link_of s p.0 p.1) (λ t. (v.0 t, v.1 t))) ∙ back in
                  elim (joined_other d l (λ v. w.0 (from_port a i v)) (λ v. w.1 (from_port b j v))) [
                    | inl v ↦ absurd (elim v.0 [
                      | inl q ↦ na (of_port c k a i (sym back ∙ sound.back a i d l q))
                      | inr q ↦ nb (of_port c k b j (sym back ∙ sound.back b j d l q))
                    ])
                    | inr v ↦ v.2 ∙ back
                  ])
            ]
          ]
        ]

    joined_apart : (c k : ℕ) → link_of (joined s a i b j) c k ≡ Some (c, k) → ⊥
    joined_apart c k e =
        elim (same_port c k b j) [
          | inl w ↦ (let h = of_port a i c k (sym joined_b ∙ sym (at_port c k b j w) ∙ e) in differ (h.0 ∙ w.0, h.1 ∙ w.1))
          | inr nb ↦ elim (same_port c k a i) [
            | inl w ↦ (let h = of_port b j c k (sym joined_a ∙ sym (at_port c k a i w) ∙ e) in nb (sym h.0, sym h.1))
            | inr na ↦ elim (joined_other c k na nb) [ inl w ↦ no_port c k (sym w.1 ∙ e) | inr w ↦ sound.apart c k (sym w.2 ∙ e) ]
          ]
        ]

    pub joined_paired : Paired (joined s a i b j)
    joined_paired = record { back = joined_back; apart = joined_apart }
