-- Laws of walks: what is found is all that is reached, each atom once, in one order.
use Rattle.std.proofs.Common.{◌≡◌, ◌⊎◌, ℕ, zero, suc, ◌+◌, ◌<◌, ◌≤◌, List, [], ◌∷◌, ◌++◌, length, Option, Some, refl, sym, ap, subst, ◌∙◌, inl, inr, arith, length-append, map}
use Rattle.std.proofs.lemmas.Bool.{cases_eq}
use Rattle.lmn_store_heap.specs.Heap.{Distinct}
use Rattle.lmn_store_heap.proofs.ListLemmas.{in_left, in_right}
use Rattle.lmn_store_heap.proofs.Listing.{distinct_snoc}
use Rattle.lmn_ground_parts.specs.Walks.{HasPort, port_range, Walk, ends, passes, finds}
use Rattle.lmn_store_heap.specs.Solid.{links_from}
use Rattle.lmn_base.specs.Lists.{In}
use Rattle.lmn_base.proofs.Lists.{in_snoc}

-- a port of the first list is one of both joined
pub holds_left : (p : ℕ × ℕ) (ps qs : List (ℕ × ℕ)) → HasPort p ps → HasPort p (ps ++ qs)
holds_left p [] qs h = absurd h
holds_left p (r ∷ ps) qs (inl e) = inl e
holds_left p (r ∷ ps) qs (inr h) = inr (holds_left p ps qs h)

-- and so is a port of the second
pub holds_right : (p : ℕ × ℕ) (ps qs : List (ℕ × ℕ)) → HasPort p qs → HasPort p (ps ++ qs)
holds_right p [] qs h = h
holds_right p (r ∷ ps) qs h = inr (holds_right p ps qs h)

-- a range of ports has each port of its atom between its ends
pub holds_port : (a i n k : ℕ) → i ≤ k → k < i + n → HasPort (a, k) (port_range a i n)
holds_port a i zero k low high = absurd (omega arith)
holds_port a i (suc n) k low high = elim (cases_eq i k) [
  | inl e ↦ inl (ap (λ (x : ℕ). let p : ℕ × ℕ = (a, x) in p) e)
  | inr d ↦ inr (holds_port a (i + 1) n k (omega arith) (omega arith))
]

-- the number of the link at a port
abbrev pub by_port : (ℕ → ℕ → ℕ) → ℕ × ℕ → ℕ
by_port name p = name p.0 p.1

-- the names of a range of ports, one by one
pub ports_named : (name : ℕ → ℕ → ℕ) (a i n : ℕ) → map (by_port name) (port_range a i n) ≡ links_from name a i n
ports_named name a i zero = refl
ports_named name a i (suc n) = ap (λ ys. name a i ∷ ys) (ports_named name a (i + 1) n)

-- a number that is added behind stands in the list
pub in_last : (a : ℕ) (xs : List ℕ) → In a (xs ++ a ∷ [])
in_last a xs = in_right a xs (a ∷ []) (inl refl)

module _ (arity : ℕ → ℕ) (to : ℕ × ℕ → Option ℕ) where
  -- one walk
  pub determined : {seen all all' : List ℕ} {ps : List (ℕ × ℕ)} → Walk arity to seen ps all → Walk arity to seen ps all' → all ≡ all'
  determined ends ends = refl
  determined (passes h w) (passes h' w') = determined w w'
  determined (passes h w) (finds e n w') = absurd (n (h _ e))
  determined (finds e n w) (passes h w') = absurd (n (h _ e))
  determined {all' = all'} (finds {seen = seen} {ps = ps} {b = b} e n w) (finds {b = c} f m w') =
      let g : ◌≡◌ {A = Option ℕ} (Some c) (Some b) = sym f ∙ e in
      let s : c ≡ b = (cc) in
      determined w (subst (λ (x : ℕ). Walk arity to (seen ++ x ∷ []) (port_range x 0 (arity x) ++ ps) all') s w')

  -- what was seen is kept
  pub kept_seen : {seen all : List ℕ} {ps : List (ℕ × ℕ)} → Walk arity to seen ps all → (a : ℕ) → In a seen → In a all
  kept_seen ends a i = i
  kept_seen (passes h w) a i = kept_seen w a i
  kept_seen (finds e n w) a i = kept_seen w a (in_left a _ _ i)

  pub longer : {seen all : List ℕ} {ps : List (ℕ × ℕ)} → Walk arity to seen ps all → length seen ≤ length all
  longer ends = omega arith
  longer (passes h w) = longer w
  longer (finds {seen = seen} {b = b} e n w) = let h = longer w in omega (arith, length-append seen (b ∷ []), h)

  -- each atom once
  pub once : {seen all : List ℕ} {ps : List (ℕ × ℕ)} → Walk arity to seen ps all → Distinct seen → Distinct all
  once ends d = d
  once (passes h w) d = once w d
  once (finds e n w) d = once w (distinct_snoc _ _ d n)

  -- only what is reached
  pub only : (R : ℕ → Type 0) → ((a i b : ℕ) → R a → to (a, i) ≡ Some b → R b)
      → {seen all : List ℕ} {ps : List (ℕ × ℕ)} → Walk arity to seen ps all
      → ((a : ℕ) → In a seen → R a) → ((p : ℕ × ℕ) → HasPort p ps → R p.0) → (a : ℕ) → In a all → R a
  only R step ends s r a i = s a i
  only R step (passes h w) s r a i = only R step w s (λ p k. r p (inr k)) a i
  only R step (finds {seen = seen} {ps = ps} {p = p} {b = b} e n w) s r a i =
      let at : R b = step p.0 p.1 b (r p (inl refl)) e in
      only R step w
      (λ x j. elim (in_snoc x b seen j) [ inl k ↦ s x k | inr same ↦ subst R (sym same) at ])
      (λ q k. elim (holds_split q (port_range b 0 (arity b)) ps k) [ inl l ↦ subst R (sym (port_of q b 0 (arity b) l)) at | inr l ↦ r q (inr l) ])
      a i
    where
      holds_split : (q : ℕ × ℕ) (xs ys : List (ℕ × ℕ)) → HasPort q (xs ++ ys) → HasPort q xs ⊎ HasPort q ys
      holds_split q [] ys k = inr k
      holds_split q (x ∷ xs) ys (inl e) = inl (inl e)
      holds_split q (x ∷ xs) ys (inr k) = elim (holds_split q xs ys k) [ inl l ↦ inl (inr l) | inr l ↦ inr l ]

      port_of : (q : ℕ × ℕ) (b i n : ℕ) → HasPort q (port_range b i n) → q.0 ≡ b
      port_of q b i zero k = absurd k
      port_of q b i (suc n) (inl e) = ap (λ (x : ℕ × ℕ). x.0) (sym e)
      port_of q b i (suc n) (inr k) = port_of q b (i + 1) n k

  -- every port of an atom that was seen leads to one that was seen, or is still to be gone through
  abbrev pub Covers : List ℕ → List (ℕ × ℕ) → Type 0
  Covers seen ps = (a i b : ℕ) → In a seen → i < arity a → to (a, i) ≡ Some b → In b seen ⊎ HasPort (a, i) ps

  -- all that is reached
  pub closed : {seen all : List ℕ} {ps : List (ℕ × ℕ)} → Walk arity to seen ps all → Covers seen ps → Covers all []
  closed ends c = c
  closed (passes {seen = seen} {p = p} h w) c = closed w (λ a i b s l e. elim (c a i b s l e) [
    | inl k ↦ inl k
    | inr (inl same) ↦ inl (h b (ap to same ∙ e))
    | inr (inr k) ↦ inr k
  ])
  closed (finds {seen = seen} {ps = ps} {p = p} {b = x} f n w) c = closed w (λ a i b s l e. elim (in_snoc a x seen s) [
    | inl k ↦ elim (c a i b k l e) [
      | inl j ↦ inl (in_left b seen (x ∷ []) j)
      | inr (inl same) ↦
          let g : ◌≡◌ {A = Option ℕ} (Some x) (Some b) = sym f ∙ ap to same ∙ e in
          let g' : x ≡ b = (cc) in
          inl (in_right b seen (x ∷ []) (inl g'))
      | inr (inr j) ↦ inr (holds_right (a, i) (port_range x 0 (arity x)) ps j)
    ]
    | inr same ↦ inr (holds_left (a, i) (port_range x 0 (arity x)) ps
        (subst (λ (z : ℕ). HasPort (z, i) (port_range x 0 (arity x))) (sym same) (holds_port x 0 (arity x) i (omega arith) (let m : i < arity x = subst (λ (z : ℕ). i < arity z) same l in omega (arith, m)))))
  ])

  -- From the atom r on: its own ports are still to be gone through.
  pub start_covers : (r : ℕ) → Covers (r ∷ []) (port_range r 0 (arity r))
  start_covers r a i b (inl same) l e = inr (subst (λ (z : ℕ). HasPort (z, i) (port_range r 0 (arity r))) same (holds_port r 0 (arity r) i (omega arith) (let m : i < arity r = subst (λ (z : ℕ). i < arity z) (sym same) l in omega (arith, m))))
  start_covers r a i b (inr j) l e = absurd j

  -- where every port leads to what was seen, nothing more is found
  pub all_seen : (seen : List ℕ) (ps : List (ℕ × ℕ)) → ((p : ℕ × ℕ) (b : ℕ) → HasPort p ps → to p ≡ Some b → In b seen) → Walk arity to seen ps seen
  all_seen seen [] h = ends
  all_seen seen (p ∷ ps) h = passes (λ b e. h p b (inl refl) e) (all_seen seen ps (λ q b k e. h q b (inr k) e))

  -- the first port of a walk
  pub past : {seen all : List ℕ} {ps : List (ℕ × ℕ)} {p : ℕ × ℕ} → Walk arity to seen (p ∷ ps) all → ((b : ℕ) → to p ≡ Some b → In b seen) → Walk arity to seen ps all
  past (passes h w) k = w
  past (finds e n w) k = absurd (n (k _ e))

  pub found : {seen all : List ℕ} {ps : List (ℕ × ℕ)} {p : ℕ × ℕ} → Walk arity to seen (p ∷ ps) all → (b : ℕ) → to p ≡ Some b → (In b seen → ⊥)
      → Walk arity to (seen ++ b ∷ []) (port_range b 0 (arity b) ++ ps) all
  found (passes h w) b e n = absurd (n (h b e))
  found {all = all} {ps = ps} (finds {seen = seen} {b = c} f m w) b e n =
      let g : ◌≡◌ {A = Option ℕ} (Some c) (Some b) = sym f ∙ e in
      let s : c ≡ b = (cc) in
      subst (λ (x : ℕ). Walk arity to (seen ++ x ∷ []) (port_range x 0 (arity x) ++ ps) all) s w
