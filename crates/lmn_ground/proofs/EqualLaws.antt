-- Equal parts are walked alike, and parts that agree atom by atom are equal.
use Rattle.std.proofs.Common.{◌≡◌, ◌⊎◌, ℕ, zero, suc, ◌+◌, ◌<◌, List, [], ◌∷◌, ◌++◌, length, map, Option, Some, None, IsSome, refl, sym, ap, subst, ◌∙◌, inl, inr, arith, ◌≢◌}
use Rattle.std.proofs.lemmas.Bool.{cases_eq}
use Rattle.lmn_base.specs.Graphs.{across, SameGraph}
use Rattle.lmn_store_heap.specs.Heap.{Heap, arity_of, link_of, functor_of}
use Rattle.lmn_store_heap.specs.Sound.{Sound}
use Rattle.lmn_store_heap.specs.Graphs.{atom_map}
use Rattle.lmn_ground_parts.specs.Copies.{moved, answer}
use Rattle.lmn_ground.specs.Spread.{AreAtoms, IsWhole}
use Rattle.lmn_ground_parts.proofs.AnswerLaws.{answer_in, answer_one, answer_onto}
use Rattle.lmn_ground_parts.specs.Walks.{port_range, Walk, ends, passes, finds, HasPort}
use Rattle.lmn_base.specs.Lists.{In}
use Rattle.lmn_base.proofs.Lists.{in_snoc}
use Rattle.lmn_store_heap.proofs.Common.{same_port}

-- A map that is one to one on what is reached, and keeps ports and ends, carries one walk to another.
module _ (arity arity' : ℕ → ℕ) (to to' : ℕ × ℕ → Option ℕ) (f : ℕ → ℕ) (R : ℕ → Type 0)
    (ports_kept : (a : ℕ) → R a → arity' (f a) ≡ arity a)
    (end_kept : (a i b : ℕ) → R a → to (a, i) ≡ Some b → to' (f a, i) ≡ Some (f b))
    (none_kept : (a i : ℕ) → R a → to (a, i) ≡ None → to' (f a, i) ≡ None)
    (reach : (a i b : ℕ) → R a → to (a, i) ≡ Some b → R b)
    (one : (a b : ℕ) → R a → R b → f a ≡ f b → a ≡ b) where
  in_map : (a : ℕ) (xs : List ℕ) → In a xs → In (f a) (map f xs)
  in_map a [] i = absurd i
  in_map a (x ∷ xs) (inl e) = inl (ap f e)
  in_map a (x ∷ xs) (inr i) = inr (in_map a xs i)

  map_in : (a : ℕ) (xs : List ℕ) → R a → ((x : ℕ) → In x xs → R x) → In (f a) (map f xs) → In a xs
  map_in a [] r h i = absurd i
  map_in a (x ∷ xs) r h (inl e) = inl (one x a (h x (inl refl)) r e)
  map_in a (x ∷ xs) r h (inr i) = inr (map_in a xs r (λ z k. h z (inr k)) i)

  map_snoc : (xs : List ℕ) (b : ℕ) → map f (xs ++ b ∷ []) ≡ map f xs ++ f b ∷ []
  map_snoc [] b = refl
  map_snoc (x ∷ xs) b = ap (λ ys. f x ∷ ys) (map_snoc xs b)

  moved_ports : (b i n : ℕ) (ps : List (ℕ × ℕ)) → map (moved f) (port_range b i n ++ ps) ≡ port_range (f b) i n ++ map (moved f) ps
  moved_ports b i zero ps = refl
  moved_ports b i (suc n) ps = ap (λ qs. (f b, i) ∷ qs) (moved_ports b (i + 1) n ps)

  port_in : (q : ℕ × ℕ) (b i n : ℕ) (ps : List (ℕ × ℕ)) → R b → ((p : ℕ × ℕ) → HasPort p ps → R p.0) → HasPort q (port_range b i n ++ ps) → R q.0
  port_in q b i zero ps r h k = h q k
  port_in q b i (suc n) ps r h (inl e) = subst (λ (p : ℕ × ℕ). R p.0) e r
  port_in q b i (suc n) ps r h (inr k) = port_in q b (i + 1) n ps r h k

  pub walk_moved : {seen all : List ℕ} {ps : List (ℕ × ℕ)} → Walk arity to seen ps all → ((x : ℕ) → In x seen → R x) → ((p : ℕ × ℕ) → HasPort p ps → R p.0)
      → Walk arity' to' (map f seen) (map (moved f) ps) (map f all)
  walk_moved ends s r = ends
  walk_moved (passes {seen = seen} {p = p} h w) s r = passes (by (to p) refl) (walk_moved w s (λ q k. r q (inr k)))
    where
      by : (o : Option ℕ) → to p ≡ o → (b : ℕ) → to' (moved f p) ≡ Some b → In b (map f seen)
      by None e b k = let z = none_kept p.0 p.1 (r p (inl refl)) e in absurd (cc)
      by (Some c) e b k =
          let z : to' (f p.0, p.1) ≡ Some (f c) = end_kept p.0 p.1 c (r p (inl refl)) e in
          let g : ◌≡◌ {A = Option ℕ} (Some (f c)) (Some b) = sym z ∙ k in
          let g' : f c ≡ b = (cc) in
          subst (λ (x : ℕ). In x (map f seen)) g' (in_map c seen (h c e))
  walk_moved {all = all} (finds {seen = seen} {ps = ps} {p = p} {b = b} e n w) s r =
      let rb : R b = reach p.0 p.1 b (r p (inl refl)) e in
      let v = walk_moved w (λ x k. elim (in_snoc x b seen k) [ inl old ↦ s x old | inr same ↦ subst R (sym same) rb ])
      (λ q k. port_in q b 0 (arity b) ps rb (λ p' m. r p' (inr m)) k) in
      finds (end_kept p.0 p.1 b (r p (inl refl)) e) (λ k. n (map_in b seen rb s k))
      (subst (λ (m : ℕ). Walk arity' to' (map f seen ++ f b ∷ []) (port_range (f b) 0 m ++ map (moved f) ps) (map f all)) (sym (ports_kept b rb))
      (subst (λ (qs : List (ℕ × ℕ)). Walk arity' to' (map f seen ++ f b ∷ []) qs (map f all)) (moved_ports b 0 (arity b) ps)
      (subst (λ (xs : List ℕ). Walk arity' to' xs (map (moved f) (port_range b 0 (arity b) ++ ps)) (map f all)) (map_snoc seen b) v)))

-- two ports are the same or they are not
pub same_or_not : (p q : ℕ × ℕ) → (p ≡ q) ⊎ (p ≡ q → ⊥)
same_or_not p q = elim (cases_eq p.0 q.0) [
  | inl e ↦ elim (cases_eq p.1 q.1) [
    | inl f ↦ inl (λ i. (e i, f i))
    | inr d ↦ inr (λ g. d (ap (λ (r : ℕ × ℕ). r.1) g))
  ]
  | inr d ↦ inr (λ g. d (ap (λ (r : ℕ × ℕ). r.0) g))
]

-- Two parts whose atoms agree one by one: each has the functor of its answer, and each of its ports but the root leads to
-- the port that answers. So the parts are equal.
module _ (s : Heap) (x y : ℕ × ℕ) (xs ys : List ℕ) (sound : Sound s) (full : IsWhole s x None) (are : AreAtoms s x xs) (are' : AreAtoms s y ys) (long : length xs ≡ length ys)
    (root : answer xs ys x.0 ≡ y.0) (root_port : x.1 ≡ y.1)
    (functors : (a : ℕ) → In a xs → functor_of s (answer xs ys a) ≡ functor_of s a)
    (same_arity : (a : ℕ) → In a xs → arity_of s (answer xs ys a) ≡ arity_of s a)
    (ends_agree : (a i b j : ℕ) → In a xs → ◌≢◌ {A = ℕ × ℕ} (a, i) x → link_of s a i ≡ Some (b, j) → link_of s (answer xs ys a) i ≡ Some (answer xs ys b, j)) where
  private_root : (b j : ℕ) → ◌≡◌ {A = ℕ × ℕ} (b, j) x → ◌≡◌ {A = ℕ × ℕ} (answer xs ys b, j) y
  private_root b j e =
      let g : b ≡ x.0 = ap (λ (r : ℕ × ℕ). r.0) e in
      let h : j ≡ x.1 = ap (λ (r : ℕ × ℕ). r.1) e in
      let g' : answer xs ys b ≡ y.0 = ap (answer xs ys) g ∙ root in
      let h' : j ≡ y.1 = h ∙ root_port in
      λ i. (g' i, h' i)

  not_alone : (p : ℕ × ℕ) → link_of s p.0 p.1 ≡ Some p → ⊥
  not_alone p e = sound.paired.apart p.0 p.1 e

  -- a port but the root, from its answer
  back_from : (a i b j : ℕ) → In a xs → In b xs → ◌≢◌ {A = ℕ × ℕ} (a, i) x → i < arity_of s a → link_of s (answer xs ys a) i ≡ Some (answer xs ys b, j) → link_of s a i ≡ Some (b, j)
  back_from a i b j ia ib d l e = by (link_of s a i) refl (full.ends a i ((are.1 a).0 ia) l d)
    where
      by : (o : Option (ℕ × ℕ)) → link_of s a i ≡ o → IsSome (link_of s a i) → link_of s a i ≡ Some (b, j)
      by None g is = let is' = subst (λ (o : Option (ℕ × ℕ)). IsSome o) g is in absurd (cc)
      by (Some q) g is =
          let c_in : In q.0 xs = (are.1 q.0).1 (across ((are.1 a).0 ia) d g) in
          let h = ends_agree a i q.0 q.1 ia d g in
          let k = same_port (sym h ∙ e) in
          let c_is : q.0 ≡ b = answer_one xs ys q.0 b (omega (arith, long)) are'.0 c_in ib k.0 in
          g ∙ ap (λ (p : ℕ × ℕ). Some p) (λ m. (c_is m, k.1 m))

  pub agree_same : ((a i b j : ℕ) → link_of s a i ≡ Some (b, j) → i < arity_of s a) → SameGraph (atom_map s) x (atom_map s) y
  agree_same inside = record {
    to = answer xs ys;
    into = λ a r. (are'.1 (answer xs ys a)).0 (answer_in xs ys a (omega (arith, long)) ((are.1 a).1 r));
    onto = λ b r. (let h = answer_onto xs ys b long are.0 ((are'.1 b).1 r) in (h.0, (are.1 h.0).0 h.1, h.2));
    one_to_one = λ a b r q e. answer_one xs ys a b (omega (arith, long)) are'.0 ((are.1 a).1 r) ((are.1 b).1 q) e;
    functors = λ a r. functors a ((are.1 a).1 r);
    joined = λ a b i j r q. (forth a b i j ((are.1 a).1 r) ((are.1 b).1 q), back a b i j ((are.1 a).1 r) ((are.1 b).1 q));
    root = λ m. (root m, root_port m);
  }
    where
      forth : (a b i j : ℕ) → In a xs → In b xs → link_of s a i ≡ Some (b, j) → link_of s (answer xs ys a) i ≡ Some (answer xs ys b, j)
      forth a b i j ia ib e = elim (same_or_not (a, i) x) [
        | inr d ↦ ends_agree a i b j ia d e
        | inl g ↦ elim (same_or_not (b, j) x) [
          | inl h ↦ absurd (not_alone (a, i) (e ∙ ap (λ (p : ℕ × ℕ). Some p) (h ∙ sym g)))
          | inr d ↦ sound.paired.back (answer xs ys b) j (answer xs ys a) i (ends_agree b j a i ib d (sound.paired.back a i b j e))
        ]
      ]

      back : (a b i j : ℕ) → In a xs → In b xs → link_of s (answer xs ys a) i ≡ Some (answer xs ys b, j) → link_of s a i ≡ Some (b, j)
      back a b i j ia ib e = elim (same_or_not (a, i) x) [
        | inr d ↦ back_from a i b j ia ib d (subst (λ (z : ℕ). i < z) (same_arity a ia) (inside (answer xs ys a) i (answer xs ys b) j e)) e
        | inl g ↦
            let e' = sound.paired.back (answer xs ys a) i (answer xs ys b) j e in
            elim (same_or_not (b, j) x) [
              | inl h ↦ absurd (not_alone (answer xs ys a, i) (e ∙ ap (λ (p : ℕ × ℕ). Some p) (private_root b j h ∙ sym (private_root a i g))))
              | inr d ↦ sound.paired.back b j a i (back_from b j a i ib ia d (subst (λ (z : ℕ). j < z) (same_arity b ib) (inside (answer xs ys b) j (answer xs ys a) i e')) e')
            ]
      ]
