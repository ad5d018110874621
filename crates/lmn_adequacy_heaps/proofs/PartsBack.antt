-- Atoms of a heap that are a ground part in the calculus are what is reached through its root on the heap.
use Rattle.std.proofs.Common.{ℕ, ◌≡◌, ◌<◌, List, ◌∷◌, Option, Some, refl, sym, ap, subst, ◌∙◌, inl, inr, arith}
use Rattle.lmn_base.specs.Graphs.{Reached as ReachedOnHeap, at_root, across as across_port, StandsWhole}
use Rattle.lmn_store_heap.specs.Heap.{Heap, IsAtom, arity_of, link_of, home_of}
use Rattle.lmn_store_heap.specs.Graphs.{atom_map}
use Rattle.lmn_store_heap.specs.Lists.{Distinct}
use Rattle.lmn_store_heap.specs.Sound.{Valid}
use Rattle.lmn_congruence.specs.Orders.{Among}
use Rattle.lmn_reduction.specs.Parts.{IsGround, ReachesLink, the_root, across}
use Rattle.lmn_store_heap.specs.Solid.{IsNaming}
use Rattle.lmn_adequacy_heaps.specs.HeapRegions.{HeapReading}
use Rattle.lmn_adequacy_heaps.proofs.Pieces.{atom_at}
use Rattle.lmn_adequacy_heaps.proofs.Counting.{times_at, ends_among}
use Rattle.lmn_adequacy_heaps.proofs.Forests.{none_of, some_of, once_of, find_in}
use Rattle.lmn_adequacy_heaps.proofs.Ports.{port_named}
use Rattle.lmn_store_heap.proofs.PartLists.{IsShut, all_of_part}
use Rattle.lmn_adequacy_heaps.proofs.GroundParts.{rooted_at, at_among, among_atom, atom_among, occurs_beside}
use Rattle.lmn_base.proofs.Lists.{weigh}
use Rattle.lmn_store_heap.proofs.Common.{same_port, decide_in}
use Rattle.lmn_store_heap.proofs.Replacing.{port_within}
use Rattle.lmn_base.specs.Lists.{In}
use Rattle.std.specs.List.{AllByRecursion}
use Rattle.lmn_base.proofs.Numbers.{is_port}

module _ (h : Heap) (r : HeapReading) (v : Valid h) (naming : IsNaming h r.name) (root q : ℕ × ℕ) (link : link_of h root.0 root.1 ≡ Some q)
    (x : ℕ) (xs : List ℕ) (once : Distinct (x ∷ xs)) (atoms : AllByRecursion (IsAtom h) (x ∷ xs)) (away : In q.0 (x ∷ xs) → ⊥) (ground : IsGround (rooted_at h r root x xs)) where
  -- the atom of the root is among them
  pub root_inside : In root.0 (x ∷ xs)
  root_inside =
      let e = ends_among h r v naming root.0 root.1 q.0 q.1 (port_within h root.0 root.1 _ link) link (x ∷ xs) atoms in
      let f : weigh (times_at h r (r.name root.0 root.1)) (x ∷ xs) ≡ 1 = sym (occurs_beside h r v (r.name root.0 root.1) x xs) ∙ ground.root_is_free in
      find_in root.0 (x ∷ xs) (omega (arith, e, f, none_of q.0 (x ∷ xs) away))

  not_the_root : (a i b j : ℕ) → In b (x ∷ xs) → link_of h a i ≡ Some (b, j) → (a ≡ root.0) × (i ≡ root.1) → ⊥
  not_the_root a i b j k e s =
      let w : ◌≡◌ {A = Option (ℕ × ℕ)} (Some (b, j)) (Some (q.0, q.1)) = sym e ∙ (λ t. link_of h (s.0 t) (s.1 t)) ∙ link in
      away (subst (λ c. In c (x ∷ xs)) (same_port w).0 k)

  pub is_shut : IsShut h root (x ∷ xs)
  is_shut a i b j k d e = elim (decide_in b (x ∷ xs)) [
    | inl m ↦ m
    | inr n ↦
        let port = port_within h a i _ e in
        let w = ends_among h r v naming a i b j port e (x ∷ xs) atoms in
        let f : weigh (times_at h r (r.name a i)) (x ∷ xs) ≡ 1 = omega (arith, w, once_of a (x ∷ xs) once, some_of a (x ∷ xs) k, none_of b (x ∷ xs) n) in
        elim (naming.apart a i root.0 root.1 port (port_within h root.0 root.1 _ link) (ground.nothing_else_free (r.name a i) (occurs_beside h r v (r.name a i) x xs ∙ f))) [
          | inl s ↦ absurd (d (λ t. (s.0 t, s.1 t)))
          | inr s ↦ absurd (n (subst (λ c. In c (x ∷ xs)) (sym (same_port (sym e ∙ s)).0) root_inside))
        ]
  ]

  -- a port whose link is reached in the calculus is one of an atom that is reached on the heap
  link_reached : {y : ℕ} → ReachesLink (rooted_at h r root x xs) y → (c k : ℕ) → In c (x ∷ xs) → k < arity_of h c → r.name c k ≡ y → ReachedOnHeap (atom_map h) root c
  link_reached the_root c k m port e = elim (naming.apart c k root.0 root.1 port (port_within h root.0 root.1 _ link) e) [
    | inl s ↦ subst (ReachedOnHeap (atom_map h) root) (sym s.0) at_root
    | inr s ↦ absurd (not_the_root root.0 root.1 c k m (v.sound.paired.back c k root.0 root.1 s) (refl, refl))
  ]
  link_reached (across {a = a} {xs = ys} {x = z} {y = y} among first second w) c k m port e =
      let u = among_atom h r v x xs (a, ys) among in
      let is : (atom_at h r u.0).links ≡ ys = ap (λ p. p.1) u.2 in
      let f = at_among (atom_at h r u.0).links z (subst (Among z) (sym is) first) in
      let g = at_among (atom_at h r u.0).links y (subst (Among y) (sym is) second) in
      let pf = port_named h v r u.0 f.0 z f.1 in
      let pg = port_named h v r u.0 g.0 y g.1 in
      let before = link_reached w u.0 f.0 u.1 pf.1 pf.0 in
      elim (naming.apart u.0 g.0 c k pg.1 port (pg.0 ∙ sym e)) [
        | inl s ↦ subst (ReachedOnHeap (atom_map h) root) s.0 before
        | inr s ↦ elim (is_port u.0 g.0 root) [
          | inl t ↦ absurd (not_the_root u.0 g.0 c k m s t)
          | inr d ↦ across_port before d s
        ]
      ]

  pub each_reached : (c : ℕ) → In c (x ∷ xs) → ReachedOnHeap (atom_map h) root c
  each_reached c m =
      let u = ground.connected (atom_among h r v c x xs m) in
      let f = at_among (atom_at h r c).links u.0 u.1 in
      let p = port_named h v r c f.0 u.0 f.1 in
      link_reached u.2 c f.0 m p.1 p.0

  pub all_inside : (c : ℕ) → ReachedOnHeap (atom_map h) root c → In c (x ∷ xs)
  all_inside = all_of_part h root (x ∷ xs) root_inside is_shut

  -- so the part stands whole where its atoms stand
  pub stands_whole : (m : ℕ) → ((c : ℕ) → In c (x ∷ xs) → home_of h c ≡ Some m) → StandsWhole (atom_map h) root m
  stands_whole m home = record {
    at_home = λ a w. home a (all_inside a w);
    no_other_end = λ a i f w e l d. v.full a i (let n = v.sound.shaped.ports a f e in omega (arith, n, l));
  }
