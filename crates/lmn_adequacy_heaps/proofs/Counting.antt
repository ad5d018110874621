-- How often a link stands in the region of a membrane, by the atoms at its two ends.
use Rattle.std.proofs.Common.{ℕ, zero, suc, ◌≡◌, ◌+◌, ◌<◌, ◌≤◌, ◌⊎◌, ◌==◌, cond, List, [], ◌∷◌, ◌++◌, map, Option, Some, None, IsSome, refl, sym, ◌∙◌, inl, inr, arith}
use Rattle.std.proofs.lemmas.Bool.{cases_eq, eq-eqb}
use Rattle.std.specs.Option.{option_map}
use Rattle.lmn_store_heap.specs.Heap.{Heap, HeapAtom, IsAtom, arity_of, functor_of, link_of, atoms_in, rules_in, within}
use Rattle.lmn_store_heap.specs.Sound.{Forest, bare, mem, Valid}
use Rattle.lmn_store_heap.specs.Solid.{IsNaming, links_from}
use Rattle.lmn_store_heap.proofs.ListLemmas.{each_of}
use Rattle.lmn_congruence.specs.Links.{one_if_same, places}
use Rattle.lmn_congruence.specs.Process.{occurrences, together, rule}
use Rattle.lmn_congruence.specs.Regions.{atom_process, region_process, regions_processes}
use Rattle.lmn_adequacy_heaps.specs.HeapRegions.{HeapReading, atoms_at, regions_at, region_at}
use Rattle.lmn_adequacy_heaps.proofs.Pieces.{atom_at, atom_by, atoms_each}
use Rattle.lmn_base.proofs.Lists.{weigh, weigh_append}
use Rattle.lmn_base.proofs.Numbers.{not_equal as apart_test}
use Rattle.lmn_congruence.proofs.Counts.{none_if_apart as apart_none, one_if_equal as same_one}
use Rattle.lmn_congruence.proofs.TranslatedLinks.{no_link_in_rules}
use Rattle.lmn_store_heap.proofs.Replacing.{port_within}
use Rattle.lmn_store_heap.proofs.Common.{same_port}
use Rattle.lmn_base.specs.Lists.{In}
use Rattle.std.specs.List.{AllByRecursion}

-- 1 at one port, and else 0
abbrev at_port : ℕ → ℕ → ℕ → ℕ → ℕ
at_port a i c t = cond (a == c) (one_if_same i t) 0

at_cases : (a i c t : ℕ) → ((c ≡ a) × (t ≡ i) × (at_port a i c t ≡ 1)) ⊎ ((c ≡ a → t ≡ i → ⊥) × (at_port a i c t ≡ 0))
at_cases a i c t = elim (cases_eq a c) [
  | inl e ↦ elim (cases_eq i t) [
    | inl f ↦ inl (sym e, sym f, rw (eq-eqb a c e, eq-eqb i t f) refl)
    | inr d ↦ inr ((λ p q. d (sym q)), rw (eq-eqb a c e, apart_test i t d) refl)
  ]
  | inr d ↦ inr ((λ p q. d (sym p)), rw (apart_test a c d) refl)
]

one_port : (v w a i b j c t : ℕ) → (c ≡ a → t ≡ i → v ≡ w) → (c ≡ b → t ≡ j → v ≡ w) → (v ≡ w → ((c ≡ a) × (t ≡ i)) ⊎ ((c ≡ b) × (t ≡ j)))
    → (a ≡ b → i ≡ j → ⊥) → one_if_same v w ≡ at_port a i c t + at_port b j c t
one_port v w a i b j c t h1 h2 h3 h4 = elim (at_cases a i c t) [
  | inl p ↦ elim (at_cases b j c t) [
    | inl q ↦ absurd (h4 (sym p.0 ∙ q.0) (sym p.1 ∙ q.1))
    | inr q ↦ omega (arith, same_one v w (h1 p.0 p.1), p.2, q.1)
  ]
  | inr p ↦ elim (at_cases b j c t) [
    | inl q ↦ omega (arith, same_one v w (h2 q.0 q.1), p.1, q.2)
    | inr q ↦ omega (arith, apart_none v w (λ e. elim (h3 e) [ inl s ↦ p.0 s.0 s.1 | inr s ↦ q.0 s.0 s.1 ]), p.1, q.1)
  ]
]

-- over the ports k to k + n of an atom
abbrev over : ℕ → ℕ → ℕ → ℕ → ℕ → ℕ
over a i c k zero = 0
over a i c k (suc n) = at_port a i c k + over a i c (k + 1) n

over_past : (a i c k n : ℕ) → i < k → over a i c k n ≡ 0
over_past a i c k zero h = refl
over_past a i c k (suc n) h =
    let r = over_past a i c (k + 1) n (omega (arith, h)) in
    elim (at_cases a i c k) [ inl p ↦ absurd (let e = p.1 in omega (arith, h)) | inr p ↦ omega (arith, p.1, r) ]

over_in : (a i c k n : ℕ) → k ≤ i → (c ≡ a → i < k + n) → over a i c k n ≡ one_if_same a c
over_in a i c k zero l h = sym (apart_none a c (λ e. let b = h (sym e) in omega arith))
over_in a i c k (suc n) l h = elim (cases_eq i k) [
  | inl e ↦ let z = over_past a i c (k + 1) n (omega arith) in
      elim (cases_eq a c) [
        | inl f ↦ let u : at_port a i c k ≡ 1 = rw (eq-eqb a c f, eq-eqb i k e) refl in omega (arith, u, z, same_one a c f)
        | inr d ↦ let u : at_port a i c k ≡ 0 = rw (apart_test a c d) refl in omega (arith, u, z, apart_none a c d)
      ]
  | inr d ↦ let z = over_in a i c (k + 1) n (omega (arith, l, d)) (λ e. let b = h e in omega arith) in
      elim (at_cases a i c k) [ inl p ↦ absurd (d (sym p.1)) | inr p ↦ omega (arith, p.1, z) ]
]

places_over : (name : ℕ → ℕ → ℕ) (v a i b j c k n : ℕ) → ((t : ℕ) → k ≤ t → t < k + n → one_if_same v (name c t) ≡ at_port a i c t + at_port b j c t)
    → places v (links_from name c k n) ≡ over a i c k n + over b j c k n
places_over name v a i b j c k zero h = omega arith
places_over name v a i b j c k (suc n) h =
    let r = places_over name v a i b j c (k + 1) n (λ t l u. h t (omega (arith, l)) (omega (arith, u))) in
    omega (arith, h k (omega arith) (omega arith), r)

-- the atoms that stand in the membranes of a forest
abbrev pub forest_atoms : Heap → Forest → List ℕ
forest_atoms h bare = []
forest_atoms h (mem m inner rest) = (atoms_in h m ++ forest_atoms h inner) ++ forest_atoms h rest

-- those of a membrane, with those inside
abbrev pub tree_atoms : Heap → ℕ → Forest → List ℕ
tree_atoms h m inner = atoms_in h m ++ forest_atoms h inner

-- weighed by one number, a list weighs its places
pub weigh_same : (x : ℕ) (xs : List ℕ) → weigh (one_if_same x) xs ≡ places x xs
weigh_same x [] = refl
weigh_same x (y ∷ xs) = omega (arith, weigh_same x xs)

-- how often a link stands at an atom
abbrev pub times_at : Heap → HeapReading → ℕ → ℕ → ℕ
times_at h r x a = places x (atom_at h r a).links

is_atom : (h : Heap) (v : Valid h) (m a : ℕ) → In a (atoms_in h m) → IsAtom h a
is_atom h v m a p = by (h.atoms a) ((v.sound.listed.atoms m a).0 p)
  where
    by : (o : Option HeapAtom) → option_map (λ x. x.place) o ≡ Some (within m) → IsSome o
    by None e = absurd (cc)
    by (Some x) e = refl

-- what stands in a membrane's list is an atom
pub list_atoms : (h : Heap) (v : Valid h) (m : ℕ) → AllByRecursion (IsAtom h) (atoms_in h m)
list_atoms h v m = each_of (IsAtom h) (atoms_in h m) (is_atom h v m)

-- a link with its two ports
module _ (h : Heap) (r : HeapReading) (v : Valid h) (naming : IsNaming h r.name) (a i b j : ℕ) (port : i < arity_of h a) (link : link_of h a i ≡ Some (b, j)) where
  differ : a ≡ b → i ≡ j → ⊥
  differ e f = v.sound.paired.apart a i (rw (e, f) (rw (e, f) at link))

  at_each : (c t : ℕ) → t < arity_of h c → one_if_same (r.name a i) (r.name c t) ≡ at_port a i c t + at_port b j c t
  at_each c t l = one_port (r.name a i) (r.name c t) a i b j c t
      (λ e f. rw (e, f) refl) (λ e f. rw (e, f) (naming.joined a i b j link))
      (λ e. elim (naming.apart a i c t port l e) [
        | inl s ↦ inl (sym s.0, sym s.1)
        | inr s ↦ inr (same_port (sym s ∙ link))
      ])
      differ

  -- on one atom
  at_atom : (c : ℕ) → IsAtom h c → places (r.name a i) (atom_at h r c).links ≡ one_if_same a c + one_if_same b c
  at_atom c s = by (h.atoms c) refl s
    where
      by : (o : Option HeapAtom) → h.atoms c ≡ o → IsSome o → places (r.name a i) (atom_by r c o).links ≡ one_if_same a c + one_if_same b c
      by None q s = absurd (cc)
      by (Some y) q s =
          let f : functor_of h c ≡ Some y.functor = rw q refl in
          let n : arity_of h c ≡ y.functor.arity = v.sound.shaped.ports c y.functor f in
          let u = places_over r.name (r.name a i) a i b j c 0 y.functor.arity (λ t l k. at_each c t (omega (arith, n, k))) in
          let w = over_in a i c 0 y.functor.arity (omega arith) (λ e. let p : i < arity_of h c = rw e port in omega (arith, p, n)) in
          let z = over_in b j c 0 y.functor.arity (omega arith) (λ e. let p : j < arity_of h c = rw e (port_within h b j _ (v.sound.paired.back a i b j link)) in omega (arith, p, n)) in
          omega (arith, u, w, z)

  -- a link stands in atoms once for each of its two ends among them
  pub ends_among : (xs : List ℕ) → AllByRecursion (IsAtom h) xs → weigh (times_at h r (r.name a i)) xs ≡ places a xs + places b xs
  ends_among [] e = omega arith
  ends_among (c ∷ xs) e = omega (arith, at_atom c e.0, ends_among xs e.1)

-- ---- in a region

module _ (h : Heap) (r : HeapReading) (v : Valid h) (x : ℕ) where
  -- a link occurs in atoms as often as in their lists
  pub in_atoms : (xs : List ℕ) → occurrences x (together (map atom_process (map (atom_at h r) xs))) ≡ weigh (times_at h r x) xs
  in_atoms [] = refl
  in_atoms (c ∷ xs) = omega (arith, in_atoms xs)

  in_list : (m : ℕ) → occurrences x (together (map atom_process (atoms_at h r (atoms_in h m)))) ≡ weigh (times_at h r x) (atoms_in h m)
  in_list m = rw (atoms_each h r (atoms_in h m) (list_atoms h v m)) (in_atoms (atoms_in h m))

  -- a link occurs in the membranes of a forest as often as in its atoms
  pub in_regions : (f : Forest) → occurrences x (together (regions_processes (regions_at h r f))) ≡ weigh (times_at h r x) (forest_atoms h f)
  in_regions bare = refl
  in_regions (mem m inner rest) = omega (
    arith,
    in_list m,
    in_regions inner,
    in_regions rest,
    no_link_in_rules x (map r.rule (rules_in h m)),
    weigh_append (times_at h r x) (atoms_in h m ++ forest_atoms h inner) (forest_atoms h rest),
    weigh_append (times_at h r x) (atoms_in h m) (forest_atoms h inner),
  )

  -- a link occurs in a membrane as often as in the atoms of its tree
  pub in_region : (m : ℕ) (inner : Forest) → occurrences x (region_process (region_at h r m inner)) ≡ weigh (times_at h r x) (tree_atoms h m inner)
  in_region m inner = omega (
    arith,
    in_list m,
    in_regions inner,
    no_link_in_rules x (map r.rule (rules_in h m)),
    weigh_append (times_at h r x) (atoms_in h m) (forest_atoms h inner),
  )
