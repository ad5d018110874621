-- The atoms of a part that stands whole in a membrane, as a list.
use Rattle.std.proofs.Common.{ℕ, zero, suc, ◌≡◌, ◌≢◌, ◌<◌, ◌≤◌, ◌⊎◌, List, [], ◌∷◌, length, Option, Some, None, refl, sym, ap, subst, ◌∙◌, inl, inr, arith}
use Rattle.std.proofs.lemmas.Bool.{cases_eq}
use Rattle.lmn_base.specs.Graphs.{Reached, at_root, across, StandsWhole}
use Rattle.lmn_store_heap.specs.Heap.{Heap, arity_of, link_of, atoms_in}
use Rattle.lmn_store_heap.specs.Graphs.{atom_map}
use Rattle.lmn_store_heap.specs.Lists.{Distinct, without}
use Rattle.lmn_store_heap.specs.Sound.{Valid}
use Rattle.lmn_store_heap.proofs.ListLemmas.{each_in, each_of, in_without}
use Rattle.lmn_store_heap.proofs.Listing.{home_is}
use Rattle.lmn_store_heap.proofs.Replacing.{port_within}
use Rattle.lmn_store_heap.proofs.Common.{decide_in, shorter_without}
use Rattle.lmn_base.specs.Lists.{In}
use Rattle.std.specs.List.{AllByRecursion}
use Rattle.lmn_base.proofs.Numbers.{is_port}

module _ (h : Heap) (root : ℕ × ℕ) where
  -- a port of the list, other than the root, whose partner isn't in the list
  record Door (xs : List ℕ) : Type 0 where
    atom : ℕ
    index : ℕ
    beyond : ℕ
    at : ℕ
    among : In atom xs
    other : ◌≢◌ {A = ℕ × ℕ} (atom, index) root
    link : link_of h atom index ≡ Some (beyond, at)
    new : In beyond xs → ⊥

  -- all partners of ports of the list, but that of the root, are in the list
  abbrev pub IsShut : List ℕ → Type 0
  IsShut xs = (a i b j : ℕ) → In a xs → ◌≢◌ {A = ℕ × ℕ} (a, i) root → link_of h a i ≡ Some (b, j) → In b xs

  abbrev ShutAt : List ℕ → ℕ → ℕ → Type 0
  ShutAt xs a i = (b j : ℕ) → ◌≢◌ {A = ℕ × ℕ} (a, i) root → link_of h a i ≡ Some (b, j) → In b xs

  door_at : (xs : List ℕ) (a i : ℕ) → In a xs → Door xs ⊎ ShutAt xs a i
  door_at xs a i k = elim (is_port a i root) [
    | inl e ↦ inr (λ b j d l. absurd (d (λ t. (e.0 t, e.1 t))))
    | inr d ↦ by (link_of h a i) refl d
  ]
    where
      by : (o : Option (ℕ × ℕ)) → link_of h a i ≡ o → ◌≢◌ {A = ℕ × ℕ} (a, i) root → Door xs ⊎ ShutAt xs a i
      by None q d = inr (λ b j e l. absurd (let z : ◌≡◌ {A = Option (ℕ × ℕ)} None (Some (b, j)) = sym q ∙ l in cc))
      by (Some p) q d = elim (decide_in p.0 xs) [
        | inl m ↦ inr (λ b j e l. let z : ◌≡◌ {A = Option (ℕ × ℕ)} (Some p) (Some (b, j)) = sym q ∙ l in subst (λ c. In c xs) (ap (λ o. first o p.0) z) m)
        | inr n ↦ inl (record { atom = a; index = i; beyond = p.0; at = p.1; among = k; other = d; link = q; new = n })
      ]
        where
          first : Option (ℕ × ℕ) → ℕ → ℕ
          first None d = d
          first (Some p) d = p.0

  door_below : (xs : List ℕ) (a n : ℕ) → In a xs → Door xs ⊎ ((i : ℕ) → i < n → ShutAt xs a i)
  door_below xs a zero k = inr (λ i l. absurd (omega (arith, l)))
  door_below xs a (suc n) k = elim (door_below xs a n k) [
    | inl d ↦ inl d
    | inr s ↦ elim (door_at xs a n k) [
      | inl d ↦ inl d
      | inr t ↦ inr (λ i l. elim (cases_eq i n) [
        | inl e ↦ subst (ShutAt xs a) (sym e) t
        | inr d ↦ s i (omega (arith, l, d))
      ])
    ]
  ]

  door_of : (xs : List ℕ) (ys : List ℕ) → AllByRecursion (λ a. In a xs) ys → Door xs ⊎ ((a i : ℕ) → In a ys → ShutAt xs a i)
  door_of xs [] e = inr (λ a i k. absurd k)
  door_of xs (y ∷ ys) e = elim (door_below xs y (arity_of h y) e.0) [
    | inl d ↦ inl d
    | inr s ↦ elim (door_of xs ys e.1) [
      | inl d ↦ inl d
      | inr t ↦ inr (λ a i k. elim k [
        | inl same ↦ subst (λ c. ShutAt xs c i) same (λ b j d l. s i (port_within h y i _ l) b j d l)
        | inr m ↦ t a i m
      ])
    ]
  ]

  -- the atoms of the part: a first one and others
  pub record PartList : Type 0 where
    pub first : ℕ
    pub others : List ℕ
    pub once : Distinct (first ∷ others)
    pub reached : (a : ℕ) → In a (first ∷ others) → Reached (atom_map h) root a
    pub start : In root.0 (first ∷ others)
    pub shut : IsShut (first ∷ others)

  -- each atom that is reached is in the list
  pub all_of_part : (xs : List ℕ) → In root.0 xs → IsShut xs → (a : ℕ) → Reached (atom_map h) root a → In a xs
  all_of_part xs s shut a at_root = s
  all_of_part xs s shut b (across {a = a} {i = i} {j = j} w d l) = shut a i b j (all_of_part xs s shut a w) d l

  -- what the list has, or `rs` still holds
  abbrev Covers : List ℕ → List ℕ → Type 0
  Covers xs rs = (c : ℕ) → Reached (atom_map h) root c → In c xs ⊎ In c rs

  remains : (xs rs : List ℕ) → Covers xs rs → (door : Door xs) → Reached (atom_map h) root door.beyond → In door.beyond rs
  remains xs rs cover door w = elim (cover door.beyond w) [ inl k ↦ absurd (door.new k) | inr k ↦ k ]

  opened : (xs : List ℕ) → AllByRecursion (Reached (atom_map h) root) xs → (door : Door xs) → Reached (atom_map h) root door.beyond
  opened xs e door = across (each_in (Reached (atom_map h) root) xs door.atom e door.among) door.other door.link

  finished : (x : ℕ) (xs : List ℕ) → Distinct (x ∷ xs) → AllByRecursion (Reached (atom_map h) root) (x ∷ xs) → In root.0 (x ∷ xs) → ((a i : ℕ) → In a (x ∷ xs) → ShutAt (x ∷ xs) a i) → PartList
  finished x xs d e s shut = record { first = x; others = xs; once = d; reached = λ a k. each_in (Reached (atom_map h) root) (x ∷ xs) a e k; start = s; shut = λ a i b j k. shut a i k b j }

  any_door : (xs : List ℕ) → Door xs ⊎ ((a i : ℕ) → In a xs → ShutAt xs a i)
  any_door xs = door_of xs xs (each_of (λ a. In a xs) xs (λ a k. k))

  -- a list that is grown until no port leads out of it
  pub grown : (n x : ℕ) (xs rs : List ℕ) → length rs ≤ n → Distinct (x ∷ xs) → AllByRecursion (Reached (atom_map h) root) (x ∷ xs) → In root.0 (x ∷ xs) → Covers (x ∷ xs) rs → PartList
  grown zero x xs rs l d e s cover = elim (any_door (x ∷ xs)) [
    | inl door ↦ absurd (let w = shorter_without door.beyond rs (remains (x ∷ xs) rs cover door (opened (x ∷ xs) e door)) in omega (arith, l, w))
    | inr shut ↦ finished x xs d e s shut
  ]
  grown (suc n) x xs rs l d e s cover = elim (any_door (x ∷ xs)) [
    | inl door ↦
        let w = opened (x ∷ xs) e door in
        let short = shorter_without door.beyond rs (remains (x ∷ xs) rs cover door w) in
        grown n door.beyond (x ∷ xs) (without door.beyond rs) (omega (arith, l, short))
        (each_of (λ y. door.beyond ≢ y) (x ∷ xs) (λ a k q. door.new (subst (λ c. In c (x ∷ xs)) (sym q) k)), d) (w, e) (inr s)
        (λ c u. elim (cover c u) [
          | inl k ↦ inl (inr k)
          | inr k ↦ elim (cases_eq c door.beyond) [
            | inl q ↦ inl (inl (sym q))
            | inr q ↦ inr (in_without door.beyond c rs k q)
          ]
        ])
    | inr shut ↦ finished x xs d e s shut
  ]

-- a part that stands whole in a membrane has such a list
pub part_list : (h : Heap) (v : Valid h) (root : ℕ × ℕ) (m : ℕ) → StandsWhole (atom_map h) root m → PartList h root
part_list h v root m whole =
    grown h root (length (atoms_in h m)) root.0 [] (atoms_in h m) (omega arith) (tt, tt) (at_root, tt) (inl refl)
    (λ c w. inr ((v.sound.listed.atoms m c).1 (home_is h c m (whole.at_home c w))))

-- what is reached through the port of an atom of arity 1
pub reached_one : (h : Heap) (v : Valid h) (c : ℕ) → arity_of h c ≡ 1 → (b : ℕ) → Reached (atom_map h) (c, 0) b → b ≡ c
reached_one h v c one b at_root = refl
reached_one h v c one b (across {a = a} {i = i} w d e) =
    let s = reached_one h v c one a w in
    let l : i < arity_of h a = port_within h a i _ e in
    let n : arity_of h a ≡ 1 = ap (arity_of h) s ∙ one in
    let z : i ≡ 0 = omega (arith, l, n) in
    absurd (d (λ j. (s j, z j)))
