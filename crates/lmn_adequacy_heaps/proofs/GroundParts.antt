-- A part that stands whole in a membrane is ground in the calculus.
use Rattle.std.proofs.Common.{ℕ, zero, suc, ◌≡◌, ◌<◌, ◌≤◌, List, [], ◌∷◌, map, Some, refl, sym, ap, subst, ◌∙◌, inl, inr, arith, ◌≢◌}
use Rattle.std.specs.Prelude.{slice_get}
use Rattle.std.proofs.lemmas.Bool.{cases_eq}
use Rattle.std.proofs.lemmas.Option.{same_Some}
use Rattle.lmn_base.specs.Graphs.{Reached as ReachedOnHeap, at_root, across as across_port}
use Rattle.lmn_store_heap.specs.Heap.{Heap, arity_of, link_of, IsAtom}
use Rattle.lmn_store_heap.specs.Graphs.{atom_map}
use Rattle.lmn_store_heap.specs.Sound.{Valid}
use Rattle.lmn_congruence.specs.Links.{places}
use Rattle.lmn_congruence.specs.Orders.{Among, at_head, further}
use Rattle.lmn_congruence.specs.Process.{Process, pair, occurrences}
use Rattle.lmn_congruence.specs.Regions.{SolidAtom, atom_process}
use Rattle.lmn_congruence.specs.Rules.{Label}
use Rattle.lmn_reduction.specs.Parts.{Rooted, OnlyAtoms, IsGround, ReachesLink, the_root, across, atoms_at_top}
use Rattle.lmn_adequacy_heaps.specs.HeapRegions.{HeapReading}
use Rattle.lmn_adequacy_heaps.proofs.Pieces.{atom_at}
use Rattle.lmn_adequacy_heaps.proofs.Counting.{times_at, ends_among}
use Rattle.lmn_adequacy_heaps.proofs.Forests.{none_of, some_of, once_of}
use Rattle.lmn_adequacy_heaps.proofs.Ports.{port_named, named_port}
use Rattle.lmn_store_heap.proofs.PartLists.{all_of_part, PartList}
use Rattle.lmn_base.proofs.Lists.{weigh, some_is}
use Rattle.lmn_congruence.proofs.Counts.{none_if_apart as apart_none}
use Rattle.lmn_store_heap.proofs.Replacing.{port_within}
use Rattle.lmn_store_heap.specs.Solid.{IsNaming}
use Rattle.lmn_base.specs.Lists.{In}
use Rattle.std.specs.List.{AllByRecursion}
use Rattle.lmn_congruence.proofs.Common.{among_image}
use Rattle.lmn_base.proofs.Numbers.{is_port}

-- atoms side by side: a first one and others
abbrev pub side_by_side : SolidAtom → List SolidAtom → Process
side_by_side a [] = atom_process a
side_by_side a (b ∷ bs) = pair (atom_process a) (side_by_side b bs)

-- some atoms side by side are atoms alone
pub only_atoms_beside : (a : SolidAtom) (bs : List SolidAtom) → OnlyAtoms (side_by_side a bs)
only_atoms_beside a [] = tt
only_atoms_beside a (b ∷ bs) = (tt, only_atoms_beside b bs)

-- an atom as a label with its links
abbrev pub labelled : SolidAtom → Label × List ℕ
labelled a = (a.label, a.links)

-- the atoms at the top of some side by side are these
pub atoms_beside : (a : SolidAtom) (bs : List SolidAtom) → atoms_at_top (side_by_side a bs) ≡ map labelled (a ∷ bs)
atoms_beside a [] = refl
atoms_beside a (b ∷ bs) = ap (λ z. labelled a ∷ z) (atoms_beside b bs)

-- the part of the calculus for atoms of a heap
abbrev pub rooted_at : Heap → HeapReading → ℕ × ℕ → ℕ → List ℕ → Rooted
rooted_at h r root x xs = record { process = side_by_side (atom_at h r x) (map (atom_at h r) xs); root = r.name root.0 root.1 }

-- where a list weighs something one of it does
pub weighs_some : (w : ℕ → ℕ) (xs : List ℕ) → 1 ≤ weigh w xs → (c : ℕ) × In c xs × (1 ≤ w c)
weighs_some w [] l = absurd (omega (arith, l))
weighs_some w (x ∷ xs) l = elim (cases_eq (w x) 0) [
  | inl e ↦ let u = weighs_some w xs (omega (arith, l, e)) in (u.0, inr u.1, u.2)
  | inr d ↦ (x, inl refl, omega (arith, d))
]

-- what stands at a place is among the list
pub among_at : (ys : List ℕ) (i y : ℕ) → slice_get ys i ≡ Some y → Among y ys
among_at [] i y e = absurd (cc)
among_at (z ∷ ys) zero y e = subst (λ w. Among w (z ∷ ys)) (same_Some z y e) at_head
among_at (z ∷ ys) (suc i) y e = further (among_at ys i y e)

-- and what is among it stands at one
pub at_among : (ys : List ℕ) (y : ℕ) → Among y ys → (i : ℕ) × (slice_get ys i ≡ Some y)
at_among [] y k = elim k [ ]
at_among (x ∷ ys) y at_head = (0, refl)
at_among (x ∷ ys) y (further k) = let u = at_among ys y k in (suc u.0, u.1)

-- and so does what has a place
pub place_at : (ys : List ℕ) (y : ℕ) → 1 ≤ places y ys → (i : ℕ) × (slice_get ys i ≡ Some y)
place_at [] y l = absurd (omega (arith, l))
place_at (z ∷ ys) y l = elim (cases_eq y z) [
  | inl e ↦ (0, ap Some (sym e))
  | inr d ↦ let u = place_at ys y (omega (arith, l, apart_none y z d)) in (suc u.0, u.1)
]

-- what is among a list stands in it
pub in_among : (xs : List ℕ) (x : ℕ) → Among x xs → In x xs
in_among [] y k = elim k [ ]
in_among (x ∷ xs) y at_head = inl refl
in_among (x ∷ xs) y (further k) = inr (in_among xs y k)

module _ (h : Heap) (r : HeapReading) (v : Valid h) where
  pub occurs_beside : (y x : ℕ) (xs : List ℕ) → occurrences y (side_by_side (atom_at h r x) (map (atom_at h r) xs)) ≡ weigh (times_at h r y) (x ∷ xs)
  occurs_beside y x [] = omega arith
  occurs_beside y x (z ∷ xs) = omega (arith, occurs_beside y z xs)

  -- a link of an atom stands at a port of it
  pub port_of : (c y : ℕ) → 1 ≤ times_at h r y c → (i : ℕ) × (r.name c i ≡ y) × (i < arity_of h c)
  port_of c y l = let u = place_at (atom_at h r c).links y l in let w = port_named h v r c u.0 y u.1 in (u.0, w.0, w.1)

  pub link_among : (c i : ℕ) → i < arity_of h c → Among (r.name c i) (atom_at h r c).links
  link_among c i l = among_at (atom_at h r c).links i (r.name c i) (named_port h v r c i l)

  pub atom_among : (c x : ℕ) (xs : List ℕ) → In c (x ∷ xs) → Among (labelled (atom_at h r c)) (atoms_at_top (side_by_side (atom_at h r x) (map (atom_at h r) xs)))
  atom_among c x xs k = subst (Among (labelled (atom_at h r c))) (sym (atoms_beside (atom_at h r x) (map (atom_at h r) xs))) (twice (x ∷ xs) c k)
    where
      twice : (ys : List ℕ) (c : ℕ) → In c ys → Among (labelled (atom_at h r c)) (map labelled (map (atom_at h r) ys))
      twice [] c k = absurd k
      twice (y ∷ ys) c (inl e) = subst (λ z. Among (labelled (atom_at h r z)) (labelled (atom_at h r y) ∷ map labelled (map (atom_at h r) ys))) e at_head
      twice (y ∷ ys) c (inr k) = further (twice ys c k)

  pub among_atom : (x : ℕ) (xs : List ℕ) (p : Label × List ℕ) → Among p (atoms_at_top (side_by_side (atom_at h r x) (map (atom_at h r) xs))) → (c : ℕ) × In c (x ∷ xs) × (labelled (atom_at h r c) ≡ p)
  among_atom x xs p k =
      let u = among_image labelled (map (atom_at h r) (x ∷ xs)) (subst (Among p) (atoms_beside (atom_at h r x) (map (atom_at h r) xs)) k) in
      let w = among_image (atom_at h r) (x ∷ xs) u.1 in
      (w.0, in_among (x ∷ xs) w.0 w.1, ap labelled w.2 ∙ u.2)

  module _ (naming : IsNaming h r.name) (root q : ℕ × ℕ) (link : link_of h root.0 root.1 ≡ Some q) (l : PartList h root) (atoms : AllByRecursion (IsAtom h) (l.first ∷ l.others)) (away : In q.0 (l.first ∷ l.others) → ⊥) where
    root_once : weigh (times_at h r (r.name root.0 root.1)) (l.first ∷ l.others) ≡ 1
    root_once =
        let e = ends_among h r v naming root.0 root.1 q.0 q.1 (port_within h root.0 root.1 _ link) link (l.first ∷ l.others) atoms in
        omega (arith, e, once_of root.0 (l.first ∷ l.others) l.once, some_of root.0 (l.first ∷ l.others) l.start, none_of q.0 (l.first ∷ l.others) away)

    -- each other link of the part joins two of its ports
    other_twice : (a i : ℕ) → In a (l.first ∷ l.others) → i < arity_of h a → ◌≢◌ {A = ℕ × ℕ} (a, i) root → weigh (times_at h r (r.name a i)) (l.first ∷ l.others) ≡ 2
    other_twice a i k port d =
        let s = some_is (link_of h a i) (v.full a i port) in
        let e = ends_among h r v naming a i s.0.0 s.0.1 port s.1 (l.first ∷ l.others) atoms in
        let m = l.shut a i s.0.0 s.0.1 k d s.1 in
        omega (arith, e, once_of a (l.first ∷ l.others) l.once, some_of a (l.first ∷ l.others) k, once_of s.0.0 (l.first ∷ l.others) l.once, some_of s.0.0 (l.first ∷ l.others) m)

    only_root : (y : ℕ) → weigh (times_at h r y) (l.first ∷ l.others) ≡ 1 → y ≡ r.name root.0 root.1
    only_root y e =
        let c = weighs_some (times_at h r y) (l.first ∷ l.others) (omega (arith, e)) in
        let p = port_of c.0 y c.2 in
        elim (is_port c.0 p.0 root) [
          | inl s ↦ sym p.1 ∙ (λ t. r.name (s.0 t) (s.1 t))
          | inr d ↦ absurd (let w = other_twice c.0 p.0 c.1 p.2 d in let u : weigh (times_at h r y) (l.first ∷ l.others) ≡ 2 = subst (λ z. weigh (times_at h r z) (l.first ∷ l.others) ≡ 2) p.1 w in omega (arith, u, e))
        ]

    abbrev whole : Rooted
    whole = rooted_at h r root l.first l.others

    pub in_part : (a : ℕ) → ReachedOnHeap (atom_map h) root a → In a (l.first ∷ l.others)
    in_part = all_of_part h root (l.first ∷ l.others) l.start l.shut

    a_link_reached : (c : ℕ) → ReachedOnHeap (atom_map h) root c → (y : ℕ) × Among y (atom_at h r c).links × ReachesLink whole y
    a_link_reached c at_root = (r.name root.0 root.1, link_among root.0 root.1 (port_within h root.0 root.1 _ link), the_root)
    a_link_reached c (across_port {a = a} {i = i} {j = j} w d e) =
        let u = a_link_reached a w in
        let x : ReachesLink whole (r.name a i) = across (atom_among a l.first l.others (in_part a w)) u.1 (link_among a i (port_within h a i _ e)) u.2 in
        (r.name c j, link_among c j (port_within h c j _ (v.sound.paired.back a i c j e)), subst (ReachesLink whole) (naming.joined a i c j e) x)

    connected : {a : Label} {ys : List ℕ} → Among (a, ys) (atoms_at_top whole.process) → (y : ℕ) × (Among y ys) × ReachesLink whole y
    connected {a} {ys} k =
        let c = among_atom l.first l.others (a, ys) k in
        let u = a_link_reached c.0 (l.reached c.0 c.1) in
        (u.0, subst (Among u.0) (ap (λ p. p.1) c.2) u.1, u.2)

    -- a part that stands whole, entered from outside, is ground
    pub part_is_ground : IsGround whole
    part_is_ground = record {
      only_atoms = only_atoms_beside (atom_at h r l.first) (map (atom_at h r) l.others);
      root_is_free = occurs_beside (r.name root.0 root.1) l.first l.others ∙ root_once;
      nothing_else_free = λ y e. only_root y (sym (occurs_beside y l.first l.others) ∙ e);
      connected = connected;
    }
