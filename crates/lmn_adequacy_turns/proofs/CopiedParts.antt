-- A part of a heap in the order in which it is copied, and its links renamed: it is what a typed context stands for.
use Rattle.std.proofs.Common.{ℕ, ◌≡◌, ◌<◌, true, List, [], ◌∷◌, ◌++◌, map, refl, sym, ap, subst, ◌∙◌, inl, inr, arith, Some}
use Rattle.std.proofs.lemmas.List.{append-nil}
use Rattle.lmn_base.specs.Graphs.{Reached}
use Rattle.lmn_store_heap.specs.Heap.{Heap, IsAtom, arity_of, atoms_in, link_of}
use Rattle.lmn_store_heap.specs.Graphs.{atom_map}
use Rattle.lmn_store_heap.specs.Lists.{Distinct}
use Rattle.lmn_store_heap.proofs.ListLemmas.{each_in, each_of}
use Rattle.lmn_ground_parts.specs.Walks.{port_range, net, neighbour, IsPartInDepth as InDepth}
use Rattle.lmn_ground_parts.proofs.WalkLaws.{once, kept_seen}
use Rattle.lmn_solid_bodies.proofs.Brought.{in_part, part_all, reached_into}
use Rattle.lmn_congruence.specs.Links.{places}
use Rattle.lmn_congruence.specs.Orders.{Among, Shuffle, at_head, further}
use Rattle.lmn_congruence.specs.Regions.{SolidAtom}
use Rattle.lmn_congruence.specs.Rules.{Label}
use Rattle.lmn_congruence.specs.Same.{renamed_atom}
use Rattle.lmn_congruence.proofs.Counts.{Occurs, one_if_equal as same_one}
use Rattle.lmn_congruence.proofs.Shuffles.{shuffle_chain}
use Rattle.lmn_reduction.specs.Parts.{Rooted}
use Rattle.lmn_adequacy.specs.Embedding.{IsPart}
use Rattle.lmn_adequacy.specs.Next.{DepthFirst, ReachesAtoms, links_at, reaches_new, reaches_none}
use Rattle.lmn_adequacy.proofs.Depth.{order_kept}
use Rattle.lmn_adequacy.proofs.SameParts.{part_image}
use Rattle.lmn_adequacy_heaps.specs.HeapRegions.{HeapReading, atoms_at}
use Rattle.lmn_adequacy_heaps.specs.Parts.{HasPart, IsGroundPart}
use Rattle.lmn_adequacy_heaps.specs.Premises.{IsRead}
use Rattle.lmn_adequacy_heaps.proofs.Counting.{list_atoms}
use Rattle.lmn_adequacy_heaps.proofs.GroundParts.{link_among}
use Rattle.lmn_adequacy_heaps.proofs.Matchings.{matching, shuffle_mapped}
use Rattle.lmn_adequacy_heaps.proofs.PartLaws.{ground_parts_stand_whole, shuffle_right}
use Rattle.lmn_adequacy_heaps.proofs.Pieces.{atom_at, atoms_each}
use Rattle.lmn_adequacy_turns.proofs.PartOrder.{Lists, lists, links_of_ports, port_at}
use Rattle.lmn_store_heap.proofs.Common.{is_atom_at}
use Rattle.lmn_congruence.proofs.Common.{among_left, among_right, places_among}
use Rattle.lmn_store_heap.proofs.Replacing.{port_within}
use Rattle.lmn_base.specs.Lists.{In}
use Rattle.lmn_base.proofs.Lists.{map_twice}

-- ---- renamed one to one

-- a map of links takes different links of these atoms to different links
abbrev pub OneToOneAt : (ℕ → ℕ) → List SolidAtom → Type 0
OneToOneAt to bs = (y z : ℕ) → Among y (links_at bs) → Among z (links_at bs) → to y ≡ to z → y ≡ z

-- atoms that are listed depth first still are when their links are renamed
pub renamed_depth_first : (to : ℕ → ℕ) (x : ℕ) (bs : List SolidAtom) → OneToOneAt to bs → Among x (links_at bs) → DepthFirst x bs → DepthFirst (to x) (map (renamed_atom to) bs)
renamed_depth_first to x bs one k d =
    order_kept to (λ z. Among z (links_at bs)) (λ y z i j e. one y z i j e) d (λ z i. alone z i) (λ z i. alone z i) (λ z i. i)
  where
    alone : (z : ℕ) → Among z (x ∷ []) → Among z (links_at bs)
    alone z at_head = k
    alone z (further i) = elim i [ ]

-- and they are the same part, with its root renamed
pub renamed_part : (to : ℕ → ℕ) (g : Rooted) (x : ℕ) (bs : List SolidAtom) → OneToOneAt to bs → IsPart g x bs → IsPart g (to x) (map (renamed_atom to) bs)
renamed_part to g x bs one i = record {
  only_atoms = i.only_atoms;
  to = λ y. to (i.to y);
  one_to_one = λ y z o o' e. i.one_to_one y z o o' (one (i.to y) (i.to z) (stands y o) (stands z o') e);
  root = ap to i.root;
  atoms = shuffle_right {S = (λ (a : Label × List ℕ) (b : SolidAtom). record { label = a.0; links = map (λ y. to (i.to y)) a.1 } ≡ b)} (renamed_atom to) i.atoms
      (λ a b e. ap (λ (ys : List ℕ). record { label = a.0; links = ys }) (sym (map_twice to i.to a.1)) ∙ ap (renamed_atom to) e);
}
  where
    stands : (y : ℕ) → Occurs y g.process → Among (i.to y) (links_at bs)
    stands y o = places_among (i.to y) (links_at bs) (λ e. o (sym (part_image i y o) ∙ e))

-- What a copy of a part is: the atoms of the part, depth first from the root.
pub record CopiedPart (g : Rooted) (x : ℕ) (bs : List SolidAtom) : Type 0 where
  pub is : IsPart g x bs
  pub in_order : DepthFirst x bs

-- ---- links and ports

module _ (h : Heap) (r : HeapReading) (read : IsRead h r) where
  each_as : (atoms : List ℕ) → ((a : ℕ) → In a atoms → IsAtom h a) → atoms_at h r atoms ≡ map (atom_at h r) atoms
  each_as atoms k = atoms_each h r atoms (each_of (IsAtom h) atoms k)

  at_stands : (xs : List ℕ) (a i : ℕ) → In a xs → i < arity_of h a → Among (r.name a i) (links_at (map (atom_at h r) xs))
  at_stands [] a i k l = absurd k
  at_stands (x ∷ xs) a i (inl e) l =
      among_left (links_at (map (atom_at h r) xs)) (subst (λ z. Among (r.name a i) (atom_at h r z).links) (sym e) (link_among h r read.valid a i l))
  at_stands (x ∷ xs) a i (inr k) l = among_right (atom_at h r x).links (at_stands xs a i k l)

  -- the link of a port of one of these atoms is one of theirs
  pub port_at_link : (atoms : List ℕ) → ((a : ℕ) → In a atoms → IsAtom h a) → (a i : ℕ) → In a atoms → i < arity_of h a → Among (r.name a i) (links_at (atoms_at h r atoms))
  port_at_link atoms k a i m l = subst (λ w. Among (r.name a i) (links_at w)) (sym (each_as atoms k)) (at_stands atoms a i m l)

  -- ---- a part in the order of a walk

  module _ (root q : ℕ × ℕ) (link : link_of h root.0 root.1 ≡ Some q) (outside : Reached (atom_map h) root q.0 → ⊥) (atoms : List ℕ) (walk : InDepth h root atoms) where
    abbrev top : SolidAtom
    top = atom_at h r root.0

    port : root.1 < arity_of h root.0
    port = port_within h root.0 root.1 _ link

    -- its atoms are atoms
    pub part_atoms : (a : ℕ) → In a atoms → IsAtom h a
    part_atoms a k = (reached_into h h root read.valid.sound.paired (is_atom_at h root.0 root.1 port) (λ p s. refl) a (in_part h root atoms walk a k)).0

    away : In q.0 atoms → ⊥
    away k = outside (in_part h root atoms walk q.0 k)

    listed : Lists h r read root q link (root.0 ∷ []) atoms (port_range root.0 0 (arity_of h root.0))
    listed = lists h r read root q link walk away part_atoms (tt, tt)
        (λ p k. let u = port_at p root.0 0 (arity_of h root.0) k in (inl (sym u.0), subst (λ z. p.1 < arity_of h z) (sym u.0) (omega (arith, u.1))))

    -- a part that hangs at a port outside of it is listed depth first
    pub part_depth_first : DepthFirst (r.name root.0 root.1) (atoms_at h r atoms)
    part_depth_first =
        let new : List SolidAtom = map (atom_at h r) listed.new in
        let d : ReachesAtoms top.links (r.name root.0 root.1 ∷ top.links) new =
        subst (λ k. ReachesAtoms k (r.name root.0 root.1 ∷ top.links) new) (sym (links_of_ports h r read root.0 (is_atom_at h root.0 root.1 port)))
        (subst (λ k. ReachesAtoms (map (λ p. r.name p.0 p.1) (port_range root.0 0 (arity_of h root.0))) (r.name root.0 root.1 ∷ k) new) (append-nil top.links) listed.reaches) in
        let whole : DepthFirst (r.name root.0 root.1) (top ∷ (new ++ [])) = reaches_new (same_one_alone (r.name root.0 root.1)) (link_among h r read.valid root.0 root.1 port) d reaches_none in
        subst (DepthFirst (r.name root.0 root.1)) (ap (λ k. top ∷ k) (append-nil new) ∙ ap (map (atom_at h r)) (sym listed.is) ∙ sym (each_as atoms part_atoms)) whole
      where
        same_one_alone : (x : ℕ) → places x (x ∷ []) ≡ 1
        same_one_alone x = omega (arith, same_one x x refl)

  -- A ground part is one in the order of a walk too.
  pub part_in_order : (m : ℕ) (root : ℕ × ℕ) (part : List ℕ) (g : Rooted) → IsGroundPart h r m root part g → (atoms : List ℕ) → InDepth h root atoms → IsGroundPart h r m root atoms g
  part_in_order m root part g p atoms walk =
      let has : HasPart h root part = (ground_parts_stand_whole h r m root part g read p).1 in
      let alone : Distinct atoms = once (net h).arity (neighbour (net h) root (λ _. true)) walk (tt, tt) in
      let into : (a : ℕ) → In a atoms → In a part = λ a k. (has a).1 (in_part h root atoms walk a k) in
      let back : (a : ℕ) → In a part → In a atoms = λ a k. part_all h root atoms read.valid.sound.paired walk a ((has a).0 k) in
      let there : (a : ℕ) → In a part → IsAtom h a = λ a k. each_in (IsAtom h) (atoms_in h m) a (list_atoms h read.valid m) (p.inside a k) in
      let same : Shuffle (λ (a b : ℕ). a ≡ b) part atoms = matching (λ x. x) part atoms p.once alone back (λ x y k l e. e) (λ y k. (y, into y k, refl)) in
      let listed : Shuffle (λ (a b : SolidAtom). a ≡ b) (atoms_at h r part) (atoms_at h r atoms) =
      subst (λ w. Shuffle (λ (a b : SolidAtom). a ≡ b) w (atoms_at h r atoms)) (sym (each_as part there))
      (subst (Shuffle (λ (a b : SolidAtom). a ≡ b) (map (atom_at h r) part)) (sym (each_as atoms (λ a k. there a (into a k))))
      (shuffle_mapped {S = λ (a b : SolidAtom). a ≡ b} (atom_at h r) same (λ x y k e. ap (atom_at h r) e))) in
      record {
        once = alone;
        inside = λ a k. p.inside a (into a k);
        holder = p.holder;
        link = p.link;
        away = λ k. p.away (into p.holder.0 k);
        ground = p.ground;
        is = record {
          only_atoms = p.is.only_atoms;
          to = p.is.to;
          one_to_one = p.is.one_to_one;
          root = p.is.root;
          atoms = shuffle_chain (λ a b c e f. e ∙ f) p.is.atoms (atoms_at h r atoms) listed;
        };
      }

  -- ---- copies

  -- a ground part, in the order of a walk, with its links renamed one to one
  pub copied_part : (m : ℕ) (root : ℕ × ℕ) (part : List ℕ) (g : Rooted) → IsGroundPart h r m root part g → (atoms : List ℕ) → InDepth h root atoms →
      (to : ℕ → ℕ) → OneToOneAt to (atoms_at h r atoms) → CopiedPart g (to (r.name root.0 root.1)) (map (renamed_atom to) (atoms_at h r atoms))
  copied_part m root part g p atoms walk to one =
      let u = part_in_order m root part g p atoms walk in
      let outside : Reached (atom_map h) root u.holder.0 → ⊥ = λ w. u.away (part_all h root atoms read.valid.sound.paired walk u.holder.0 w) in
      let port : root.1 < arity_of h root.0 = port_within h root.0 root.1 _ u.link in
      let first : In root.0 atoms = kept_seen (net h).arity (neighbour (net h) root (λ _. true)) walk root.0 (inl refl) in
      let x = port_at_link atoms (part_atoms root u.holder u.link outside atoms walk) root.0 root.1 first port in
      record {
        is = renamed_part to g (r.name root.0 root.1) (atoms_at h r atoms) one u.is;
        in_order = renamed_depth_first to (r.name root.0 root.1) (atoms_at h r atoms) one x (part_depth_first root u.holder u.link outside atoms walk);
      }
