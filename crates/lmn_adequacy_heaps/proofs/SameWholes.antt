-- Two parts of a heap are equal as rooted graphs exactly where they are in the calculus.
use Rattle.std.proofs.Common.{ℕ, zero, suc, ◌≡◌, ◌≢◌, ◌<◌, ◌≤◌, ◌+◌, ◌==◌, cond, List, [], ◌∷◌, map, length, Option, Some, refl, sym, ap, subst, ◌∙◌, inl, inr, arith}
use Rattle.std.specs.Prelude.{slice_get}
use Rattle.std.specs.Option.{option_map}
use Rattle.std.proofs.lemmas.Bool.{cases_eq, eq-eqb}
use Rattle.std.proofs.lemmas.Option.{same_Some}
use Rattle.lmn_base.specs.declared.functor.Functor.{Functor}
use Rattle.lmn_base.specs.Graphs.{Reached as ReachedOnHeap, SameGraph as SameOnHeap}
use Rattle.lmn_base.specs.Names.{IsNames, HasNames, label_names}
use Rattle.lmn_store_heap.specs.Heap.{Heap, IsAtom, arity_of, link_of, functor_of}
use Rattle.lmn_store_heap.specs.Graphs.{atom_map}
use Rattle.lmn_store_heap.specs.Solid.{links_from, IsNaming}
use Rattle.lmn_store_heap.specs.Sound.{Valid}
use Rattle.lmn_store_heap.proofs.ListLemmas.{each_in}
use Rattle.lmn_solid_heads.specs.Embeddings.{index_of}
use Rattle.lmn_congruence.specs.Links.{places}
use Rattle.lmn_congruence.specs.Orders.{Shuffle}
use Rattle.lmn_congruence.specs.Process.{occurrences}
use Rattle.lmn_congruence.specs.Rules.{Label}
use Rattle.lmn_congruence.specs.Translation.{label_of}
use Rattle.lmn_reduction.specs.Parts.{Rooted, atoms_at_top, EqualParts}
use Rattle.lmn_congruence.proofs.TranslatedNames.{labels_apart}
use Rattle.lmn_adequacy_heaps.specs.HeapRegions.{HeapReading}
use Rattle.lmn_adequacy_heaps.proofs.Pieces.{atom_at, atom_by}
use Rattle.lmn_adequacy_heaps.proofs.Counting.{times_at}
use Rattle.lmn_adequacy_heaps.proofs.Functors.{both_names}
use Rattle.lmn_adequacy_heaps.proofs.Ports.{port_named, named_port}
use Rattle.lmn_store_heap.proofs.PartLists.{PartList, all_of_part}
use Rattle.lmn_adequacy_heaps.proofs.GroundParts.{labelled, atoms_beside, rooted_at, occurs_beside}
use Rattle.lmn_adequacy_heaps.proofs.SameParts.{Renames}
use Rattle.lmn_adequacy_heaps.proofs.Matchings.{matching, shuffle_mapped, shuffle_unmapped, matched, matched_related, matched_in, matched_onto, matched_one}
use Rattle.lmn_base.proofs.Lists.{weigh, length_mapped, some_is, map_twice, get_map}
use Rattle.lmn_base.proofs.Numbers.{not_equal as apart_test}
use Rattle.lmn_congruence.proofs.Counts.{none_if_apart as apart_none, one_if_equal as same_one}
use Rattle.lmn_store_heap.proofs.Common.{length_numbered, same_port}
use Rattle.lmn_store_heap.proofs.Replacing.{port_within}
use Rattle.lmn_base.specs.Lists.{In}
use Rattle.std.specs.List.{AllByRecursion}

-- A part of a heap, with the port to which its root is joined. This one isn't of the part.
pub record WholePart (h : Heap) (root : ℕ × ℕ) : Type 0 where
  pub list : PartList h root
  pub atoms : AllByRecursion (IsAtom h) (list.first ∷ list.others)
  pub holder : ℕ × ℕ
  pub link : link_of h root.0 root.1 ≡ Some holder
  pub away : In holder.0 (list.first ∷ list.others) → ⊥

-- the atoms of a whole part
abbrev pub atoms_of_part : {h : Heap} {root : ℕ × ℕ} → WholePart h root → List ℕ
atoms_of_part p = p.list.first ∷ p.list.others

-- a whole part as the calculus has it
abbrev pub part_at : {h : Heap} {root : ℕ × ℕ} → HeapReading → WholePart h root → Rooted
part_at {h} {root} r p = rooted_at h r root p.list.first p.list.others

index_there : (ys : List ℕ) (y : ℕ) → 1 ≤ places y ys → slice_get ys (index_of y ys) ≡ Some y
index_there [] y l = absurd (omega (arith, l))
index_there (z ∷ ys) y l = elim (cases_eq z y) [
  | inl e ↦ rw (eq-eqb z y e) (ap Some e)
  | inr d ↦ rw (apart_test z y d) (index_there ys y (omega (arith, l, apart_none y z (λ q. d (sym q)))))
]

mapped_numbered : (f : ℕ → ℕ) (name : ℕ → ℕ → ℕ) (a b k n : ℕ) → ((i : ℕ) → k ≤ i → i < k + n → f (name a i) ≡ name b i) → map f (links_from name a k n) ≡ links_from name b k n
mapped_numbered f name a b k zero e = refl
mapped_numbered f name a b k (suc n) e = λ i. e k (omega arith) (omega arith) i ∷ mapped_numbered f name a b (k + 1) n (λ j l m. e j (omega (arith, l)) (omega (arith, m))) i

module _ (h : Heap) (r : HeapReading) (v : Valid h) where
  abbrev pub piece : ℕ → Label × List ℕ
  piece a = labelled (atom_at h r a)

  pub pieces_are : (x : ℕ) (xs : List ℕ) → atoms_at_top (rooted_at h r (0, 0) x xs).process ≡ map piece (x ∷ xs)
  pieces_are x xs = atoms_beside (atom_at h r x) (map (atom_at h r) xs) ∙ map_twice labelled (atom_at h r) (x ∷ xs)

  pub record AtomIs (a : ℕ) : Type 0 where
    pub functor : Functor
    pub is : functor_of h a ≡ Some functor
    pub ports : arity_of h a ≡ functor.arity
    pub read : atom_at h r a ≡ record { label = label_of r.names functor.label; links = links_from r.name a 0 functor.arity }

  pub atom_is : (a : ℕ) → IsAtom h a → AtomIs a
  atom_is a s =
      let u = some_is (h.atoms a) s in
      let x = u.0 in
      let q : h.atoms a ≡ Some x = u.1 in
      let f : functor_of h a ≡ Some x.functor = ap (option_map (λ y. y.functor)) q in
      record { functor = x.functor; is = f; ports = v.sound.shaped.ports a x.functor f; read = ap (atom_by r a) q }

  arity_same : (a b : ℕ) → IsAtom h a → functor_of h b ≡ functor_of h a → arity_of h b ≡ arity_of h a
  arity_same a b s e = let u = atom_is a s in v.sound.shaped.ports b u.functor (e ∙ u.is) ∙ sym u.ports

  pub links_length : (a : ℕ) → IsAtom h a → length (atom_at h r a).links ≡ arity_of h a
  links_length a s = let u = atom_is a s in ap (λ z. length z.links) u.read ∙ length_numbered r.name a 0 u.functor.arity ∙ sym u.ports

  renames_atom : (f : ℕ → ℕ) (a b : ℕ) → IsAtom h a → IsAtom h b → functor_of h b ≡ functor_of h a → ((i : ℕ) → i < arity_of h a → f (r.name a i) ≡ r.name b i) → Renames f (piece a) (piece b)
  renames_atom f a b s t e k =
      let u = atom_is a s in
      let w = atom_is b t in
      let g : u.functor ≡ w.functor = same_Some u.functor w.functor (sym u.is ∙ sym e ∙ w.is) in
      let links : map f (links_from r.name a 0 u.functor.arity) ≡ links_from r.name b 0 w.functor.arity =
      mapped_numbered f r.name a b 0 u.functor.arity (λ i l m. k i (omega (arith, m, u.ports))) ∙ ap (λ z. links_from r.name b 0 z.arity) g in
      ap (λ z. (z.label, map f z.links)) u.read ∙ (λ i. (label_of r.names (g i).label, links i)) ∙ sym (ap labelled w.read)

  -- the links of atoms that match
  renamed_port : (f : ℕ → ℕ) (a b : ℕ) → Renames f (piece a) (piece b) → (i : ℕ) → i < arity_of h a → (r.name b i ≡ f (r.name a i)) × (i < arity_of h b)
  renamed_port f a b e i l =
      let g = get_map f (atom_at h r a).links i (r.name a i) (named_port h v r a i l) in
      let k : slice_get (atom_at h r b).links i ≡ Some (f (r.name a i)) = subst (λ ys. slice_get ys i ≡ Some (f (r.name a i))) (ap (λ z. z.1) e) g in
      port_named h v r b i (f (r.name a i)) k

  renamed_functor : IsNames r.names → ((a : ℕ) (g : Functor) → functor_of h a ≡ Some g → HasNames r.names (label_names g.label)) → (f : ℕ → ℕ) (a b : ℕ) → IsAtom h a → IsAtom h b → Renames f (piece a) (piece b) → functor_of h b ≡ functor_of h a
  renamed_functor is_names known f a b s t e =
      let u = atom_is a s in
      let w = atom_is b t in
      let same : label_of r.names u.functor.label ≡ label_of r.names w.functor.label = sym (ap (λ z. z.label) u.read) ∙ ap (λ z. z.0) e ∙ ap (λ z. z.label) w.read in
      let l : u.functor.label ≡ w.functor.label = labels_apart r.names u.functor.label w.functor.label is_names (both_names r.names u.functor.label w.functor.label (known a u.functor u.is) (known b w.functor w.is)) same in
      let n : u.functor.arity ≡ w.functor.arity = sym u.ports ∙ sym (links_length a s) ∙ sym (length_mapped f (atom_at h r a).links) ∙ ap (λ z. length z.1) e ∙ links_length b t ∙ w.ports in
      let g : u.functor ≡ w.functor = λ i. record { label = l i; arity = n i } in
      w.is ∙ ap Some (sym g) ∙ sym u.is

  module _ (naming : IsNaming h r.name) (p q : ℕ × ℕ) (P : WholePart h p) (Q : WholePart h q) where
    abbrev S : List ℕ
    S = atoms_of_part P

    abbrev T : List ℕ
    T = atoms_of_part Q

    in_p : (a : ℕ) → ReachedOnHeap (atom_map h) p a → In a S
    in_p = all_of_part h p S P.list.start P.list.shut

    in_q : (a : ℕ) → ReachedOnHeap (atom_map h) q a → In a T
    in_q = all_of_part h q T Q.list.start Q.list.shut

    atom_p : (a : ℕ) → In a S → IsAtom h a
    atom_p a k = each_in (IsAtom h) S a P.atoms k

    atom_q : (a : ℕ) → In a T → IsAtom h a
    atom_q a k = each_in (IsAtom h) T a Q.atoms k

    -- ---- from the heap

    module _ (s : SameOnHeap (atom_map h) p (atom_map h) q) where
      to_q : (a : ℕ) → In a S → In (s.to a) T
      to_q a k = in_q (s.to a) (s.into a (P.list.reached a k))

      arity_to : (a : ℕ) → In a S → arity_of h (s.to a) ≡ arity_of h a
      arity_to a k = arity_same a (s.to a) (atom_p a k) (s.functors a (P.list.reached a k))

      -- a link goes to that at the same port of the atom that its atom is taken to
      abbrev carried : List ℕ → ℕ → ℕ
      carried [] y = y
      carried (c ∷ cs) y = cond (places y (atom_at h r c).links == 0) (carried cs y) (r.name (s.to c) (index_of y (atom_at h r c).links))

      carried_is : (cs : List ℕ) (y : ℕ) → 1 ≤ weigh (times_at h r y) cs → (c : ℕ) × (i : ℕ) × In c cs × (i < arity_of h c) × (r.name c i ≡ y) × (carried cs y ≡ r.name (s.to c) i)
      carried_is [] y l = absurd (omega (arith, l))
      carried_is (c ∷ cs) y l = elim (cases_eq (places y (atom_at h r c).links) 0) [
        | inl e ↦ let u = carried_is cs y (omega (arith, l, e)) in (u.0, u.1, inr u.2, u.3, u.4, rw (eq-eqb (places y (atom_at h r c).links) 0 e) u.5)
        | inr d ↦
            let i = index_of y (atom_at h r c).links in
            let w = port_named h v r c i y (index_there (atom_at h r c).links y (omega (arith, d))) in
            (c, i, inl refl, w.1, w.0, rw (apart_test (places y (atom_at h r c).links) 0 d) refl)
      ]

      port_weighs : (cs : List ℕ) (a i : ℕ) → In a cs → i < arity_of h a → 1 ≤ weigh (times_at h r (r.name a i)) cs
      port_weighs [] a i k l = absurd k
      port_weighs (c ∷ cs) a i (inl e) l = omega (arith, some_place (atom_at h r c).links i (r.name a i) (subst (λ z. slice_get (atom_at h r z).links i ≡ Some (r.name a i)) (sym e) (named_port h v r a i l)))
        where
          some_place : (ys : List ℕ) (i y : ℕ) → slice_get ys i ≡ Some y → 1 ≤ places y ys
          some_place [] i y e = absurd (cc)
          some_place (z ∷ ys) zero y e = omega (arith, same_one y z (sym (same_Some z y e)))
          some_place (z ∷ ys) (suc i) y e = omega (arith, some_place ys i y e)
      port_weighs (c ∷ cs) a i (inr k) l = omega (arith, port_weighs cs a i k l)

      carried_port : (a i : ℕ) → In a S → i < arity_of h a → carried S (r.name a i) ≡ r.name (s.to a) i
      carried_port a i k l =
          let u = carried_is S (r.name a i) (port_weighs S a i k l) in
          elim (naming.apart a i u.0 u.1 l u.3 (sym u.4)) [
            | inl e ↦ u.5 ∙ (λ t. r.name (s.to (sym e.0 t)) (sym e.1 t))
            | inr e ↦ u.5 ∙ sym (naming.joined (s.to a) i (s.to u.0) u.1 ((s.joined a u.0 i u.1 (P.list.reached a k) (P.list.reached u.0 u.2)).0 e))
          ]

      carried_one : (y z : ℕ) → 1 ≤ weigh (times_at h r y) S → 1 ≤ weigh (times_at h r z) S → carried S y ≡ carried S z → y ≡ z
      carried_one y z l m e =
          let a = carried_is S y l in
          let b = carried_is S z m in
          let pa : a.1 < arity_of h (s.to a.0) = let w = arity_to a.0 a.2 in (let w' = a.3 in omega (arith, w, w')) in
          let pb : b.1 < arity_of h (s.to b.0) = let w = arity_to b.0 b.2 in (let w' = b.3 in omega (arith, w, w')) in
          elim (naming.apart (s.to a.0) a.1 (s.to b.0) b.1 pa pb (sym a.5 ∙ e ∙ b.5)) [
            | inl q ↦ sym a.4 ∙ (λ t. r.name (s.one_to_one a.0 b.0 (P.list.reached a.0 a.2) (P.list.reached b.0 b.2) q.0 t) (q.1 t)) ∙ b.4
            | inr q ↦ sym a.4 ∙ naming.joined a.0 a.1 b.0 b.1 ((s.joined a.0 b.0 a.1 b.1 (P.list.reached a.0 a.2) (P.list.reached b.0 b.2)).1 q) ∙ b.4
          ]

      occurs_some : (y : ℕ) → occurrences y (part_at r P).process ≢ 0 → 1 ≤ weigh (times_at h r y) S
      occurs_some y d = let w = occurs_beside h r v y P.list.first P.list.others in elim (cases_eq (weigh (times_at h r y) S) 0) [ inl e ↦ absurd (d (w ∙ e)) | inr n ↦ omega (arith, n) ]

      pub same_into : EqualParts (part_at r P) (part_at r Q)
      same_into = record {
        to = carried S;
        one_to_one = λ y z l m e. carried_one y z (occurs_some y l) (occurs_some z m) e;
        roots = carried_port p.0 p.1 P.list.start (port_within h p.0 p.1 _ P.link) ∙ ap (λ z. r.name z.0 z.1) s.root;
        atoms = subst (λ z. Shuffle (Renames (carried S)) z (atoms_at_top (part_at r Q).process)) (sym (pieces_are P.list.first P.list.others))
            (subst (Shuffle (Renames (carried S)) (map piece S)) (sym (pieces_are Q.list.first Q.list.others))
            (shuffle_mapped piece
            (matching s.to S T P.list.once Q.list.once to_q
            (λ x y k m e. s.one_to_one x y (P.list.reached x k) (P.list.reached y m) e)
            (λ y k. let u = s.onto y (Q.list.reached y k) in (u.0, in_p u.0 u.1, u.2)))
            (λ x y k e. subst (λ z. Renames (carried S) (piece x) (piece z)) e
            (renames_atom (carried S) x (s.to x) (atom_p x k) (atom_q (s.to x) (to_q x k)) (s.functors x (P.list.reached x k)) (λ i l. carried_port x i k l)))));
      }

    -- ---- from the calculus

    module _ (is_names : IsNames r.names) (known : (a : ℕ) (g : Functor) → functor_of h a ≡ Some g → HasNames r.names (label_names g.label)) (t : EqualParts (part_at r P) (part_at r Q)) where
      pairs : Shuffle (λ a b. Renames t.to (piece a) (piece b)) S T
      pairs = shuffle_unmapped piece S T t.atoms (pieces_are P.list.first P.list.others) (pieces_are Q.list.first Q.list.others)

      abbrev to_atom : ℕ → ℕ
      to_atom = matched pairs

      to_t : (a : ℕ) → In a S → In (to_atom a) T
      to_t = matched_in pairs

      -- the links of an atom are taken to those of the atom that it is taken to
      port_to : (a i : ℕ) → In a S → i < arity_of h a → (r.name (to_atom a) i ≡ t.to (r.name a i)) × (i < arity_of h (to_atom a))
      port_to a i k l = renamed_port t.to a (to_atom a) (matched_related pairs a k) i l

      functor_to : (a : ℕ) → In a S → functor_of h (to_atom a) ≡ functor_of h a
      functor_to a k = renamed_functor is_names known t.to a (to_atom a) (atom_p a k) (atom_q (to_atom a) (to_t a k)) (matched_related pairs a k)

      atoms_apart : (a b : ℕ) → In a S → In b S → to_atom a ≡ to_atom b → a ≡ b
      atoms_apart = matched_one pairs Q.list.once

      occurs_at : (a i : ℕ) → In a S → i < arity_of h a → occurrences (r.name a i) (part_at r P).process ≢ 0
      occurs_at a i k l z = let w = occurs_beside h r v (r.name a i) P.list.first P.list.others in let m = weighs_port S a i k l in omega (arith, w, z, m)
        where
          some_place : (ys : List ℕ) (i y : ℕ) → slice_get ys i ≡ Some y → 1 ≤ places y ys
          some_place [] i y e = absurd (cc)
          some_place (z ∷ ys) zero y e = omega (arith, same_one y z (sym (same_Some z y e)))
          some_place (z ∷ ys) (suc i) y e = omega (arith, some_place ys i y e)

          weighs_port : (cs : List ℕ) (a i : ℕ) → In a cs → i < arity_of h a → 1 ≤ weigh (times_at h r (r.name a i)) cs
          weighs_port [] a i k l = absurd k
          weighs_port (c ∷ cs) a i (inl e) l = omega (arith, some_place (atom_at h r c).links i (r.name a i) (subst (λ z. slice_get (atom_at h r z).links i ≡ Some (r.name a i)) (sym e) (named_port h v r a i l)))
          weighs_port (c ∷ cs) a i (inr k) l = omega (arith, weighs_port cs a i k l)

      joined_to : (a b i j : ℕ) → In a S → In b S → link_of h a i ≡ Some (b, j) → link_of h (to_atom a) i ≡ Some (to_atom b, j)
      joined_to a b i j k m e =
          let pa = port_to a i k (port_within h a i _ e) in
          let pb = port_to b j m (port_within h b j _ (v.sound.paired.back a i b j e)) in
          elim (naming.apart (to_atom a) i (to_atom b) j pa.1 pb.1 (pa.0 ∙ ap t.to (naming.joined a i b j e) ∙ sym pb.0)) [
            | inl s ↦ absurd (v.sound.paired.apart a i (e ∙ (λ x. Some (sym (atoms_apart a b k m s.0) x, sym s.1 x))))
            | inr s ↦ s
          ]

      joined_from : (a b i j : ℕ) → In a S → In b S → link_of h (to_atom a) i ≡ Some (to_atom b, j) → link_of h a i ≡ Some (b, j)
      joined_from a b i j k m e =
          let na = arity_same a (to_atom a) (atom_p a k) (functor_to a k) in
          let nb = arity_same b (to_atom b) (atom_p b m) (functor_to b m) in
          let la : i < arity_of h a = let l = port_within h (to_atom a) i _ e in omega (arith, l, na) in
          let lb : j < arity_of h b = let l = port_within h (to_atom b) j _ (v.sound.paired.back (to_atom a) i (to_atom b) j e) in omega (arith, l, nb) in
          let pa = port_to a i k la in
          let pb = port_to b j m lb in
          let same : r.name a i ≡ r.name b j = t.one_to_one (r.name a i) (r.name b j) (occurs_at a i k la) (occurs_at b j m lb) (sym pa.0 ∙ naming.joined (to_atom a) i (to_atom b) j e ∙ pb.0) in
          elim (naming.apart a i b j la lb same) [
            | inl s ↦ absurd (v.sound.paired.apart (to_atom a) i (e ∙ (λ x. Some (to_atom (sym s.0 x), sym s.1 x))))
            | inr s ↦ s
          ]

      root_to : ◌≡◌ {A = ℕ × ℕ} (to_atom p.0, p.1) q
      root_to =
          let w = port_to p.0 p.1 P.list.start (port_within h p.0 p.1 _ P.link) in
          elim (naming.apart (to_atom p.0) p.1 q.0 q.1 w.1 (port_within h q.0 q.1 _ Q.link) (w.0 ∙ t.roots)) [
            | inl s ↦ (λ x. (s.0 x, s.1 x))
            | inr s ↦ absurd (
                let e : ◌≡◌ {A = Option (ℕ × ℕ)} (Some (to_atom p.0, p.1)) (Some (Q.holder.0, Q.holder.1)) = sym (v.sound.paired.back (to_atom p.0) p.1 q.0 q.1 s) ∙ Q.link in
                Q.away (subst (λ c. In c T) (same_port e).0 (to_t p.0 P.list.start)))
          ]

      pub same_back : SameOnHeap (atom_map h) p (atom_map h) q
      same_back = record {
        to = to_atom;
        into = λ a w. Q.list.reached (to_atom a) (to_t a (in_p a w));
        onto = λ b w. let u = matched_onto pairs P.list.once b (in_q b w) in (u.0, P.list.reached u.0 u.1, u.2);
        one_to_one = λ a b w u e. atoms_apart a b (in_p a w) (in_p b u) e;
        functors = λ a w. functor_to a (in_p a w);
        joined = λ a b i j w u. (joined_to a b i j (in_p a w) (in_p b u), joined_from a b i j (in_p a w) (in_p b u));
        root = root_to;
      }
