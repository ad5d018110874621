-- Firings of one rule at one match of heaps that are one with other numbers.
use Rattle.std.proofs.Common.{◌≡◌, ◌⊎◌, ◌∙◌, ◌+◌, ◌<◌, ℕ, zero, suc, List, ◌++◌, length, map, Option, Some, None, IsSome, refl, sym, ap, subst, inl, inr, arith}
use Rattle.std.specs.Option.{option_map}
use Rattle.std.proofs.lemmas.Option.{same_Some}
use Rattle.lmn_base.specs.declared.functor.Functor.{Functor}
use Rattle.lmn_base.specs.Graphs.{Port}
use Rattle.lmn_base.specs.Lists.{In}
use Rattle.lmn_base.proofs.Lists.{get_there, join_maps, length_mapped, link_within, none_is_not}
use Rattle.lmn_store_heap.specs.Heap.{Distinct, Heap, HeapAtom, HeapMem, IsAtom, IsMem, IsMemInPlace, IsTopOrWithin, arity_of, atoms_in, functor_of, link_of, mems_in, partners_of, rules_in}
use Rattle.lmn_store_heap.specs.Lists.{without_all}
use Rattle.lmn_store_heap.specs.Sound.{Valid}
use Rattle.lmn_store_heap.proofs.Common.{atom_with_links, has_functor, listed_mem}
use Rattle.lmn_instr_code.specs.declared.instr.NewPort.{NewPort}
use Rattle.lmn_instr_code.specs.declared.instr.NewPort.TheVariants as new
use Rattle.lmn_solid_heads.specs.declared.items.HeadItem.{HeadItem}
use Rattle.lmn_solid_heads.specs.Embeddings.{Lies}
use Rattle.lmn_solid_heads.specs.Heads.{atoms_of, membranes_of}
use Rattle.lmn_congruence_splice.specs.Splice.{IsOneOf}
use Rattle.lmn_solid_bodies.specs.declared.items.BodyItem.{BodyItem}
use Rattle.lmn_solid_bodies.specs.Added.{added_atoms, added_mems, made_mems}
use Rattle.lmn_solid_bodies.specs.Fired.{images_of}
use Rattle.lmn_solid_bodies.specs.Items.{new_ports, port_at}
use Rattle.lmn_solid_bodies.specs.Made.{copies_of, made_of, new_atoms}
use Rattle.lmn_solid_bodies.specs.Names.{StandsPort}
use Rattle.lmn_solid_bodies.specs.RestCopies.{AreCopiesIn}
use Rattle.lmn_solid_bodies.specs.Rules.{NestedRule, closed_rests}
use Rattle.lmn_solid_bodies.specs.Running.{Registers, new_port}
use Rattle.lmn_solid_bodies.specs.Within.{FiresFlat, FiresWithin, HoldsRests, IsCopyIn, dropped_atoms, membrane_images, removed_mems}
use Rattle.lmn_verify_renaming.specs.Renamed.{Renaming, SameButRoom, renamed, renamed_atom, renamed_mem, renamed_port, with_room}
use Rattle.lmn_verify_renaming.proofs.Numbers.{in_back, one_to_one}
use Rattle.lmn_verify_renaming.proofs.Reading.{atom_there, mem_there}
use Rattle.lmn_verify_renaming.specs.FiringLaws.{FiringsAreRenamed, SameMatch}
use Rattle.lmn_verify_renaming.proofs.Agreeing.{Agree, At, added_atoms_there, added_mems_there, added_rules_there, agree, copied_agrees, long_atoms, long_mems}
use Rattle.lmn_verify_renaming.proofs.Aligned.{Aligned, aligned}
use Rattle.lmn_verify_renaming.proofs.Ends.{Raw}
use Rattle.lmn_verify_renaming.proofs.Fresh.{numbering_beside}
use Rattle.lmn_verify_renaming.proofs.Fusing.{numbers_alike}
use Rattle.lmn_verify_renaming.proofs.Matched.{dropped_there, left_there, mems_stay_there, removed_there, stays_there, taken_back, is_taken, taken_in}
use Rattle.lmn_verify_renaming.proofs.FiringReading.{functor_is, in_place, renamed_alike, rules_are}
use Rattle.lmn_verify_renaming.proofs.Standing as standing
use Rattle.lmn_verify_renaming.proofs.Twins.{Inner, Twin, copy_functor, copy_port, copy_there, ports_there, rest_functor, rest_port, twin}
use Rattle.lmn_verify_renaming.proofs.Walking.{one_part}

-- what a heap has stands in one with other numbers
atom_stays : (q : Renaming) (h k : Heap) → SameButRoom (renamed q h) k → (a : ℕ) → IsAtom h a → IsAtom k (q.atoms.to a)
atom_stays q h k alike a i = subst (λ (o : Option HeapAtom). IsSome o) (sym (alike.atoms (q.atoms.to a) ∙ atom_there q h a)) (by (h.atoms a) i)
  where
    by : (o : Option HeapAtom) → IsSome o → IsSome (option_map (renamed_atom q.atoms.to q.mems.to) o)
    by None i = absurd (cc i)
    by (Some x) i = refl

mem_stays : (q : Renaming) (h k : Heap) → SameButRoom (renamed q h) k → (m : ℕ) → IsMem h m → IsMem k (q.mems.to m)
mem_stays q h k alike m i = (let w = alike.mems (q.mems.to m) in subst (λ (o : Option HeapMem). IsSome o) (sym (w.2 ∙ ap (option_map (with_room w.0 w.1)) (mem_there q h m))) (by w.0 w.1 (h.mems m) i))
  where
    by : (x y : ℕ) (o : Option HeapMem) → IsSome o → IsSome (option_map (with_room x y) (option_map (renamed_mem q.atoms.to q.mems.to) o))
    by x y None i = absurd (cc i)
    by x y (Some z) i = refl

mem_of_place : (s : Heap) (m : ℕ) → IsMemInPlace s m → IsMem s m
mem_of_place s m i = by (s.mems m) i
  where
    by : (o : Option HeapMem) → IsTopOrWithin (option_map (λ x. x.place) o) → IsSome o
    by None i = absurd i
    by (Some x) i = refl

module _ (head : List HeadItem) (body : List BodyItem) (n : ℕ) (nested : NestedRule head body n) (h k : Heap) (vh : Valid h) (vk : Valid k) (m : ℕ) (stand : IsMemInPlace h m)
    (r s : Registers) (lies : Lies h head m r.head.images) (rests_h : HoldsRests h r head) (rests_k : HoldsRests k s head) (h' k' : Heap) (vh' : Valid h') (vk' : Valid k')
    (f : FiresFlat head body r h h') (g : FiresFlat head body s k k') where
  abbrev N : ℕ
  N = length (atoms_of head)

  abbrev K : ℕ
  K = length (membranes_of head)

  abbrev F : FiresWithin h f.name r head body (images_of r head ++ f.parts) h'
  F = f.fires

  abbrev G : FiresWithin k g.name s head body (images_of s head ++ g.parts) k'
  G = g.fires

  abbrev ts : List ℕ
  ts = images_of r head ++ f.parts

  abbrev ts' : List ℕ
  ts' = images_of s head ++ g.parts

  -- ---- by any other numbers with which the heaps are one

  module _ (q : Renaming) (alike : SameButRoom (renamed q h) k) (match : SameMatch q head body r s) where
    -- a copy of a part is one of the part with the other numbers
    other_copy : (e : ℕ × ℕ) → IsOneOf e (copies_of 0 body) → IsCopyIn k k' (renamed_port q.atoms.to (r.head.images.part e.1)) (s.copy e.0) (s.copied e.0)
    other_copy e i =
        let atoms = nested.atoms in
        let t = atoms.copied e i in
        subst (λ (x : Port). IsCopyIn k k' x (s.copy e.0) (s.copied e.0)) (match.parts e.1 t.0 t.1) (G.copies e i)

    copies_long : (e : ℕ × ℕ) → IsOneOf e (copies_of 0 body) → length (s.copied e.0) ≡ length (r.copied e.0)
    copies_long e i =
        let u = F.copies e i in
        let v = other_copy e i in
        v.long ∙ ap (λ zs. length zs) (one_part q h k alike (r.head.images.part e.1) u.atoms v.atoms u.part v.part) ∙ length_mapped q.atoms.to u.atoms ∙ sym u.long

    rests_left : (of : ℕ) → IsOneOf of (closed_rests body) → (s.left_atoms of ≡ map q.atoms.to (r.left_atoms of)) × (s.left_membranes of ≡ map q.mems.to (r.left_membranes of))
    rests_left of i = (let w = nested.of_closed of i in left_there q h k alike head body r s match rests_h rests_k of w.0 w.1 w.2)

    atoms_long : length (new_atoms r F.rests N 0 body) ≡ length (new_atoms s G.rests N 0 body)
    atoms_long = long_atoms r s F.rests G.rests N 0 body copies_long (λ of i. ap (λ zs. length zs) (rests_left of i).0 ∙ length_mapped q.atoms.to (r.left_atoms of)) F.rests_long G.rests_long

    mems_long : length (made_mems r F.rests (1 + K) body) ≡ length (made_mems s G.rests (1 + K) body)
    mems_long = long_mems r s F.rests G.rests (1 + K) body (λ of i. ap (λ zs. length zs) (rests_left of i).1 ∙ length_mapped q.mems.to (r.left_membranes of)) F.rests_long G.rests_long

  -- ---- by other numbers that take what is made to what is made

  module _ (p : Renaming) (alike : SameButRoom (renamed p h) k) (match : SameMatch p head body r s)
      (atoms_made : map p.atoms.to (new_atoms r F.rests N 0 body) ≡ new_atoms s G.rests N 0 body) (mems_made : map p.mems.to (made_mems r F.rests (1 + K) body) ≡ made_mems s G.rests (1 + K) body) where
    abbrev A : ℕ → ℕ
    A = p.atoms.to

    abbrev M : ℕ → ℕ
    M = p.mems.to

    agreed : Agree p r s F.rests G.rests N 0 (1 + K) body
    agreed = agree p r s F.rests G.rests N 0 K (1 + K) body atoms_made mems_made (copies_long p alike match) F.rests_long G.rests_long (rests_left p alike match)
        (λ j i. elim i [ inl e ↦ subst (At p r s) (sym e) (match.membranes 0 (omega arith)) | inr l ↦ (let a = l.0 in let b = l.1 in absurd (omega (arith, a, b))) ])
        (λ j w. (let e = w.1 in let l = w.2 in match.membranes j (omega (arith, e, l)))) (omega arith) nested.placed

    removed_out : (x : ℕ) → (In x (removed_mems r head) → ⊥) → In (M x) (removed_mems s head) → ⊥
    removed_out x o i = o (subst (λ z. In z (removed_mems r head)) (p.mems.there x)
        (in_back p.mems (M x) (removed_mems r head) (subst (In (M x)) (removed_there p h k alike head body r s match rests_h rests_k) i)))

    -- ---- lists

    stays : (x : ℕ) → without_all ts' (atoms_in k (M x)) ≡ map A (without_all ts (atoms_in h x))
    stays x = stays_there p h k alike head body r s match vh.sound.listed f.parts g.parts f.are g.are x

    mems_stay : (x : ℕ) → without_all (membrane_images s head) (mems_in k (M x)) ≡ map M (without_all (membrane_images r head) (mems_in h x))
    mems_stay x = mems_stay_there p h k alike head body r s match vh.sound.listed f.parts g.parts f.are g.are x

    atoms_alike : (x : ℕ) → IsMem h' x → atoms_in k' (M x) ≡ map A (atoms_in h' x)
    atoms_alike x i =
        let o = (standing.mem_stands h vh head body n m r nested lies stand rests_h h' vh' f x i).0 in
        let held = standing.hs h vh head body n m r nested lies stand rests_h h' vh' f in
        G.atoms (M x) (removed_out x o)
        ∙ join_maps A (without_all ts (atoms_in h x)) (added_atoms r F.rests (λ j. without_all ts (atoms_in h j)) N 0 body x) (stays x)
        (added_atoms_there p r s (λ j. without_all ts (atoms_in h j)) (λ j. without_all ts' (atoms_in k j)) (λ j. without_all (membrane_images r head) (mems_in h j)) stays F.rests G.rests N 0 (1 + K) body held.whole agreed x)
        ∙ sym (ap (map A) (F.atoms x o))

    mems_alike : (x : ℕ) → IsMem h' x → mems_in k' (M x) ≡ map M (mems_in h' x)
    mems_alike x i =
        let o = (standing.mem_stands h vh head body n m r nested lies stand rests_h h' vh' f x i).0 in
        let held = standing.hs h vh head body n m r nested lies stand rests_h h' vh' f in
        G.mems (M x) (removed_out x o)
        ∙ join_maps M (without_all (membrane_images r head) (mems_in h x)) (added_mems r F.rests (λ j. without_all (membrane_images r head) (mems_in h j)) (1 + K) body x) (mems_stay x)
        (added_mems_there p r s (λ j. without_all ts (atoms_in h j)) (λ j. without_all (membrane_images r head) (mems_in h j)) (λ j. without_all (membrane_images s head) (mems_in k j)) mems_stay F.rests G.rests N 0 (1 + K) body held.whole agreed x)
        ∙ sym (ap (map M) (F.mems x o))

    rules_alike : (x : ℕ) → IsMem h' x → rules_in k' (M x) ≡ rules_in h' x
    rules_alike x i =
        let o = (standing.mem_stands h vh head body n m r nested lies stand rests_h h' vh' f x i).0 in
        let added = added_rules_there p r s (rules_in h) (rules_in k) (rules_are p h k alike) F.rests G.rests N 0 (1 + K) body agreed x in
        G.rules (M x) (removed_out x o) ∙ (λ z. rules_are p h k alike x z ++ added z) ∙ sym (F.rules x o)

    -- ---- functors

    atom_of_h : (a : ℕ) → IsAtom h' a → standing.AtomStands h vh head body n m r nested lies stand rests_h h' vh' f a
    atom_of_h a i = standing.atom_stands h vh head body n m r nested lies stand rests_h h' vh' f a i

    twin_of : (y : ℕ) → In y (new_atoms r F.rests N 0 body) → Twin p h k h' k' r s (made_of r N body) (made_of s N body) (copies_of 0 body) (new_ports N 0 body) (closed_rests body) y
    twin_of y i = (let atoms = nested.atoms in twin p h k h' k' r s F.rests G.rests N 0 (1 + K) body atoms.made agreed match.integers F.rests_copied G.rests_copied y i)

    other_rest : (of : ℕ) (ys' : List ℕ) → s.left_atoms of ≡ map A (r.left_atoms of) → AreCopiesIn k k' (s.left_atoms of) ys' → AreCopiesIn k k' (map A (r.left_atoms of)) ys'
    other_rest of ys' e w = subst (λ zs. AreCopiesIn k k' zs ys') e w

    rest_once : (of : ℕ) → IsOneOf of (closed_rests body) → Distinct (r.left_atoms of)
    rest_once of i = (let held = standing.hs h vh head body n m r nested lies stand rests_h h' vh' f in let whole = held.whole of i in whole.once)

    new_functor : (y : ℕ) → In y (new_atoms r F.rests N 0 body) → functor_of k' (A y) ≡ functor_of h' y
    new_functor y i = elim (twin_of y i) [
      | inl (j, fu, e, u, v, w) ↦ G.made_functors (A y, fu) v ∙ sym (F.made_functors (y, fu) u)
      | inr (inl (d, part, link, u, v, e, w)) ↦
          copy_functor p h k alike vh h' k' (r.head.images.part part) (r.copy d) (s.copy d) (r.copied d) (s.copied d) (F.copies (d, part) u) (other_copy p alike match (d, part) u) e y v
      | inr (inr (of, u, v, w, j, ra, x, z)) ↦
          rest_functor p h k alike vh h' k' (r.left_atoms of) u.atoms v.atoms x (other_rest of v.atoms ra.left_atoms z) ra.atoms (rest_once of w) y j
    ]

    functors_alike : (a : ℕ) → IsAtom h' a → functor_of k' (A a) ≡ functor_of h' a
    functors_alike a i = elim (atom_of_h a i) [
      | inl (j, t, d) ↦ G.kept_functors (A a) (in_place p h k alike a j)
          (λ l. t (taken_in h head r f.parts f.are a (taken_back p h k alike head body r s match a (is_taken k head s g.parts g.are (A a) l))))
          (λ l. d (subst (λ z. In z (dropped_atoms r head)) (p.atoms.there a) (in_back p.atoms (A a) (dropped_atoms r head) (subst (In (A a)) (dropped_there p h k alike head body r s match rests_h rests_k) l))))
          ∙ functor_is p h k alike a ∙ sym (F.kept_functors a j t d)
      | inr j ↦ new_functor a j
    ]

    -- an atom and its twin have as many ports
    twin_arity : (a : ℕ) → IsAtom h' a → IsAtom k' (A a) × (arity_of k' (A a) ≡ arity_of h' a)
    twin_arity a i =
        let one = vh'.sound.shaped in
        let other = vk'.sound.shaped in
        let w = has_functor h' a i in
        let e = functors_alike a i ∙ w.1 in
        (with_functor (k'.atoms (A a)) e, other.ports (A a) w.0 e ∙ sym (one.ports a w.0 w.1))
      where
        with_functor : {fu : Functor} (o : Option HeapAtom) → option_map (λ (x : HeapAtom). x.functor) o ≡ Some fu → IsSome o
        with_functor None e = absurd (cc e)
        with_functor (Some y) e = refl

    -- ---- links

    raw_stands : (x : Port) → Raw h r head body f.parts x → StandsPort h' x
    raw_stands x (inl (i, b, t, d)) =
        let w = standing.kept_arity h vh head body n m r nested lies stand rests_h h' vh' f x.0 i t d in
        let settled = vh'.settled in
        (settled.atoms x.0 w.0, subst (λ z. x.1 < z) (sym w.1) b)
    raw_stands x (inr (e, i, same)) = subst (StandsPort h') same (standing.new_stands h vh head body n m r nested lies stand rests_h h' vh' f e i)

    new_there : (e : NewPort × ℕ) → IsOneOf e (new_ports N 0 body) → new_port s e.0 ≡ renamed_port A (new_port r e.0)
    new_there = ports_there p h k h' k' r s F.rests G.rests N 0 (1 + K) body agreed (λ e i.
        let u = F.copies e i in
        let v = other_copy p alike match e i in
        copy_there p h k alike vh h' k' (r.head.images.part e.1) (r.copy e.0) (s.copy e.0) (r.copied e.0) (s.copied e.0) u v (copied_same e i))
      where
        copied_same : (e : ℕ × ℕ) → IsOneOf e (copies_of 0 body) → s.copied e.0 ≡ map A (r.copied e.0)
        copied_same e i = copied_agrees p r s F.rests G.rests N 0 (1 + K) body agreed e i

    port_kind : (a i : ℕ) → IsAtom h' a → i < arity_of h' a → Raw h r head body f.parts (a, i) ⊎ Inner p h k alike vh h' k' a i
    port_kind a i is b = elim (atom_of_h a is) [
      | inl (j, t, d) ↦ (let w = standing.kept_arity h vh head body n m r nested lies stand rests_h h' vh' f a j t d in inl (inl (j, subst (λ z. i < z) w.1 b, t, d)))
      | inr j ↦ elim (twin_of a j) [
        | inl (x, fu, e, u, v, w) ↦ (
            let one = vh'.sound.shaped in
            let z = w i (subst (λ z. i < z) (one.ports a fu (F.made_functors (a, fu) u)) b) in
            inl (inr ((new.Atom (port_at x i), z.0), z.1, λ t. (e t, i))))
        | inr (inl (d, part, link, u, v, e, w)) ↦
            elim (copy_port p h k alike vh h' k' (r.head.images.part part) (r.copy d) (s.copy d) (r.copied d) (s.copied d) (F.copies (d, part) u) (other_copy p alike match (d, part) u) e a v i (below a i is b)) [
              | inl same ↦ inl (inr ((new.Copy d, link), w, sym same))
              | inr inner ↦ inr inner
            ]
        | inr (inr (of, u, v, w, l, ra, x, z)) ↦ inr (rest_port p h k alike vh h' k' (r.left_atoms of) u.atoms v.atoms x (other_rest of v.atoms ra.left_atoms z) ra.atoms (rest_once of w) a l i (below a i is b))
      ]
    ]
      where
        below : (a i : ℕ) → IsAtom h' a → i < arity_of h' a → (x : ℕ) → functor_of h' a ≡ functor_of h x → i < arity_of h x
        below a i is b x e =
            let one = vh.sound.shaped in
            let other = vh'.sound.shaped in
            let w = has_functor h' a is in
            subst (λ z. i < z) (other.ports a w.0 w.1 ∙ sym (one.ports x w.0 (sym e ∙ w.1))) b

    numbers_there : (x y : Port) → Raw h r head body f.parts x → Raw h r head body f.parts y → F.number x ≡ F.number y → G.number (renamed_port A x) ≡ G.number (renamed_port A y)
    numbers_there = numbers_alike head body n nested p h k vh alike m stand r s lies rests_h match h' k' f g new_there raw_stands

    other_stands : (a i : ℕ) → IsAtom h' a → i < arity_of h' a → StandsPort k' (A a, i)
    other_stands a i is b =
        let w = twin_arity a is in
        let settled = vk'.settled in
        (settled.atoms (A a) w.0, subst (λ z. i < z) (sym w.1) b)

    links_alike : (a i b j : ℕ) → link_of h' a i ≡ Some (b, j) → link_of k' (A a) i ≡ Some (A b, j)
    links_alike a i b j e =
        let one = vh'.sound.paired in
        let other = vk'.sound.paired in
        let back = one.back a i b j e in
        let la = link_within (partners_of (h'.atoms a)) i (b, j) e in
        let lb = link_within (partners_of (h'.atoms b)) j (a, i) back in
        let ia = atom_with_links (h'.atoms a) i la in
        let ib = atom_with_links (h'.atoms b) j lb in
        elim (port_kind a i ia la) [
          | inr (c, l, x, y) ↦ y ∙ (let same : ◌≡◌ {A = Port} (c, l) (b, j) = same_Some (c, l) (b, j) (sym x ∙ e) in λ z. Some (A (same z).0, (same z).1))
          | inl raw_a ↦ elim (port_kind b j ib lb) [
            | inr (c, l, x, y) ↦ other.back (A b) j (A a) i (y ∙ (let same : ◌≡◌ {A = Port} (c, l) (a, i) = same_Some (c, l) (a, i) (sym x ∙ back) in λ z. Some (A (same z).0, (same z).1)))
            | inl raw_b ↦ both (a, i) (b, j) e raw_a raw_b (raw_stands (a, i) raw_a) (other_stands a i ia la) (other_stands b j ib lb)
          ]
        ]
      where
        both : (x y : Port) → link_of h' x.0 x.1 ≡ Some y → Raw h r head body f.parts x → Raw h r head body f.parts y → StandsPort h' x → StandsPort k' (renamed_port A x) → StandsPort k' (renamed_port A y)
            → link_of k' (A x.0) x.1 ≡ Some (renamed_port A y)
        both x y e raw_x raw_y sx kx ky =
            let named = F.named in
            let named' = G.named in
            let w = named.partner x sx in
            let same : w.0 ≡ y = same_Some w.0 y (sym w.2 ∙ e) in
            let number : F.number x ≡ F.number y = sym w.4 ∙ ap F.number same in
            elim (named'.only (renamed_port A x) (renamed_port A y) kx ky (numbers_there x y raw_x raw_y number)) [
              | inl q ↦ absurd (w.3 (same ∙ (λ z. (one_to_one p.atoms y.0 x.0 (ap (λ (u : Port). u.0) (sym q)) z, (sym q z).1))))
              | inr l ↦ l
            ]

    firing_aligned : Aligned p h' k'
    firing_aligned = record {
      root = g.root ∙ alike.root ∙ ap M (sym f.root);
      atoms = atoms_alike;
      mems = mems_alike;
      rules = rules_alike;
      functors = functors_alike;
      links = links_alike;
    }

-- a flat rule that fires at one match of two heaps that are one with other numbers leaves heaps that are so
pub firings_are_renamed : FiringsAreRenamed
firings_are_renamed head body n nested q h k vh vk alike m stand r s lies rests_h rests_k match h' k' vh' vk' uh' uk' f g =
    let F = f.fires in
    let G = g.fires in
    let N = length (atoms_of head) in
    let K = 1 + length (membranes_of head) in
    let wa = numbering_beside (IsAtom h) q.atoms (new_atoms r F.rests N 0 body) (new_atoms s G.rests N 0 body) F.new_once G.new_once
    (atoms_long head body n nested h k vh vk m stand r s lies rests_h rests_k h' k' vh' vk' f g q alike match)
    (λ a i j. none_is_not (h.atoms a) (F.new_fresh a j) i) (λ a i j. none_is_not (k.atoms (q.atoms.to a)) (G.new_fresh (q.atoms.to a) j) (atom_stays q h k alike a i)) in
    let wm = numbering_beside (IsMem h) q.mems (made_mems r F.rests K body) (made_mems s G.rests K body) F.made_once G.made_once
    (mems_long head body n nested h k vh vk m stand r s lies rests_h rests_k h' k' vh' vk' f g q alike match)
    (λ a i j. none_is_not (h.mems a) (F.made_fresh a j) i) (λ a i j. none_is_not (k.mems (q.mems.to a)) (G.made_fresh (q.mems.to a) j) (mem_stays q h k alike a i)) in
    let p : Renaming = record { atoms = wa.0; mems = wm.0 } in
    let alike_p : SameButRoom (renamed p h) k = subst (λ x. SameButRoom x k) (renamed_alike q p h vh.sound wa.1 wm.1) alike in
    let sound = vh.sound in
    let listed = sound.listed in
    let match_p : SameMatch p head body r s = record {
      atoms = λ j l. match.atoms j l ∙ sym (wa.1 (r.head.images.atom j) (image_atom j l));
      membranes = λ j l. match.membranes j l ∙ sym (wm.1 (r.head.images.membrane j) (image_mem j l));
      parts = λ j t w. match.parts j t w ∙ (λ z. (sym (wa.1 (r.head.images.part j).0 (standing.part_port h vh head body n m r nested lies stand rests_h h' vh' f j t w).0) z, (r.head.images.part j).1));
      integers = match.integers;
    } in
    (p, aligned p h' k' vh' vk' uh' uk' (firing_aligned head body n nested h k vh vk m stand r s lies rests_h rests_k h' k' vh' vk' f g p alike_p match_p wa.2 wm.2))
  where
    with_functor : {fu : Functor} (o : Option HeapAtom) → option_map (λ (x : HeapAtom). x.functor) o ≡ Some fu → IsSome o
    with_functor None e = absurd (cc e)
    with_functor (Some y) e = refl

    image_atom : (j : ℕ) → j < length (atoms_of head) → IsAtom h (r.head.images.atom j)
    image_atom j l = (let w = get_there (atoms_of head) j l in with_functor (h.atoms (r.head.images.atom j)) (lies.functors j w.0 w.1))

    image_mem : (j : ℕ) → j < 1 + length (membranes_of head) → IsMem h (r.head.images.membrane j)
    image_mem zero l = subst (IsMem h) (sym lies.here) (mem_of_place h m stand)
    image_mem (suc j) l =
        let sound = vh.sound in
        let w = get_there (membranes_of head) j (omega (arith, l)) in
        listed_mem h sound.listed (r.head.images.membrane w.0.inside) (r.head.images.membrane (suc j)) (lies.membranes_placed (suc j) w.0 (j, refl, w.1))
