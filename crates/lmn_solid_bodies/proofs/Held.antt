-- What a firing asks of what its head takes and of the rests that it drops, in a heap where the head lies.
use Rattle.std.proofs.Common.{ℕ, ◌+◌, ◌<◌, ◌≡◌, ◌≢◌, true, false, List, [], ◌∷◌, ◌++◌, length, Option, Some, None, IsSome, refl, sym, ap, subst, ◌∙◌, inl, inr, arith}
use Rattle.std.specs.Option.{option_map}
use Rattle.std.specs.Prelude.{slice_get}
use Rattle.lmn_store_heap.specs.Heap as heap
use Rattle.lmn_store_heap.specs.Heap.{Heap, HeapMem, Distinct, IsMem, IsMemInPlace, atoms_in, mems_in}
use Rattle.lmn_store_heap.specs.Lists.{without_all}
use Rattle.lmn_store_heap.specs.Sound.{Valid}
use Rattle.lmn_store_heap.proofs.ListLemmas.{in_left, in_right, in_withouts}
use Rattle.lmn_store_heap.proofs.Common.{in_map as mapped}
use Rattle.lmn_solid_heads.specs.declared.items.HeadItem.{HeadItem}
use Rattle.lmn_solid_heads.specs.Heads.{HeadMembrane, atoms_of, membranes_of}
use Rattle.lmn_solid_heads.specs.Embeddings.{Lies, HasMembrane, index_of}
use Rattle.lmn_congruence_splice.specs.Splice.{IsOneOf}
use Rattle.lmn_solid_bodies.specs.declared.items.BodyItem.{BodyItem}
use Rattle.lmn_solid_bodies.specs.declared.items.BodyItem.TheVariants.{Atom, Connector, Copy, Bound, Membrane, Rest, Rule, Rules}
use Rattle.lmn_solid_bodies.specs.Running.{Registers}
use Rattle.lmn_solid_bodies.specs.Names.{Names}
use Rattle.lmn_solid_bodies.specs.Added.{moved_mems}
use Rattle.lmn_solid_bodies.specs.Fired.{images_of}
use Rattle.lmn_solid_bodies.specs.RestCopies.{rest_membranes}
use Rattle.lmn_ground_parts.specs.Rests.{IsContent}
use Rattle.lmn_solid_bodies.specs.Rules.{NestedRule, PartAtoms, rests, closed_rests}
use Rattle.lmn_solid_bodies.specs.Within.{membrane_images, dropped_atoms, dropped_mems, removed_mems, IsTakenAtom, HoldsRests}
use Rattle.lmn_solid_bodies.proofs.AddedLemmas.{AreWholeRests}
use Rattle.lmn_solid_bodies.proofs.Below.{preorder, below_home, removed_is, is_removed}
use Rattle.lmn_solid_bodies.proofs.Committing.{in_withouts_of}
use Rattle.lmn_solid_bodies.proofs.Firing.{RestsHold, rising_below, heap_in_of, of_heap_in}
use Rattle.lmn_solid_bodies.proofs.HeadPorts.{of_map}
use Rattle.lmn_congruence_splice.specs.Classes.{rising}
use Rattle.lmn_congruence_splice.proofs.EndLemmas.{in_rising}
use Rattle.lmn_solid_bodies.proofs.RestsMade.{IsClosed}
use Rattle.lmn_solid_bodies.proofs.Dropping as dropping
use Rattle.lmn_base.specs.Graphs.{Port}
use Rattle.lmn_base.specs.Lists.{In}
use Rattle.lmn_base.proofs.Lists.{in_either, get_below}

-- a membrane of a head with a closed context
abbrev pub HasClosed : List HeadItem → ℕ → Type 0
HasClosed head k = (b : HeadMembrane) × HasMembrane head k b × (b.has_closed_context ≡ true)

-- a membrane of the heap that holds such a rest, or a part of it
abbrev pub HoldsRest : Registers → List HeadItem → ℕ → Type 0
HoldsRest r head q = (k : ℕ) × HasClosed head k × In q (rest_membranes r k)

-- What is asked.
--   rests                        atoms of rests stand in place, and no link leaves what is dropped
--   home_mem, removed_*          the rule's membrane is there; so are the removed ones, which are below it
--   dms_*                        dropped membranes are different, and none is one of the head
--   holds_*                      what stands in membranes that hold rests and isn't taken is dropped, and they are removed
--   *_holds                      what is dropped stands in such a membrane, and in no other
--   moved_out                    none of them is one whose content moves
--   whole, closed                rests that are copied are all that is left, and no link leaves them
pub record Held (h : Heap) (valid : Valid h) (head : List HeadItem) (body : List BodyItem) (m : ℕ) (r : Registers) (ps : List ℕ) : Type 0 where
  pub rests : RestsHold h r body (images_of r head ++ ps) (dropped_atoms r head)
  pub home_mem : IsMem h m
  pub removed_mem : (x : ℕ) → In x (removed_mems r head) → IsMem h x
  pub removed_later : (x : ℕ) → In x (removed_mems r head) → preorder h valid m < preorder h valid x
  pub dms_once : Distinct (dropped_mems r head)
  pub dms_apart : (x : ℕ) → In x (dropped_mems r head) → In x (membrane_images r head) → ⊥
  pub holds_removed : (q : ℕ) → HoldsRest r head q → In q (removed_mems r head)
  pub holds_atoms : (q a : ℕ) → HoldsRest r head q → In a (atoms_in h q) → (In a (images_of r head ++ ps) → ⊥) → In a (dropped_atoms r head)
  pub holds_mems : (q x : ℕ) → HoldsRest r head q → In x (mems_in h q) → (In x (membrane_images r head) → ⊥) → In x (dropped_mems r head)
  pub atom_holds : (a q : ℕ) → In a (dropped_atoms r head) → In a (atoms_in h q) → HoldsRest r head q
  pub mem_holds : (x q : ℕ) → In x (dropped_mems r head) → In x (mems_in h q) → HoldsRest r head q
  pub dm_holds : (x : ℕ) → In x (dropped_mems r head) → HoldsRest r head x
  pub dm_parent : (x : ℕ) → In x (dropped_mems r head) → (p : ℕ) × In x (mems_in h p)
  pub open_holds : (k : ℕ) (b : HeadMembrane) → HasMembrane head k b → b.has_closed_context ≡ false → HoldsRest r head (r.head.images.membrane k) → ⊥
  pub moved_out : (q : ℕ) → In q (moved_mems r body) → HoldsRest r head q → ⊥
  pub closed_holds : (of q : ℕ) → IsOneOf of (closed_rests body) → In q (rest_membranes r of) → HoldsRest r head q
  pub closed_image : (k : ℕ) → HasClosed head k → HoldsRest r head (r.head.images.membrane k)
  pub whole : AreWholeRests r (λ k. without_all (images_of r head ++ ps) (atoms_in h k)) (λ k. without_all (membrane_images r head) (mems_in h k)) body
  pub closed : (of : ℕ) → IsOneOf of (closed_rests body) → IsClosed h (r.left_atoms of)
  pub order : (of : ℕ) → IsOneOf of (closed_rests body) → (k j : ℕ) → In k (r.left_membranes of) → In j (mems_in h k) → index_of k (r.left_membranes of) < index_of j (r.left_membranes of)
  pub lms_once : (of : ℕ) → IsOneOf of (closed_rests body) → Distinct (r.left_membranes of)
  pub contents : (k : ℕ) → HasClosed head k → (t : Heap) → ((q : ℕ) → atoms_in t q ≡ without_all (images_of r head ++ ps) (atoms_in h q)) → ((q : ℕ) → mems_in t q ≡ without_all (membrane_images r head) (mems_in h q))
      → IsContent t (r.head.images.membrane k) (r.left_atoms k) (r.left_membranes k)
  pub rests_apart : (i j : ℕ) → HasClosed head i → HasClosed head j → i ≢ j → (q : ℕ) → In q (rest_membranes r i) → In q (rest_membranes r j) → ⊥
  pub atom_round : (k : ℕ) → HasClosed head k → (a x : ℕ) → In a (r.left_atoms k) → In a (atoms_in h x) → In x (rest_membranes r k)
  pub mem_round : (k : ℕ) → HasClosed head k → (y x : ℕ) → In y (r.left_membranes k) → In y (mems_in h x) → In x (rest_membranes r k)
  pub closed_of : (of : ℕ) → IsOneOf of (closed_rests body) → HasClosed head of
  pub closed_in : (k : ℕ) → HasClosed head k → In (r.head.images.membrane k) (membrane_images r head)
  pub rest_out : (i j : ℕ) → HasClosed head i → HasClosed head j → In (r.head.images.membrane j) (r.left_membranes i) → ⊥

-- a membrane that moves is one of an open context of the body
of_moved : (r : Registers) (body : List BodyItem) (q : ℕ) → In q (moved_mems r body) → (k : ℕ) × IsOneOf k (rests body) × (r.head.images.membrane k ≡ q)
of_moved r [] q i = absurd i
of_moved r (Atom functor links inside ∷ xs) q i = of_moved r xs q i
of_moved r (Connector left right ∷ xs) q i = of_moved r xs q i
of_moved r (Copy part link inside ∷ xs) q i = of_moved r xs q i
of_moved r (Bound integer link inside ∷ xs) q i = of_moved r xs q i
of_moved r (Membrane inside ∷ xs) q i = of_moved r xs q i
of_moved r (Rest of false inside ∷ xs) q (inl e) = (of, inl refl, e)
of_moved r (Rest of false inside ∷ xs) q (inr i) = let w = of_moved r xs q i in (w.0, inr w.1, w.2)
of_moved r (Rest of true inside ∷ xs) q i = of_moved r xs q i
of_moved r (Rule rule inside ∷ xs) q i = of_moved r xs q i
of_moved r (Rules of inside ∷ xs) q i = of_moved r xs q i

module _ (h : Heap) (valid : Valid h) (head : List HeadItem) (body : List BodyItem) (n m : ℕ) (r : Registers) (nested : NestedRule head body n) (em : Lies h head m r.head.images) (stand : IsMemInPlace h m)
    (rests_h : HoldsRests h r head) (ps : List ℕ) (parts : PartAtoms h head r.head.images ps) (c : Port → ℕ) (names : Names h c) where
  abbrev ks : List ℕ
  ks = membrane_images r head

  abbrev Closed : ℕ → Type 0
  Closed k = dropping.IsClosedMembrane h valid head m r em nested.head_nests nested.inside rests_h k

  closed_of : (k : ℕ) → HasClosed head k → Closed k
  closed_of k w = record { membrane = w.0; has = w.1; closed = w.2 }

  of_closed : (k : ℕ) → Closed k → HasClosed head k
  of_closed k w = (w.membrane, w.has, w.closed)

  holds : (q : ℕ) → dropping.Holds h valid head m r em nested.head_nests nested.inside rests_h q → HoldsRest r head q
  holds q w = (w.0, of_closed w.0 w.1, w.2)

  image_in : (k : ℕ) → HasClosed head k → In (r.head.images.membrane k) ks
  image_in k w = subst (λ z. In (r.head.images.membrane z) ks) (sym w.1.1) (is_removed head r w.1.0 (get_below (membranes_of head) w.1.0 w.0 w.1.2))

  image_mem : (x : ℕ) → In x ks → IsMem h x
  image_mem x i =
      let w = removed_is head r x i in
      by (h.mems x) ((valid.sound.listed.mems (r.head.images.membrane w.1.inside) x).0 (subst (λ z. In z (mems_in h (r.head.images.membrane w.1.inside))) w.3 (em.membranes_placed w.0 w.1 w.2)))
    where
      by : {p : ℕ} (o : Option HeapMem) → option_map (λ y. y.place) o ≡ Some (heap.within p) → IsSome o
      by None e = absurd (cc)
      by (Some y) e = refl

  -- what is taken
  is_taken : (a : ℕ) → In a (images_of r head ++ ps) → IsTakenAtom h head r.head.images a
  is_taken a i = elim (in_either a (images_of r head) ps i) [
    | inl j ↦ (let w = of_map r.head.images.atom a (rising 0 (length (atoms_of head))) (heap_in_of a (images_of r head) j) in inl (w.0, plain w.0 (rising_below (length (atoms_of head)) 0 w.0 w.1).1, w.2))
    | inr j ↦ (let w = parts.are a j in inr (w.0, w.1, w.2, w.3))
  ]
    where
      plain : (x : ℕ) → x < 0 + length (atoms_of head) → x < length (atoms_of head)
      plain x l = omega (arith, l)

  taken_in : (a : ℕ) → IsTakenAtom h head r.head.images a → In a (images_of r head ++ ps)
  taken_in a (inl (n, l, e)) = in_left a (images_of r head) ps (subst (λ z. In z (images_of r head)) e
      (mapped r.head.images.atom n (rising 0 (length (atoms_of head))) (of_heap_in n (rising 0 (length (atoms_of head))) (in_rising (length (atoms_of head)) 0 n (omega arith) (omega (arith, l))))))
  taken_in a (inr (g, t, w, v)) = in_right a (images_of r head) ps (parts.all g t a w v)

  -- an open context of the body isn't of a membrane that holds a rest
  open_out : (k : ℕ) (b : HeadMembrane) → HasMembrane head k b → b.has_closed_context ≡ false → HoldsRest r head (r.head.images.membrane k) → ⊥
  open_out k b w f (j, cj, l) = elim l [
    | inl e ↦ differ b cj.0 f cj.2 (same_membrane w cj.1 (sym e))
    | inr t ↦ dropping.head_apart h valid head m r em nested.head_nests nested.inside rests_h (r.head.images.membrane k)
        (subst (λ z. In (r.head.images.membrane z) ks) (sym w.1) (is_removed head r w.0 (get_below (membranes_of head) w.0 b w.2))) j (closed_of j cj) t
  ]
    where
      differ : (b d : HeadMembrane) → b.has_closed_context ≡ false → d.has_closed_context ≡ true → b ≡ d → ⊥
      differ b d e f g = let z : false ≡ true = sym e ∙ ap (λ (x : HeadMembrane). x.has_closed_context) g ∙ f in absurd (cc)

      same_membrane : {b d : HeadMembrane} → HasMembrane head k b → HasMembrane head j d → r.head.images.membrane k ≡ r.head.images.membrane j → b ≡ d
      same_membrane {b} {d} u v e =
          let number : u.0 ≡ v.0 = em.membranes_differ u.0 v.0 (get_below (membranes_of head) u.0 b u.2) (get_below (membranes_of head) v.0 d v.2) (ap r.head.images.membrane (sym u.1) ∙ e ∙ ap r.head.images.membrane v.1) in
          let z : ◌≡◌ {A = Option HeadMembrane} (Some b) (Some d) = sym u.2 ∙ ap (slice_get (membranes_of head)) number ∙ v.2 in
          one b d z
        where
          one : (x y : HeadMembrane) → ◌≡◌ {A = Option HeadMembrane} (Some x) (Some y) → x ≡ y
          one x y e = (cc)

  open_apart : (k : ℕ) → IsOneOf k (rests body) → HoldsRest r head (r.head.images.membrane k) → ⊥
  open_apart k i w = let v = nested.of_open k i in open_out k v.0 v.1 v.2 w

  removed_some : (x : ℕ) → In x (removed_mems r head) → IsMem h x
  removed_some x i = elim (in_either x ks (dropped_mems r head) i) [ inl j ↦ image_mem x j | inr j ↦ dropping.drop_mem h valid head m r em nested.head_nests nested.inside rests_h x j ]

  pub held : Held h valid head body m r ps
  held = record {
    rests = record {
      placed = λ of i a j. dropping.atom_placed h valid head m r em nested.head_nests nested.inside rests_h of (closed_of of (nested.of_closed of i)) a j;
      drop_placed = dropping.drop_placed h valid head m r em nested.head_nests nested.inside rests_h;
      drop_apart = λ a i t. dropping.drop_apart h valid head m r em nested.head_nests nested.inside rests_h a i (is_taken a t);
      drop_stays = dropping.drop_stays h valid head m r em nested.head_nests nested.inside rests_h;
      drop_once = dropping.drop_once h valid head m r em nested.head_nests nested.inside rests_h;
    };
    home_mem = home_some (h.mems m) stand;
    removed_mem = removed_some;
    removed_later = λ x i. elim (in_either x ks (dropped_mems r head) i) [
      | inl j ↦ below_home h valid head m r em nested.head_nests x j
      | inr j ↦ dropping.drop_mem_below h valid head m r em nested.head_nests nested.inside rests_h x j
    ];
    dms_once = dropping.drop_mems_once h valid head m r em nested.head_nests nested.inside rests_h;
    dms_apart = dropping.drop_mem_apart h valid head m r em nested.head_nests nested.inside rests_h;
    holds_removed = λ q w. elim w.2 [
      | inl e ↦ in_left q ks (dropped_mems r head) (subst (λ z. In z ks) e (image_in w.0 w.1))
      | inr j ↦ in_right q ks (dropped_mems r head) (dropping.mem_dropped h valid head m r em nested.head_nests nested.inside rests_h w.0 (closed_of w.0 w.1) q j)
    ];
    holds_atoms = λ q a w i o. dropping.atom_dropped h valid head m r em nested.head_nests nested.inside rests_h w.0 (closed_of w.0 w.1) a
        (dropping.of_round h valid head m r em nested.head_nests nested.inside rests_h w.0 (closed_of w.0 w.1) q a w.2 i (λ t. o (taken_in a t)));
    holds_mems = λ q x w i o. dropping.mem_dropped h valid head m r em nested.head_nests nested.inside rests_h w.0 (closed_of w.0 w.1) x
        (dropping.child h valid head m r em nested.head_nests nested.inside rests_h w.0 (closed_of w.0 w.1) q x w.2 i o);
    atom_holds = λ a q i j. holds q (dropping.home_of_dropped h valid head m r em nested.head_nests nested.inside rests_h a q i j);
    mem_holds = λ x q i j.
        let w = dropping.dropped_mem h valid head m r em nested.head_nests nested.inside rests_h x i in
        let v = dropping.round h valid head m r em nested.head_nests nested.inside rests_h w.0 w.1 x w.2 in
        (w.0, of_closed w.0 w.1, subst (λ z. In z (rest_membranes r w.0)) (dropping.one_parent h valid head m r em nested.head_nests nested.inside rests_h v.0 q x v.2 j) v.1);
    dm_holds = λ x i. let w = dropping.dropped_mem h valid head m r em nested.head_nests nested.inside rests_h x i in (w.0, of_closed w.0 w.1, inr w.2);
    dm_parent = λ x i.
        let w = dropping.dropped_mem h valid head m r em nested.head_nests nested.inside rests_h x i in
        let v = dropping.round h valid head m r em nested.head_nests nested.inside rests_h w.0 w.1 x w.2 in
        (v.0, v.2);
    open_holds = open_out;
    moved_out = λ q i w. let v = of_moved r body q i in open_apart v.0 v.1 (subst (HoldsRest r head) (sym v.2) w);
    closed_holds = λ of q i j. (of, nested.of_closed of i, j);
    closed_image = λ k w. (k, w, inl refl);
    whole = λ of i.
        let ck = closed_of of (nested.of_closed of i) in
        record {
          into = λ k a j l. let w = in_withouts_of (images_of r head ++ ps) (atoms_in h k) a (valid.sound.listed.atoms_once k) l in
              dropping.of_round h valid head m r em nested.head_nests nested.inside rests_h of ck k a j w.0 (λ t. w.1 (taken_in a t));
          onto = λ a j. let w = dropping.atom_round h valid head m r em nested.head_nests nested.inside rests_h of ck a j in
              (w.0, w.1, in_withouts (images_of r head ++ ps) (atoms_in h w.0) a w.2 (λ t. dropping.atom_apart h valid head m r em nested.head_nests nested.inside rests_h of ck a j (is_taken a t)));
          into_mems = λ k x j l. let w = in_withouts_of ks (mems_in h k) x (valid.sound.listed.mems_once k) l in
              dropping.child h valid head m r em nested.head_nests nested.inside rests_h of ck k x j w.0 w.1;
          once = dropping.atoms_once h valid head m r em nested.head_nests nested.inside rests_h of ck;
          outside = dropping.head_apart h valid head m r em nested.head_nests nested.inside rests_h (r.head.images.membrane of) (image_in of (nested.of_closed of i)) of ck;
        };
    order = λ of i k j l q. dropping.order h valid head m r em nested.head_nests nested.inside rests_h of (closed_of of (nested.of_closed of i)) k j l q;
    lms_once = λ of i. dropping.lms_once h valid head m r em nested.head_nests nested.inside rests_h of (closed_of of (nested.of_closed of i));
    contents = λ k w t a b. dropping.content_at h valid head m r em nested.head_nests nested.inside rests_h k (closed_of k w) t (images_of r head ++ ps) is_taken taken_in a b;
    rests_apart = λ i j p q d z f g. dropping.rounds_apart h valid head m r em nested.head_nests nested.inside rests_h i j (closed_of i p) (closed_of j q) d z f g;
    atom_round = λ k w a x i j. let v = dropping.atom_round h valid head m r em nested.head_nests nested.inside rests_h k (closed_of k w) a i in subst (λ z. In z (rest_membranes r k)) (dropping.one_home h valid head m r em nested.head_nests nested.inside rests_h v.0 x a v.2 j) v.1;
    mem_round = λ k w y x i j. let v = dropping.round h valid head m r em nested.head_nests nested.inside rests_h k (closed_of k w) y i in subst (λ z. In z (rest_membranes r k)) (dropping.one_parent h valid head m r em nested.head_nests nested.inside rests_h v.0 x y v.2 j) v.1;
    closed_of = nested.of_closed;
    closed_in = image_in;
    rest_out = λ i j p q l. dropping.head_apart h valid head m r em nested.head_nests nested.inside rests_h (r.head.images.membrane j) (image_in j q) i (closed_of i p) l;
    closed = λ of i. dropping.is_closed h valid head m r em nested.head_nests nested.inside rests_h of (closed_of of (nested.of_closed of i)) c names;
  }
    where
      home_some : (o : Option HeapMem) → heap.IsTopOrWithin (option_map (λ x. x.place) o) → IsSome o
      home_some None i = absurd i
      home_some (Some x) i = refl

-- No link leaves the rests that a body copies.
pub rests_closed : (h : Heap) (valid : Valid h) (head : List HeadItem) (body : List BodyItem) (n m : ℕ) (r : Registers) → NestedRule head body n → Lies h head m r.head.images → HoldsRests h r head → (c : Port → ℕ) → Names h c
    → (of : ℕ) → IsOneOf of (closed_rests body) → IsClosed h (r.left_atoms of)
rests_closed h valid head body n m r nested em rests_h c names of i =
    let w = nested.of_closed of i in
    dropping.is_closed h valid head m r em nested.head_nests nested.inside rests_h of (record { membrane = w.0; has = w.1; closed = w.2 }) c names

-- The membranes of a rest that a body copies are dropped.
pub rest_dropped : (h : Heap) (valid : Valid h) (head : List HeadItem) (body : List BodyItem) (n m : ℕ) (r : Registers) (nested : NestedRule head body n) (em : Lies h head m r.head.images) (stand : IsMemInPlace h m) (rests_h : HoldsRests h r head)
    (ps : List ℕ) (parts : PartAtoms h head r.head.images ps) (c : Port → ℕ) (names : Names h c) → (of : ℕ) → IsOneOf of (closed_rests body) → (x : ℕ) → In x (r.left_membranes of) → In x (dropped_mems r head)
rest_dropped h valid head body n m r nested em stand rests_h ps parts c names of i x j =
    let w = nested.of_closed of i in
    dropping.mem_dropped h valid head m r em nested.head_nests nested.inside rests_h of (record { membrane = w.0; has = w.1; closed = w.2 }) x j

-- The membrane of an open context of a body holds no rest that is copied.
pub open_from_rest : (h : Heap) (valid : Valid h) (head : List HeadItem) (body : List BodyItem) (n m : ℕ) (r : Registers) (nested : NestedRule head body n) (em : Lies h head m r.head.images) (stand : IsMemInPlace h m) (rests_h : HoldsRests h r head)
    (ps : List ℕ) (parts : PartAtoms h head r.head.images ps) (c : Port → ℕ) (names : Names h c) → (of k : ℕ) → IsOneOf of (rests body) → IsOneOf k (closed_rests body) → In (r.head.images.membrane of) (rest_membranes r k) → ⊥
open_from_rest h valid head body n m r nested em stand rests_h ps parts c names of k i j l =
    let hs = held h valid head body n m r nested em stand rests_h ps parts c names in
    let w = nested.of_open of i in
    hs.open_holds of w.0 w.1 w.2 (k, nested.of_closed k j, l)
