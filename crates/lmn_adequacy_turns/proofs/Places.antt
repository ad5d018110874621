-- Where the images of a head stand.
use Rattle.std.proofs.Common.{ℕ, zero, suc, ◌≡◌, ◌+◌, ◌≤◌, List, [], ◌∷◌, ◌++◌, length, Option, Some, None, IsSome, refl, sym, ap, subst, ◌∙◌, inl, inr, arith}
use Rattle.std.specs.Option.{option_map}
use Rattle.lmn_base.specs.declared.guard.Cond.{Cond}
use Rattle.lmn_store_heap.specs.Heap.{Heap, HeapMem, Place, within, IsMem, atoms_in, mems_in, mem_place_of}
use Rattle.lmn_store_heap.specs.Lists.{Distinct}
use Rattle.lmn_store_heap.specs.Sound.{Forest, bare, mem, flat, Forms, Valid}
use Rattle.lmn_store_heap.proofs.Groves.{list_inside, child_inside}
use Rattle.lmn_solid_heads.specs.declared.items.HeadItem.{HeadItem}
use Rattle.lmn_solid_heads.specs.declared.items.HeadItem.TheVariants.{Atom, Typed, Membrane}
use Rattle.lmn_solid_heads.specs.Heads.{HeadAtom, HeadTyped, HeadMembrane, atoms_of, membranes_of}
use Rattle.lmn_solid_heads.specs.Embeddings.{Embeds, HasAtom, HasTyped, HasMembrane}
use Rattle.lmn_compile_head.specs.Heads.{EachInside}
use Rattle.lmn_congruence_splice.specs.Classes.{rising}
use Rattle.lmn_solid_bodies.specs.Fired.{images_of}
use Rattle.lmn_solid_bodies.specs.Rules.{HeadNests, PartAtoms}
use Rattle.lmn_solid_bodies.specs.Running.{Registers}
use Rattle.lmn_solid_bodies.specs.Within.{membrane_images, dropped_mems, removed_mems, HoldsRests}
use Rattle.lmn_solid_bodies.specs.declared.items.BodyItem.{BodyItem}
use Rattle.lmn_solid_bodies.proofs.Dropping.{keep_in}
use Rattle.lmn_solid_bodies.proofs.Held.{Held}
use Rattle.lmn_store_heap.proofs.ListLemmas.{in_left}
use Rattle.lmn_ground_parts.specs.Rests.{keep}
use Rattle.lmn_ground_parts.specs.Walks.{is_in}
use Rattle.std.specs.Prelude.{not}
use Rattle.lmn_solid_bodies.proofs.Below.{removed_is, is_removed}
use Rattle.lmn_solid_bodies.proofs.Firing.{rising_below, heap_in_of}
use Rattle.lmn_solid_bodies.proofs.HeadPorts.{of_map}
use Rattle.lmn_adequacy_heaps.proofs.Forests.{home_in, one_home}
use Rattle.lmn_adequacy_turns.proofs.Turns.{Placing}
use Rattle.lmn_base.proofs.Lists.{get_below, get_there as get_some, in_either}
use Rattle.lmn_base.specs.Lists.{In}

-- ---- items stand in membranes of the head

atom_inside : (i : ℕ) (items : List HeadItem) → EachInside i items → (n : ℕ) (a : HeadAtom) → HasAtom items n a → a.inside ≤ i + length (membranes_of items)
atom_inside i [] e n a h = absurd (cc)
atom_inside i (Atom f ls k ∷ xs) e zero a h = let same : (record { functor = f; links = ls; inside = k }) ≡ a = cc in let z : k ≡ a.inside = ap (λ (b : HeadAtom). b.inside) same in omega (arith, e.0, z)
atom_inside i (Atom f ls k ∷ xs) e (suc n) a h = atom_inside i xs e.1 n a h
atom_inside i (Typed x kd l k ∷ xs) e n a h = atom_inside i xs e.1 n a h
atom_inside i (Membrane k c cl rc ∷ xs) e n a h = let u = atom_inside (i + 1) xs e.1 n a h in omega (arith, u)

typed_inside : (i : ℕ) (items : List HeadItem) → EachInside i items → (n : ℕ) (a : HeadTyped) → HasTyped items n a → a.inside ≤ i + length (membranes_of items)
typed_inside i [] e n a h = absurd (cc)
typed_inside i (Atom f ls k ∷ xs) e n a h = typed_inside i xs e.1 n a h
typed_inside i (Typed x kd l k ∷ xs) e zero a h = let same : (record { name = x; kind = kd; link = l; inside = k }) ≡ a = cc in let z : k ≡ a.inside = ap (λ (b : HeadTyped). b.inside) same in omega (arith, e.0, z)
typed_inside i (Typed x kd l k ∷ xs) e (suc n) a h = typed_inside i xs e.1 n a h
typed_inside i (Membrane k c cl rc ∷ xs) e n a h = let u = typed_inside (i + 1) xs e.1 n a h in omega (arith, u)

module _ (h : Heap) (v : Valid h) (items : List HeadItem) (guard : List Cond) (m : ℕ) (mi : Forest) (s : Registers) (em : Embeds h items guard m s.head.images) (nests : HeadNests items) (inside : EachInside 0 items)
    (there : IsMem h m) (formed : Forms h mi (mems_in h m)) (apart : Distinct (m ∷ flat mi)) where
  abbrev K : ℕ
  K = length (membranes_of items)

  abbrev ks : List ℕ
  ks = membrane_images s items

  -- a membrane of the head lies in the rule's membrane or is an image
  register_in : (j : ℕ) → j ≤ K → In (s.head.images.membrane j) (m ∷ membrane_images s items)
  register_in zero l = inl (sym em.lies.here)
  register_in (suc j) l = inr (is_removed items s j (omega (arith, l)))

  mem_at : (x y : ℕ) → In x (mems_in h y) → mem_place_of h x ≡ Some (within y)
  mem_at x y i = (v.sound.listed.mems y x).0 i

  one_parent : (x y z : ℕ) → In x (mems_in h y) → In x (mems_in h z) → y ≡ z
  one_parent x y z i j = by (sym (mem_at x y i) ∙ mem_at x z j)
    where
      by : ◌≡◌ {A = Option Place} (Some (within y)) (Some (within z)) → y ≡ z
      by e = cc

  listed_mem : (x y : ℕ) → In x (mems_in h y) → IsMem h x
  listed_mem x y i = by (h.mems x) (mem_at x y i)
    where
      by : (o : Option HeapMem) → option_map (λ z. z.place) o ≡ Some (within y) → IsSome o
      by None e = absurd (cc)
      by (Some z) e = refl

  below : (fuel k : ℕ) (b : HeadMembrane) → k ≤ fuel → HasMembrane items k b → In (s.head.images.membrane k) (flat mi)
  below zero k b l w = absurd (let e = w.1 in omega (arith, e, l))
  below (suc fuel) k b l w = by (λ j c u q. below fuel j c u q) b.inside refl
    where
      placed : In (s.head.images.membrane k) (mems_in h (s.head.images.membrane b.inside))
      placed = em.lies.membranes_placed k b w

      deeper : (j : ℕ) → b.inside ≡ suc j → (c : HeadMembrane) × HasMembrane items (suc j) c
      deeper j e =
          let n = nests k b w in
          let i = w.1 in
          let c = get_some (membranes_of items) j (let q = get_below (membranes_of items) w.0 b w.2 in omega (arith, n, e, i, q)) in
          (c.0, (j, refl, c.1))

      by : ((j : ℕ) (c : HeadMembrane) → j ≤ fuel → HasMembrane items j c → In (s.head.images.membrane j) (flat mi)) → (j : ℕ) → b.inside ≡ j → In (s.head.images.membrane k) (flat mi)
      by outer zero e = list_inside h mi (mems_in h m) formed (s.head.images.membrane k) (subst (λ z. In (s.head.images.membrane k) (mems_in h z)) (ap s.head.images.membrane e ∙ em.lies.here) placed)
      by outer (suc j) e =
          let c = deeper j e in
          let n = nests k b w in
          child_inside h mi (mems_in h m) formed (s.head.images.membrane (suc j)) (s.head.images.membrane k) (outer (suc j) c.0 (omega (arith, n, e, l)) c.1)
          (subst (λ z. In (s.head.images.membrane k) (mems_in h (s.head.images.membrane z))) e placed)

  images_home : (x y : ℕ) → In x ks → In x (mems_in h y) → In y (m ∷ membrane_images s items)
  images_home x y i j =
      let w = removed_is items s x i in
      let placed = subst (λ z. In z (mems_in h (s.head.images.membrane w.1.inside))) w.3 (em.lies.membranes_placed w.0 w.1 w.2) in
      let n = nests w.0 w.1 w.2 in
      let q = get_below (membranes_of items) w.2.0 w.1 w.2.2 in
      let e = w.2.1 in
      subst (λ z. In z (m ∷ membrane_images s items)) (one_parent x (s.head.images.membrane w.1.inside) y placed j) (register_in w.1.inside (omega (arith, n, q, e)))

  module _ (parts : List ℕ) (are : PartAtoms h items s.head.images parts) where
    taken_home : (a y : ℕ) → In a (images_of s items ++ parts) → In a (atoms_in h y) → In y (m ∷ membrane_images s items)
    taken_home a y i j = elim (in_either a (images_of s items) parts i) [
      | inl p ↦ (let w = of_map s.head.images.atom a (rising 0 (length (atoms_of items))) (heap_in_of a (images_of s items) p) in
          let l = rising_below (length (atoms_of items)) 0 w.0 w.1 in
          let b = get_some (atoms_of items) w.0 (let u = l.1 in omega (arith, u)) in
          let placed = subst (λ z. In z (atoms_in h (s.head.images.membrane b.0.inside))) w.2 (em.lies.atoms_placed w.0 b.0 b.1) in
          subst (λ z. In z (m ∷ membrane_images s items)) (one_home h v (s.head.images.membrane b.0.inside) y a placed j) (register_in b.0.inside (let u = atom_inside 0 items inside w.0 b.0 b.1 in omega (arith, u))))
      | inr p ↦ (let w = are.are a p in
          let at = (em.lies.parts w.0 w.1 w.2).whole.at_home a w.3 in
          let same : s.head.images.membrane w.1.inside ≡ y = by (sym at ∙ home_in h v y a j) in
          subst (λ z. In z (m ∷ membrane_images s items)) same (register_in w.1.inside (let u = typed_inside 0 items inside w.0 w.1 w.2 in omega (arith, u))))
    ]
      where
        by : {x : ℕ} → ◌≡◌ {A = Option ℕ} (Some x) (Some y) → x ≡ y
        by e = cc

    -- where a rule fires
    pub placing : (made : List ℕ) → ((x : ℕ) → In x made → h.mems x ≡ None) → Distinct made → Placing h s (membrane_images s items) made (images_of s items ++ parts) m mi
    placing made fresh once = record {
      at_home = em.lies.here;
      there = there;
      formed = formed;
      apart = apart;
      images_there = λ x i. let w = removed_is items s x i in subst (IsMem h) w.3 (listed_mem (s.head.images.membrane w.0) (s.head.images.membrane w.1.inside) (em.lies.membranes_placed w.0 w.1 w.2));
      images_below = λ x i. let w = removed_is items s x i in subst (λ z. In z (flat mi)) w.3 (below w.0 w.0 w.1 (omega arith) w.2);
      images_home = images_home;
      fresh = fresh;
      once = once;
      taken_home = taken_home;
    }

    -- the same of all membranes that the rule removes
    module _ (body : List BodyItem) (hs : Held h v items body m s parts) (rests : HoldsRests h s items) (made : List ℕ) (p : Placing h s (membrane_images s items) made (images_of s items ++ parts) m mi) where
      widen : (y : ℕ) → In y (m ∷ membrane_images s items) → In y (m ∷ removed_mems s items)
      widen y (inl e) = inl e
      widen y (inr i) = inr (in_left y (membrane_images s items) (dropped_mems s items) i)

      -- what stands in the membranes of a forest stands below those round it
      forest_below : (f : Forest) (ms : List ℕ) → Forms h f ms → ((z : ℕ) → In z ms → In z (flat mi)) → (x : ℕ) → In x (flat f) → In x (flat mi)
      forest_below bare ms F o x i = absurd i
      forest_below (mem k i f) ms F o x (inl e) = subst (λ z. In z (flat mi)) e (o k (subst (In k) (sym F.1) (inl refl)))
      forest_below (mem k i f) ms F o x (inr j) = elim (in_either x (flat i) (flat f) j) [
        | inl l ↦ forest_below i (mems_in h k) F.2 (λ z w. child_inside h mi (mems_in h m) formed k z (o k (subst (In k) (sym F.1) (inl refl))) w) x l
        | inr l ↦ forest_below f F.0 F.3 (λ z w. o z (subst (In z) (sym F.1) (inr w))) x l
      ]

      dropped_below : (x : ℕ) → In x (dropped_mems s items) → In x (flat mi)
      dropped_below x i =
          let w = hs.dm_holds x i in
          let home = p.images_below (s.head.images.membrane w.0) (hs.closed_in w.0 w.1) in
          elim w.2 [
            | inl e ↦ subst (λ z. In z (flat mi)) e home
            | inr j ↦ (let rest = (rests w.0 w.1.0 w.1.1 w.1.2).2 in
                forest_below rest.forest (keep (λ x. not (is_in (membrane_images s items) x)) (mems_in h (s.head.images.membrane w.0))) rest.forms
                (λ z l. child_inside h mi (mems_in h m) formed (s.head.images.membrane w.0) z home (keep_in (λ x. not (is_in (membrane_images s items) x)) (mems_in h (s.head.images.membrane w.0)) z l).0) x (subst (In x) rest.preorder j))
          ]

      pub placing_removed : Placing h s (removed_mems s items) made (images_of s items ++ parts) m mi
      placing_removed = record {
        at_home = p.at_home;
        there = p.there;
        formed = p.formed;
        apart = p.apart;
        images_there = hs.removed_mem;
        images_below = λ x i. elim (in_either x (membrane_images s items) (dropped_mems s items) i) [ inl j ↦ p.images_below x j | inr j ↦ dropped_below x j ];
        images_home = λ x y i j. elim (in_either x (membrane_images s items) (dropped_mems s items) i) [ inl l ↦ widen y (p.images_home x y l j) | inr l ↦ inr (hs.holds_removed y (hs.mem_holds x y l j)) ];
        fresh = p.fresh;
        once = p.once;
        taken_home = λ a y i j. widen y (p.taken_home a y i j);
      }
