-- The items of the heap before and after the code of a body, membrane by membrane.
use Rattle.std.proofs.Common.{ℕ, ◌+◌, ◌≡◌, true, false, List, [], ◌∷◌, ◌++◌, length, Option, Some, None, IsSome, refl, sym, ap, subst, ◌∙◌, inl, inr, arith, length-append}
use Rattle.std.specs.Option.{option_map, option_and_then}
use Rattle.lmn_store_heap.specs.Heap as heap
use Rattle.lmn_store_heap.specs.Heap.{Heap, HeapMem, top, within, waiting, gone, mem_place_of, atoms_in, atoms_by, mems_in, mems_by, rules_in, rules_by, IsMem, IsInPlace, IsMemInPlace, Distinct, finished, mem_unless_gone}
use Rattle.lmn_store_heap.specs.Sound.{Sound, Listed, flat, Valid, item_count_in, Forest, IsTree}
use Rattle.lmn_store_heap.proofs.Depths.{both_distinct}
use Rattle.lmn_store_heap.proofs.ListLemmas.{in_left, in_right, in_withouts, withouts_nothing}
use Rattle.lmn_store_heap.proofs.Trees as trees
use Rattle.lmn_solid_heads.specs.declared.items.HeadItem.{HeadItem}
use Rattle.lmn_solid_heads.specs.Heads.{HeadMembrane, atoms_of, membranes_of}
use Rattle.lmn_solid_heads.specs.Embeddings.{Lies, HasMembrane}
use Rattle.lmn_congruence_splice.specs.Splice as splice
use Rattle.lmn_ground_parts.specs.Rests.{IsContent, keep, atoms_of_all}
use Rattle.lmn_solid_bodies.specs.declared.items.BodyItem.{BodyItem}
use Rattle.lmn_solid_bodies.specs.Code.{making, drops}
use Rattle.lmn_solid_bodies.specs.Running.{Registers, DoesAll}
use Rattle.lmn_solid_bodies.specs.Names.{Names}
use Rattle.lmn_solid_bodies.specs.Made.{copies_of}
use Rattle.lmn_solid_bodies.specs.Added.{added_atoms, added_mems, added_rules, moved_mems, made_mems}
use Rattle.lmn_solid_bodies.specs.RestCopies.{RestCopies}
use Rattle.lmn_solid_bodies.specs.Rules.{AtomRule, Goes, Exists, Nests, PartAtoms, closed_rests}
use Rattle.lmn_solid_bodies.specs.Fired.{images_of}
use Rattle.lmn_solid_bodies.specs.Within.{membrane_images, dropped_atoms, dropped_mems, removed_mems, FiresWithin}
use Rattle.lmn_solid_bodies.proofs.Below.{removed_is}
use Rattle.lmn_solid_bodies.proofs.Committing.{in_withouts_of}
use Rattle.lmn_solid_bodies.proofs.Finishing.{within_of}
use Rattle.lmn_solid_bodies.proofs.Firing.{ns_once, taken_in_place}
use Rattle.lmn_solid_bodies.proofs.Growing.{some_there}
use Rattle.lmn_solid_bodies.proofs.HeapTies.{SameItems}
use Rattle.lmn_solid_bodies.proofs.Held.{Held, HoldsRest}
use Rattle.lmn_solid_bodies.proofs.Removing.{Shrunk}
use Rattle.lmn_solid_bodies.proofs.MakingParts.{GrownBy, moved_within, same_atoms_added, same_rules_added}
use Rattle.lmn_solid_bodies.proofs.Preparing.{AllPrepared}
use Rattle.lmn_solid_bodies.proofs.Nesting as nesting
use Rattle.lmn_ground.proofs.GroundLaws.{part_atoms}
use Rattle.lmn_machine.specs.Costs.{IsSize, AddsItems, InAll}
use Rattle.lmn_machine_laws.proofs.Totals.{total_is_sum, total_same, total_none, total_ones, total_plus, total_part, total_three, total_five, total_withouts, all_out}
use Rattle.lmn_machine_laws.proofs.Sums.{IsAllLeft, making_adds, moved_once}
use Rattle.lmn_base.specs.Graphs.{Port}
use Rattle.lmn_store_heap.specs.Lists.{without_all}
use Rattle.lmn_base.proofs.Lists.{weigh as total, weigh_append, in_either}
use Rattle.lmn_store_heap.proofs.Common.{decide_in, all_more as without_both}
use Rattle.lmn_store_heap.proofs.Listing.{listed_mem as listed_some, distinct_without_all}
use Rattle.lmn_base.specs.Lists.{In}
use Rattle.lmn_ground_parts.proofs.Common.{keep_all as all_kept}
use Rattle.lmn_solid_bodies.proofs.Common.{mems_moved as moved_from}
use Rattle.lmn_solid_heads.proofs.Common.{without_none}

-- what `finish` leaves of a membrane

freed : (y : HeapMem) (p : heap.Place) → y.place ≡ p → (p ≡ gone → ⊥) → mem_unless_gone y ≡ Some y
freed y top e d = rw e refl
freed y (within k) e d = rw e refl
freed y waiting e d = rw e refl
freed y gone e d = absurd (d refl)

stays : (o : Option HeapMem) → (option_map (λ y. y.place) o ≡ Some gone → ⊥) → option_and_then mem_unless_gone o ≡ o
stays None d = refl
stays (Some y) d = freed y y.place refl (λ e. d (ap (λ z. Some z) e))

was_some : (o : Option HeapMem) → IsSome (option_and_then mem_unless_gone o) → IsSome o
was_some None i = absurd (cc)
was_some (Some y) i = refl

was_in : (x : ℕ) (o : Option HeapMem) → In x (mems_by (option_and_then mem_unless_gone o)) → In x (mems_by o)
was_in x None i = absurd i
was_in x (Some y) i = by y.place refl
  where
    gone_none : y.place ≡ gone → mem_unless_gone y ≡ None
    gone_none e = rw e refl

    by : (p : heap.Place) → y.place ≡ p → In x (mems_by (Some y))
    by top e = subst (λ o. In x (mems_by o)) (freed y top e (λ q. absurd (cc))) i
    by (within k) e = subst (λ o. In x (mems_by o)) (freed y (within k) e (λ q. absurd (cc))) i
    by waiting e = subst (λ o. In x (mems_by o)) (freed y waiting e (λ q. absurd (cc))) i
    by gone e = absurd (subst (λ o. In x (mems_by o)) (gone_none e) i)

-- the atoms of some membranes are as many as their lists have
all_atoms : (s : Heap) (ms : List ℕ) (list : ℕ → List ℕ) → ((x : ℕ) → atoms_in s x ≡ list x) → length (atoms_of_all s ms) ≡ total (λ x. length (list x)) ms
all_atoms s [] list same = refl
all_atoms s (m ∷ ms) list same = length-append (atoms_in s m) (atoms_of_all s ms) ∙ (λ t. length (same m t) + all_atoms s ms list same t)

-- what stands in a membrane, at every depth, is as many atoms as the lists of the membranes have
content_total : (s : Heap) (m : ℕ) (atoms membranes : List ℕ) (list : ℕ → List ℕ) → IsContent s m atoms membranes → ((x : ℕ) → atoms_in s x ≡ list x) → total (λ x. length (list x)) (m ∷ membranes) ≡ length atoms
content_total s m atoms membranes list content same =
    sym (ap (λ zs. length zs) content.in_order ∙ length-append (keep (λ _. true) (atoms_in s m)) (atoms_of_all s membranes)
    ∙ (λ t. ap (λ zs. length zs) (all_kept (atoms_in s m) ∙ same m) t + all_atoms s membranes list same t))

module _ (h : Heap) (valid : Valid h) (head : List HeadItem) (body : List BodyItem) (n m : ℕ) (r : Registers) (qs : RestCopies) (rule : AtomRule head body n)
    (em : Lies h head m r.head.images) (stand : IsMemInPlace h m) (c : Port → ℕ) (names : Names h c)
    (goes : Goes r (removed_mems r head) (Exists h r qs head body) body)
    (contexts : (k : ℕ) (b : HeadMembrane) → HasMembrane head k b → b.has_context ≡ true → b.has_closed_context ≡ false → In (r.head.images.membrane k) (moved_mems r body))
    (ps : List ℕ) (parts : PartAtoms h head r.head.images ps) (hs : Held h valid head body m r ps)
    (s : Heap) (pr : AllPrepared c h s r qs (length (atoms_of head)) (1 + length (membranes_of head)) body)
    (nests : Nests r m [] (1 + length (membranes_of head)) body) (listed_s : Listed s)
    (t3 : Heap) (run : DoesAll r (making (length (atoms_of head)) (1 + length (membranes_of head)) 0 body) (nesting.t2 h valid head body n m r qs rule em stand c names goes contexts ps parts hs s pr nests listed_s) t3)
    (t4 : Heap) (drop_run : DoesAll r (drops 1 (membranes_of head)) t3 t4)
    (sound : Sound (nesting.v h valid head body n m r qs rule em stand c names goes contexts ps parts hs s pr nests listed_s t3 run t4 drop_run))
    (after : Valid (finished (nesting.v h valid head body n m r qs rule em stand c names goes contexts ps parts hs s pr nests listed_s t3 run t4 drop_run))) where
  abbrev N : ℕ
  N = length (atoms_of head)

  abbrev K : ℕ
  K = length (membranes_of head)

  abbrev t2 : Heap
  t2 = nesting.t2 h valid head body n m r qs rule em stand c names goes contexts ps parts hs s pr nests listed_s

  abbrev v : Heap
  v = nesting.v h valid head body n m r qs rule em stand c names goes contexts ps parts hs s pr nests listed_s t3 run t4 drop_run

  abbrev ks : List ℕ
  ks = membrane_images r head

  -- the atoms and the membranes that are dropped, and all membranes that are removed
  abbrev ds : List ℕ
  ds = dropped_atoms r head

  abbrev dms : List ℕ
  dms = dropped_mems r head

  abbrev gs : List ℕ
  gs = removed_mems r head

  abbrev nm : List ℕ
  nm = made_mems r qs (1 + K) body

  abbrev ns : List ℕ
  ns = images_of r head ++ ps

  -- all atoms that go
  abbrev outs : List ℕ
  outs = ns ++ ds

  abbrev left : ℕ → List ℕ
  left x = without_all ns (atoms_in h x)

  abbrev left_mems : ℕ → List ℕ
  left_mems x = without_all ks (mems_in h x)

  fires : FiresWithin h c r head body ns (finished v)
  fires = nesting.fires_within h valid head body n m r qs rule em stand c names goes contexts ps parts hs s pr nests listed_s t3 run t4 drop_run sound

  same : SameItems t4 v
  same = nesting.same h valid head body n m r qs rule em stand c names goes contexts ps parts hs s pr nests listed_s t3 run t4 drop_run

  dropped : Shrunk t3 t4 ds dms
  dropped = nesting.dsh h valid head body n m r qs rule em stand c names goes contexts ps parts hs s pr nests listed_s t3 run t4 drop_run

  grown : GrownBy r qs gs N (1 + K) 0 body t2 t3
  grown = nesting.gr h valid head body n m r qs rule em stand c names goes contexts ps parts hs s pr nests listed_s t3 run

  shrunk : Shrunk s t2 ns ks
  shrunk = nesting.sh h valid head body n m r qs rule em stand c names goes contexts ps parts hs s pr nests listed_s

  removed_empty : (x : ℕ) → In x gs → (atoms_in v x ≡ []) × (mems_in v x ≡ [])
  removed_empty = nesting.removed_empty h valid head body n m r qs rule em stand c names goes contexts ps parts hs s pr nests listed_s t3 run t4 drop_run

  -- which membranes there are

  was_there : (x : ℕ) → IsMem v x → IsMem s x
  was_there x i =
      let j : IsSome (t4.mems x) = subst (λ (f : ℕ → Option HeapMem). IsSome (f x)) same.mems i in
      some_there (t2.mems x) (s.mems x) (sym (shrunk.there x)) (some_there (t3.mems x) (t2.mems x) (sym (grown.there x)) (some_there (t4.mems x) (t3.mems x) (sym (dropped.there x)) j))

  is_there : (x : ℕ) → IsMem s x → IsMem v x
  is_there x i = subst (λ (f : ℕ → Option HeapMem). IsSome (f x)) (sym same.mems)
      (some_there (t3.mems x) (t4.mems x) (dropped.there x) (some_there (t2.mems x) (t3.mems x) (grown.there x) (some_there (s.mems x) (t2.mems x) (shrunk.there x) i)))

  made_apart : (x : ℕ) → In x nm → IsMem h x → ⊥
  made_apart x i is = let z : IsSome {T = HeapMem} None = subst (λ (o : Option HeapMem). IsSome o) (pr.mems.fresh x i) is in absurd (cc)

  -- what isn't removed stays
  stays_mem : (x : ℕ) → (In x gs → ⊥) → (finished v).mems x ≡ v.mems x
  stays_mem x o = stays (v.mems x) (λ e. o (nesting.gone_removed h valid head body n m r qs rule em stand c names goes contexts ps parts hs s pr nests listed_s t3 run t4 drop_run sound x e))

  kept_there : (x : ℕ) → IsMem s x → (In x gs → ⊥) → IsMem (finished v) x
  kept_there x i o = subst (λ (p : Option HeapMem). IsSome p) (sym (stays_mem x o)) (is_there x i)

  same_root : v.root ≡ h.root
  same_root = same.root ∙ dropped.same.root ∙ grown.same.root ∙ shrunk.same.root ∙ pr.mems.root

  -- What is removed stands in no membrane that stays, nor in one whose content moves.
  left_apart : (p x : ℕ) → (HoldsRest r head p → ⊥) → In x (left_mems p) → In x gs → ⊥
  left_apart p x o i k =
      let w = in_withouts_of ks (mems_in h p) x (valid.sound.listed.mems_once p) i in
      elim (in_either x ks dms k) [ inl j ↦ w.1 j | inr j ↦ o (hs.mem_holds x p j w.0) ]

  in_no_list : (p x : ℕ) → In x gs → In x (mems_in (finished v) p) → ⊥
  in_no_list p x k i = elim (decide_in p gs) [
    | inl q ↦ subst (In x) (removed_empty p q).1 (was_in x (v.mems p) i)
    | inr o ↦ elim (in_either x (left_mems p) (added_mems r qs left_mems (1 + K) body p) (subst (In x) (nesting.mems_v h valid head body n m r qs rule em stand c names goes contexts ps parts hs s pr nests listed_s t3 run t4 drop_run p o) (was_in x (v.mems p) i))) [
      | inl j ↦ left_apart p x (λ w. o (hs.holds_removed p w)) j k
      | inr j ↦ elim (moved_from r qs left left_mems (1 + K) body pr.free.long hs.whole p x j) [
        | inl w ↦ made_apart x w (hs.removed_mem x k)
        | inr w ↦ left_apart w.0 x (λ u. hs.moved_out w.0 w.1 u) w.2 k
      ]
    ]
  ]

  placed_in : (o : Option HeapMem) → IsSome (option_and_then (λ y. heap.home_by y.place) o) → (p : ℕ) × (option_map (λ y. y.place) o ≡ Some (within p))
  placed_in None i = absurd (cc)
  placed_in (Some y) i = by y.place refl
    where
      by : (p : heap.Place) → y.place ≡ p → (q : ℕ) × (Some y.place ≡ Some (within q))
      by top e = absurd (let z : IsSome (heap.home_by top) = subst (λ p. IsSome (heap.home_by p)) e i in cc)
      by (within q) e = (q, ap (λ p. Some p) e)
      by waiting e = absurd (let z : IsSome (heap.home_by waiting) = subst (λ p. IsSome (heap.home_by p)) e i in cc)
      by gone e = absurd (let z : IsSome (heap.home_by gone) = subst (λ p. IsSome (heap.home_by p)) e i in cc)

  -- what is removed stood in a membrane
  removed_placed : (x : ℕ) → In x gs → (p : ℕ) × (mem_place_of h x ≡ Some (within p))
  removed_placed x i = elim (in_either x ks dms i) [
    | inl j ↦ (let w = removed_is head r x j in
        let p = r.head.images.membrane w.1.inside in
        (p, (valid.sound.listed.mems p x).0 (subst (λ z. In z (mems_in h p)) w.3 (em.membranes_placed w.0 w.1 w.2))))
    | inr j ↦ (let w = hs.dm_parent x j in (w.0, (valid.sound.listed.mems w.0 x).0 w.1))
  ]

  removed_gone : (x : ℕ) → In x gs → IsMem (finished v) x → ⊥
  removed_gone x k i = elim (after.settled.mems x i) [
    | inl e ↦ (let p = removed_placed x k in
        let is_root : x ≡ h.root = (after.sound.listed.root x).0 e ∙ same_root in
        let at : mem_place_of h x ≡ Some top = (valid.sound.listed.root x).1 is_root in
        let z : Some (within p.0) ≡ Some top = sym p.1 ∙ at in absurd (cc))
    | inr j ↦ (let w = placed_in ((finished v).mems x) j in in_no_list w.0 x k ((after.sound.listed.mems w.0 x).1 w.1))
  ]

  gs_once : Distinct gs
  gs_once = both_distinct ks dms (nesting.ks_once h valid head body n m r qs rule em stand c names goes contexts ps parts hs s pr nests listed_s) hs.dms_once (λ x i j. hs.dms_apart x j i)

  -- nothing is dropped from a membrane that stays
  none_dropped : (x : ℕ) → (In x gs → ⊥) → (a : ℕ) → In a ds → In a (atoms_in t3 x) → ⊥
  none_dropped x o a i j =
      let p = within_of h a (hs.rests.drop_placed a i) in
      let in_h : In a (atoms_in h p.0) = (valid.sound.listed.atoms p.0 a).1 p.1 in
      let w = hs.atom_holds a p.0 i in_h in
      let still : In a (atoms_in t3 p.0) = subst (In a) (sym (nesting.held_atoms h valid head body n m r qs rule em stand c names goes contexts ps parts hs s pr nests listed_s t3 run p.0 w)) (in_withouts ns (atoms_in h p.0) a in_h (hs.rests.drop_apart a i)) in
      let one = (nesting.one_list h valid head body n m r qs rule em stand c names goes contexts ps parts hs s pr nests listed_s t3 run a i).2 in
      o (subst (λ z. In z gs) (one p.0 still ∙ sym (one x j)) (hs.holds_removed p.0 w))

  -- what a membrane that stays has after it
  atoms_after : (x : ℕ) → (In x gs → ⊥) → atoms_in (finished v) x ≡ left x ++ added_atoms r qs left N 0 body x
  atoms_after x o =
      ap atoms_by (stays_mem x o) ∙ ap (λ f. atoms_by (f x)) same.mems ∙ dropped.atoms x ∙ without_none ds (atoms_in t3 x) (none_dropped x o) ∙ grown.atoms x o
      ∙ (λ t. nesting.atoms_t2 h valid head body n m r qs rule em stand c names goes contexts ps parts hs s pr nests listed_s x t ++ same_atoms_added r qs left (atoms_in t2) N 0 body x (λ k i. nesting.atoms_t2 h valid head body n m r qs rule em stand c names goes contexts ps parts hs s pr nests listed_s k) t)

  rules_after : (x : ℕ) → (In x gs → ⊥) → rules_in (finished v) x ≡ rules_in h x ++ added_rules r qs (rules_in h) body x
  rules_after x o =
      ap rules_by (stays_mem x o) ∙ ap (λ f. rules_by (f x)) same.mems ∙ dropped.rules x ∙ grown.rules x o
      ∙ (λ t. nesting.rules_t2 h valid head body n m r qs rule em stand c names goes contexts ps parts hs s pr nests listed_s x t ++ same_rules_added r qs gs (Exists h r qs head body) (rules_in h) (rules_in t2) body x goes (λ k i. nesting.rules_t2 h valid head body n m r qs rule em stand c names goes contexts ps parts hs s pr nests listed_s k) t)

  -- The content of a rest that is copied is what is left in its membranes.
  all_left : (of : ℕ) → splice.IsOneOf of (closed_rests body) → IsAllLeft r left of
  all_left of i =
      let content = hs.contents of (hs.closed_of of i) t2 (nesting.atoms_t2 h valid head body n m r qs rule em stand c names goes contexts ps parts hs s pr nests listed_s) (nesting.mems_t2 h valid head body n m r qs rule em stand c names goes contexts ps parts hs s pr nests listed_s) in
      record { total = content_total t2 (r.head.images.membrane of) (r.left_atoms of) (r.left_membranes of) left content (nesting.atoms_t2 h valid head body n m r qs rule em stand c names goes contexts ps parts hs s pr nests listed_s); outside = content.outside }

  module _ (f' : Forest) (tree' : IsTree (finished v) f') where
    abbrev at : List ℕ
    at = flat f'

    here : (x : ℕ) → In x at → IsMem (finished v) x
    here x i = trees.is_mem (finished v) after.sound f' tree' x i

    here_kept : (x : ℕ) → In x at → In x gs → ⊥
    here_kept x i k = removed_gone x k (here x i)

    target : (x : ℕ) → (In x gs → ⊥) × Exists h r qs head body x → In x at
    target x w = tree'.all x (kept_there x (elim w.1 [ inl i ↦ pr.mems.there x i | inr i ↦ pr.mems.made x i ]) w.0)

    made_here : (x : ℕ) → In x nm → In x at
    made_here x i = target x ((λ k. made_apart x i (hs.removed_mem x k)), inr i)

    -- what the body adds
    sizes : (e : ℕ × ℕ) → splice.IsOneOf e (copies_of 0 body) → IsSize h (r.head.images.part e.1) (length (r.copied e.0))
    sizes e i = let k = fires.copies e i in (k.atoms, part_atoms h (r.head.images.part e.1) k.atoms k.part, k.long)

    pub adds : (k : ℕ) × InAll (AddsItems h r) (making N (1 + K) 0 body) k
        × (total (λ x. length (added_atoms r qs left N 0 body x)) at + length nm + total (λ x. length (added_rules r qs (rules_in h) body x)) at
        ≡ k + total (λ x. length (left x)) (moved_mems r body))
    adds = making_adds h r left gs (Exists h r qs head body) at tree'.once target qs N (1 + K) 0 body goes pr.free.long all_left made_here sizes

    -- What stays in a membrane, when the rests are out too.
    abbrev staying : ℕ → List ℕ
    staying x = without_all outs (atoms_in h x)

    -- no atom of a membrane that holds no rest is dropped
    all_stay : (x : ℕ) → (HoldsRest r head x → ⊥) → staying x ≡ left x
    all_stay x o = without_both ns ds (atoms_in h x) ∙ without_none ds (left x) (λ a i j. o (hs.atom_holds a x i (in_withouts_of ns (atoms_in h x) a (valid.sound.listed.atoms_once x) j).0))

    -- nothing stays in a membrane that is removed and doesn't move
    none_stays : (x : ℕ) → In x gs → (In x (moved_mems r body) → ⊥) → staying x ≡ []
    none_stays x i o =
        without_both ns ds (atoms_in h x)
        ∙ sym (ap (λ f. atoms_by (f x)) same.mems ∙ dropped.atoms x ∙ ap (without_all ds) (grown.head_atoms x i o ∙ nesting.atoms_t2 h valid head body n m r qs rule em stand c names goes contexts ps parts hs s pr nests listed_s x))
        ∙ (removed_empty x i).0

    module _ (f : Forest) (tree : IsTree h f) where
      abbrev old : List ℕ
      old = flat f

      abbrev kept : List ℕ
      kept = without_all gs (flat f)

      old_there : (x : ℕ) → In x old → IsMem h x
      old_there x i = trees.is_mem h valid.sound f tree x i

      new_list : Distinct (kept ++ nm)
      new_list = both_distinct kept nm (distinct_without_all gs old tree.once) pr.mems.once
          (λ x i j. made_apart x j (old_there x (in_withouts_of gs old x tree.once i).0))

      -- the membranes after it are those that stay and those that are made
      after_sum : (w : ℕ → ℕ) → total w at ≡ total w kept + total w nm
      after_sum w = total_part w at (kept ++ nm) tree'.once new_list (λ x i. new_or_kept x i) (λ x i o. absurd (o (back x i))) ∙ weigh_append w kept nm
        where
          new_or_kept : (x : ℕ) → In x at → In x (kept ++ nm)
          new_or_kept x i = elim (pr.mems.only x (was_there x (was_some (v.mems x) (here x i)))) [
            | inl j ↦ in_left x kept nm (in_withouts gs old x (tree.all x j) (here_kept x i))
            | inr j ↦ in_right x kept nm j
          ]

          back : (x : ℕ) → In x (kept ++ nm) → In x at
          back x i = elim (in_either x kept nm i) [
            | inl j ↦ (let u = in_withouts_of gs old x tree.once j in target x (u.1, inl (old_there x u.0)))
            | inr j ↦ made_here x j
          ]

      before_sum : (w : ℕ → ℕ) → total w old ≡ total w gs + total w kept
      before_sum w = total_withouts w gs old gs_once (λ x i. tree.all x (hs.removed_mem x i))

      -- a membrane that is made was empty
      fresh_left : (x : ℕ) → In x nm → length (left x) ≡ 0
      fresh_left x i = ap (λ o. length (without_all ns (atoms_by o))) (pr.mems.fresh x i) ∙ ap (λ zs. length zs) (withouts_nothing ns)

      fresh_rules : (x : ℕ) → In x nm → length (rules_in h x) ≡ 0
      fresh_rules x i = ap (λ o. length (rules_by o)) (pr.mems.fresh x i)

      -- each atom that goes stands in one membrane
      outs_once : Distinct outs
      outs_once = both_distinct ns ds (ns_once h valid head body n m r qs rule em stand c names pr.free ps parts ds hs.rests) hs.rests.drop_once (λ a i j. hs.rests.drop_apart a j i)

      out_placed : (a : ℕ) → In a outs → IsInPlace h a
      out_placed a i = elim (in_either a ns ds i) [ inl j ↦ taken_in_place h valid head body n m r qs rule em stand c names pr.free ps parts ds hs.rests a j | inr j ↦ hs.rests.drop_placed a j ]

      stands : (a : ℕ) → In a outs → (y : ℕ) × In y old × In a (atoms_in h y) × ((z : ℕ) → In a (atoms_in h z) → z ≡ y)
      stands a i =
          let w = within_of h a (out_placed a i) in
          let j = (valid.sound.listed.atoms w.0 a).1 w.1 in
          (w.0, tree.all w.0 (listed_some h w.0 a j), j, λ z k. one z w.0 (sym ((valid.sound.listed.atoms z a).0 k) ∙ w.1))
        where
          one : (y k : ℕ) → ◌≡◌ {A = Option heap.Place} (Some (within y)) (Some (within k)) → y ≡ k
          one y k e = (cc)

      atoms_out : total (λ x. length (atoms_in h x)) old ≡ length outs + total (λ x. length (staying x)) old
      atoms_out = all_out outs (atoms_in h) old outs_once tree.once stands

      -- what stays in removed membranes moves
      moved_stays : total (λ x. length (staying x)) gs ≡ total (λ x. length (left x)) (moved_mems r body)
      moved_stays =
          sym (total_part (λ x. length (staying x)) (moved_mems r body) gs (moved_once r gs (Exists h r qs head body) body goes) gs_once
          (moved_within r gs (Exists h r qs head body) body goes) (λ y i o. ap (λ zs. length zs) (none_stays y i o)))
          ∙ total_same (λ x. length (staying x)) (λ x. length (left x)) (moved_mems r body) (λ x i. ap (λ zs. length zs) (all_stay x (λ w. hs.moved_out x i w)))

      kept_stays : total (λ x. length (staying x)) kept ≡ total (λ x. length (left x)) kept
      kept_stays = total_same (λ x. length (staying x)) (λ x. length (left x)) kept
          (λ x i. ap (λ zs. length zs) (all_stay x (λ w. (in_withouts_of gs old x tree.once i).1 (hs.holds_removed x w))))

      items_after : item_count_in (finished v) at ≡ total (λ x. 1) at + total (λ x. length (left x)) at + total (λ x. length (added_atoms r qs left N 0 body x)) at
          + total (λ x. length (rules_in h x)) at + total (λ x. length (added_rules r qs (rules_in h) body x)) at
      items_after =
          total_is_sum (λ x. 1 + length (atoms_in (finished v) x) + length (rules_in (finished v) x)) at
          ∙ total_same (λ x. 1 + length (atoms_in (finished v) x) + length (rules_in (finished v) x))
          (λ x. 1 + (length (left x) + length (added_atoms r qs left N 0 body x)) + (length (rules_in h x) + length (added_rules r qs (rules_in h) body x))) at
          (λ x i. let a = ap (λ zs. length zs) (atoms_after x (here_kept x i)) ∙ length-append (left x) (added_atoms r qs left N 0 body x) in
          let b = ap (λ zs. length zs) (rules_after x (here_kept x i)) ∙ length-append (rules_in h x) (added_rules r qs (rules_in h) body x) in
          λ t. 1 + a t + b t)
          ∙ total_five (λ x. 1) (λ x. length (left x)) (λ x. length (added_atoms r qs left N 0 body x)) (λ x. length (rules_in h x)) (λ x. length (added_rules r qs (rules_in h) body x)) at

      items_before : item_count_in h old ≡ total (λ x. 1) old + total (λ x. length (atoms_in h x)) old + total (λ x. length (rules_in h x)) old
      items_before = total_is_sum (λ x. 1 + length (atoms_in h x) + length (rules_in h x)) old ∙ total_three (λ x. 1) (λ x. length (atoms_in h x)) (λ x. length (rules_in h x)) old

      -- The items before and after.
      pub items_are : item_count_in (finished v) at + (length outs + total (λ k. 1 + length (rules_in h k)) gs) ≡ item_count_in h old + adds.0
      items_are = sums (item_count_in (finished v) at) (item_count_in h old) (length outs) (total (λ k. 1 + length (rules_in h k)) gs) adds.0
          (total (λ x. 1) at) (total (λ x. 1) old) (total (λ x. 1) kept) (total (λ x. 1) gs) (total (λ x. 1) nm)
          (total (λ x. length (left x)) at) (total (λ x. length (left x)) kept) (total (λ x. length (left x)) nm)
          (total (λ x. length (staying x)) old) (total (λ x. length (staying x)) kept) (total (λ x. length (staying x)) gs)
          (total (λ x. length (rules_in h x)) at) (total (λ x. length (rules_in h x)) old) (total (λ x. length (rules_in h x)) kept) (total (λ x. length (rules_in h x)) gs) (total (λ x. length (rules_in h x)) nm)
          (total (λ x. length (atoms_in h x)) old) (total (λ x. length (added_atoms r qs left N 0 body x)) at) (total (λ x. length (added_rules r qs (rules_in h) body x)) at) (length nm) (total (λ x. length (left x)) (moved_mems r body))
          (after_sum (λ x. 1)) (before_sum (λ x. 1)) (after_sum (λ x. length (left x))) (before_sum (λ x. length (staying x))) (after_sum (λ x. length (rules_in h x))) (before_sum (λ x. length (rules_in h x)))
          (total_ones nm) (total_none (λ x. length (left x)) nm fresh_left) (total_none (λ x. length (rules_in h x)) nm fresh_rules) atoms_out moved_stays kept_stays items_after items_before
          (total_plus (λ x. 1) (λ x. length (rules_in h x)) gs) adds.2
        where
          sums : (after before taken_atoms taken_mems added one_at one_old one_kept one_gs one_nm left_at left_kept left_nm stay_old stay_kept stay_gs rules_at rules_old rules_kept rules_gs rules_nm atoms_old more_atoms more_rules made moved : ℕ)
              → one_at ≡ one_kept + one_nm → one_old ≡ one_gs + one_kept → left_at ≡ left_kept + left_nm → stay_old ≡ stay_gs + stay_kept → rules_at ≡ rules_kept + rules_nm → rules_old ≡ rules_gs + rules_kept
              → one_nm ≡ made → left_nm ≡ 0 → rules_nm ≡ 0 → atoms_old ≡ taken_atoms + stay_old → stay_gs ≡ moved → stay_kept ≡ left_kept → after ≡ one_at + left_at + more_atoms + rules_at + more_rules → before ≡ one_old + atoms_old + rules_old
              → taken_mems ≡ one_gs + rules_gs → more_atoms + made + more_rules ≡ added + moved → after + (taken_atoms + taken_mems) ≡ before + added
          sums after before taken_atoms taken_mems added one_at one_old one_kept one_gs one_nm left_at left_kept left_nm stay_old stay_kept stay_gs rules_at rules_old rules_kept rules_gs rules_nm atoms_old more_atoms more_rules made moved
              e1 e2 e3 e4 e5 e6 e7 e8 e9 e10 e11 e12 e13 e14 e15 e16 = omega arith
