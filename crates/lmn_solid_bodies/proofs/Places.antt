-- The items of a well placed body go to membranes that are there.
use Rattle.std.proofs.Common.{ℕ, suc, true, false, ◌+◌, ◌<◌, ◌≡◌, ◌≢◌, List, [], ◌∷◌, ◌++◌, length, Option, Some, None, IsSome, refl, sym, ap, subst, ◌∙◌, inl, inr, arith}
use Rattle.std.proofs.lemmas.Bool.{cases_eq}
use Rattle.std.proofs.lemmas.List.{append_assoc}
use Rattle.std.specs.Option.{option_map}
use Rattle.lmn_store_heap.specs.Heap as heap
use Rattle.lmn_store_heap.specs.Heap.{Heap, HeapMem, within, mems_in, IsMem, IsMemInPlace}
use Rattle.lmn_store_heap.specs.Sound.{Valid}
use Rattle.lmn_store_heap.proofs.ListLemmas.{in_left, in_right}
use Rattle.lmn_solid_heads.specs.declared.items.HeadItem.{HeadItem}
use Rattle.lmn_solid_heads.specs.Heads.{membranes_of}
use Rattle.lmn_solid_heads.specs.Embeddings.{Lies}
use Rattle.lmn_congruence_splice.specs.Splice.{IsOneOf}
use Rattle.lmn_solid_bodies.specs.declared.items.BodyItem.{BodyItem}
use Rattle.lmn_solid_bodies.specs.declared.items.BodyItem.TheVariants.{Atom, Connector, Copy, Bound, Membrane, Rest, Rule, Rules}
use Rattle.lmn_solid_bodies.specs.Running.{Registers}
use Rattle.lmn_solid_bodies.specs.Added.{moved_mems, made_mems, source_mems}
use Rattle.lmn_solid_bodies.specs.RestCopies.{RestCopies, later, rest_membranes}
use Rattle.lmn_solid_bodies.specs.Rules.{Target, Goes, Exists, Into, Nests, HeadNests, StandsIn, IsHeadMembrane, rests, closed_rests, WellPlaced}
use Rattle.lmn_solid_bodies.specs.Within.{membrane_images}
use Rattle.lmn_solid_bodies.proofs.Below.{preorder, below_home, removed_is, is_removed}
use Rattle.lmn_base.specs.Lists.{In}
use Rattle.lmn_base.proofs.Lists.{in_either}

-- a head membrane whose open context stands in the body has its image among those that move
pub moved_are : (r : Registers) (body : List BodyItem) (k : ℕ) → IsOneOf k (rests body) → In (r.head.images.membrane k) (moved_mems r body)
moved_are r [] k i = absurd i
moved_are r (Atom functor links inside ∷ xs) k i = moved_are r xs k i
moved_are r (Connector left right ∷ xs) k i = moved_are r xs k i
moved_are r (Copy part link inside ∷ xs) k i = moved_are r xs k i
moved_are r (Bound integer link inside ∷ xs) k i = moved_are r xs k i
moved_are r (Membrane inside ∷ xs) k i = moved_are r xs k i
moved_are r (Rest of false inside ∷ xs) k (inl e) = inl (ap r.head.images.membrane e)
moved_are r (Rest of false inside ∷ xs) k (inr i) = inr (moved_are r xs k i)
moved_are r (Rest of true inside ∷ xs) k i = moved_are r xs k i
moved_are r (Rule rule inside ∷ xs) k i = moved_are r xs k i
moved_are r (Rules of inside ∷ xs) k i = moved_are r xs k i

module _ (h : Heap) (valid : Valid h) (head : List HeadItem) (m : ℕ) (r : Registers) (qs : RestCopies) (em : Lies h head m r.head.images) (stand : IsMemInPlace h m) (head_nests : HeadNests head)
    (body : List BodyItem) (fresh : (x : ℕ) → In x (made_mems r qs (1 + length (membranes_of head)) body) → h.mems x ≡ None)
    (inner : List ℕ) (inner_mem : (x : ℕ) → In x inner → IsMem h x) (inner_later : (x : ℕ) → In x inner → preorder h valid m < preorder h valid x)
    (rests_inner : (of : ℕ) → IsOneOf of (closed_rests body) → (x : ℕ) → In x (r.left_membranes of) → In x inner)
    (open_apart : (of k : ℕ) → IsOneOf of (rests body) → IsOneOf k (closed_rests body) → In (r.head.images.membrane of) (rest_membranes r k) → ⊥) where
  abbrev K : ℕ
  K = length (membranes_of head)

  abbrev nm : List ℕ
  nm = made_mems r qs (1 + K) body

  -- the membranes of the head, and those of rests
  abbrev ks : List ℕ
  ks = membrane_images r head ++ inner

  abbrev E : ℕ → Type 0
  E = Exists h r qs head body

  pub home_is_mem : IsMem h m
  home_is_mem = by (h.mems m) stand
    where
      by : (o : Option HeapMem) → heap.IsTopOrWithin (option_map (λ x. x.place) o) → IsSome o
      by None i = absurd i
      by (Some x) i = refl

  image_mem : (x : ℕ) → In x (membrane_images r head) → IsMem h x
  image_mem x i =
      let w = removed_is head r x i in
      by (h.mems x) ((valid.sound.listed.mems (r.head.images.membrane w.1.inside) x).0 (subst (λ z. In z (mems_in h (r.head.images.membrane w.1.inside))) w.3 (em.membranes_placed w.0 w.1 w.2)))
    where
      by : {p : ℕ} (o : Option HeapMem) → option_map (λ y. y.place) o ≡ Some (within p) → IsSome o
      by None e = absurd (cc)
      by (Some y) e = refl

  pub removed_mem : (x : ℕ) → In x ks → IsMem h x
  removed_mem x i = elim (in_either x (membrane_images r head) inner i) [ inl j ↦ image_mem x j | inr j ↦ inner_mem x j ]

  pub new_apart : (x : ℕ) → In x nm → In x ks → ⊥
  new_apart x i j = let z : IsSome {T = HeapMem} None = subst (λ (o : Option HeapMem). IsSome o) (fresh x i) (removed_mem x j) in absurd (cc)

  pub home_apart : In m ks → ⊥
  home_apart i = elim (in_either m (membrane_images r head) inner i) [ inl j ↦ off (below_home h valid head m r em head_nests m j) | inr j ↦ off (inner_later m j) ]
    where
      off : preorder h valid m < preorder h valid m → ⊥
      off l = omega arith

  -- the membranes made so far have these numbers
  abbrev MadeSo : ℕ → List ℕ → Type 0
  MadeSo next done = (j : ℕ) → K < j → j < next → In (r.head.images.membrane j) done

  more_made : (next : ℕ) (done : List ℕ) → MadeSo next done → MadeSo (next + 1) (done ++ r.head.images.membrane next ∷ [])
  more_made next done so j low high = elim (cases_eq j next) [
    | inl e ↦ in_right (r.head.images.membrane j) done (r.head.images.membrane next ∷ []) (inl (ap r.head.images.membrane (sym e)))
    | inr d ↦ in_left (r.head.images.membrane j) done (r.head.images.membrane next ∷ []) (so j low (less high d))
  ]
    where
      less : j < next + 1 → j ≢ next → j < next
      less h d = grind arith

  target : (next : ℕ) (done rest : List ℕ) → nm ≡ done ++ rest → MadeSo next done → (inside : ℕ) → StandsIn K next inside → Target r ks E inside
  target next done rest e so inside (inl z) = subst (Target r ks E) (sym z) (subst (λ x. (In x ks → ⊥) × E x) (sym em.here) (home_apart, inl home_is_mem))
  target next done rest e so inside (inr w) =
      let i : In (r.head.images.membrane inside) nm = subst (In (r.head.images.membrane inside)) (sym e) (in_left (r.head.images.membrane inside) done rest (so inside w.0 w.1)) in
      (new_apart (r.head.images.membrane inside) i, inr i)

  into : (next : ℕ) (done : List ℕ) → MadeSo next done → (inside : ℕ) → StandsIn K next inside → Into r m done inside
  into next done so inside (inl z) = inl (ap r.head.images.membrane z ∙ em.here)
  into next done so inside (inr w) = inr (so inside w.0 w.1)

  head_image : (of : ℕ) → IsHeadMembrane K of → In (r.head.images.membrane of) ks
  head_image of w = in_left (r.head.images.membrane of) (membrane_images r head) inner (subst (λ z. In (r.head.images.membrane z) (membrane_images r head)) (sym w.1) (is_removed head r w.0 w.2))

  -- from a head membrane with an open context whose number isn't there nothing is taken
  not_source : (next : ℕ) (xs : List BodyItem) → WellPlaced K next xs → (of : ℕ) → IsHeadMembrane K of → (IsOneOf of (rests xs) → ⊥)
      → ((k : ℕ) → IsOneOf k (closed_rests xs) → In (r.head.images.membrane of) (rest_membranes r k) → ⊥) → In (r.head.images.membrane of) (source_mems r xs) → ⊥
  not_source next [] w of k o c i = i
  not_source next (Atom functor links inside ∷ xs) w of k o c i = not_source next xs w.1 of k o c i
  not_source next (Connector left right ∷ xs) w of k o c i = not_source next xs w of k o c i
  not_source next (Copy part link inside ∷ xs) w of k o c i = not_source next xs w.1 of k o c i
  not_source next (Bound integer link inside ∷ xs) w of k o c i = not_source next xs w.1 of k o c i
  not_source next (Membrane inside ∷ xs) w of k o c i = not_source (next + 1) xs w.1 of k o c i
  not_source next (Rest of' false inside ∷ xs) w of k o c (inl e) =
      let q = w.0 in
      o (inl (q.1 ∙ ap (λ z. suc z) (em.membranes_differ q.0 k.0 q.2 k.2 (ap r.head.images.membrane (sym q.1) ∙ e ∙ ap r.head.images.membrane k.1)) ∙ sym k.1))
  not_source next (Rest of' false inside ∷ xs) w of k o c (inr i) = not_source next xs w.3 of k (λ j. o (inr j)) c i
  not_source next (Rest of' true inside ∷ xs) w of k o c i = elim (in_either (r.head.images.membrane of) (rest_membranes r of') (source_mems r xs) i) [
    | inl j ↦ c of' (inl refl) j
    | inr j ↦ not_source next xs w.2 of k o (λ z l. c z (inr l)) j
  ]
  not_source next (Rule rule inside ∷ xs) w of k o c i = not_source next xs w.1 of k o c i
  not_source next (Rules of' inside ∷ xs) w of k o c i = not_source next xs w.2 of k o c i

  pub goes_all : (q : RestCopies) (next : ℕ) (done : List ℕ) (xs : List BodyItem) → WellPlaced K next xs → nm ≡ done ++ made_mems r q next xs → MadeSo next done
      → ((k : ℕ) → IsOneOf k (rests xs) → IsOneOf k (rests body)) → ((k : ℕ) → IsOneOf k (closed_rests xs) → IsOneOf k (closed_rests body)) → Goes r ks E xs
  goes_all q next done [] w e so us cs = tt
  goes_all q next done (Atom functor links inside ∷ xs) w e so us cs = (target next done (made_mems r q next xs) e so inside w.0, goes_all q next done xs w.1 e so us cs)
  goes_all q next done (Connector left right ∷ xs) w e so us cs = goes_all q next done xs w e so us cs
  goes_all q next done (Copy part link inside ∷ xs) w e so us cs = (target next done (made_mems r q next xs) e so inside w.0, goes_all q next done xs w.1 e so us cs)
  goes_all q next done (Bound integer link inside ∷ xs) w e so us cs = (target next done (made_mems r q next xs) e so inside w.0, goes_all q next done xs w.1 e so us cs)
  goes_all q next done (Membrane inside ∷ xs) w e so us cs = (
    target next done (r.head.images.membrane next ∷ made_mems r q (next + 1) xs) e so inside w.0,
    goes_all q (next + 1) (done ++ r.head.images.membrane next ∷ []) xs w.1 (e ∙ sym (append_assoc done (r.head.images.membrane next ∷ []) (made_mems r q (next + 1) xs))) (more_made next done so) us cs,
  )
  goes_all q next done (Rest of false inside ∷ xs) w e so us cs = (
    head_image of w.0,
    inl (removed_mem (r.head.images.membrane of) (head_image of w.0)),
    not_source next xs w.3 of w.0 w.1 (λ k j. open_apart of k (us of (inl refl)) (cs k j)),
    target next done (made_mems r q next xs) e so inside w.2,
    goes_all q next done xs w.3 e so (λ k i. us k (inr i)) cs,
  )
  goes_all q next done (Rest of true inside ∷ xs) w e so us cs = (
    (λ x i. elim i [
      | inl f ↦ (subst (λ z. In z ks) f (head_image of w.0), inl (subst (IsMem h) f (removed_mem (r.head.images.membrane of) (head_image of w.0))))
      | inr j ↦ (let l = rests_inner of (cs of (inl refl)) x j in (in_right x (membrane_images r head) inner l, inl (inner_mem x l)))
    ]),
    target next done (made_mems r q next (Rest of true inside ∷ xs)) e so inside w.1,
    goes_all (later q) next (done ++ (q 0).membranes) xs w.2 (e ∙ sym (append_assoc done (q 0).membranes (made_mems r (later q) next xs))) (λ j low high. in_left (r.head.images.membrane j) done (q 0).membranes (so j low high)) us (λ k i. cs k (inr i)),
  )
  goes_all q next done (Rule rule inside ∷ xs) w e so us cs = (target next done (made_mems r q next xs) e so inside w.0, goes_all q next done xs w.1 e so us cs)
  goes_all q next done (Rules of inside ∷ xs) w e so us cs = (head_image of w.0, target next done (made_mems r q next xs) e so inside w.1, goes_all q next done xs w.2 e so us cs)

  pub nests_all : (next : ℕ) (done : List ℕ) (xs : List BodyItem) → WellPlaced K next xs → MadeSo next done → Nests r m done next xs
  nests_all next done [] w so = tt
  nests_all next done (Atom functor links inside ∷ xs) w so = (into next done so inside w.0, nests_all next done xs w.1 so)
  nests_all next done (Connector left right ∷ xs) w so = nests_all next done xs w so
  nests_all next done (Copy part link inside ∷ xs) w so = (into next done so inside w.0, nests_all next done xs w.1 so)
  nests_all next done (Bound integer link inside ∷ xs) w so = (into next done so inside w.0, nests_all next done xs w.1 so)
  nests_all next done (Membrane inside ∷ xs) w so = (into next done so inside w.0, nests_all (next + 1) (done ++ r.head.images.membrane next ∷ []) xs w.1 (more_made next done so))
  nests_all next done (Rest of false inside ∷ xs) w so = (into next done so inside w.2, nests_all next done xs w.3 so)
  nests_all next done (Rest of true inside ∷ xs) w so = (into next done so inside w.1, nests_all next done xs w.2 so)
  nests_all next done (Rule rule inside ∷ xs) w so = (into next done so inside w.0, nests_all next done xs w.1 so)
  nests_all next done (Rules of inside ∷ xs) w so = (into next done so inside w.1, nests_all next done xs w.2 so)

  none_yet : MadeSo (1 + K) []
  none_yet j low high = absurd (off low high)
    where
      off : K < j → j < 1 + K → ⊥
      off l h = omega arith

  pub goes_body : WellPlaced K (1 + K) body → Goes r ks E body
  goes_body w = goes_all qs (1 + K) [] body w refl none_yet (λ k i. i) (λ k i. i)

  pub nests_body : WellPlaced K (1 + K) body → Nests r m [] (1 + K) body
  nests_body w = nests_all (1 + K) [] body w none_yet
