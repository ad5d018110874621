-- What a firing touches, and what it leaves quiet.
use Rattle.std.proofs.Common.{ℕ, zero, suc, ◌≡◌, ◌≢◌, ◌<◌, ◌≤◌, ◌+◌, ◌⊎◌, inl, inr, true, false, List, [], ◌∷◌, ◌++◌, length, map, Option, Some, None, IsSome, refl, arith, ap, sym, subst, ◌∙◌}
use Rattle.std.specs.Prelude.{slice_index_or}
use Rattle.std.specs.Option.{option_map}
use Rattle.std.proofs.lemmas.Bool.{cases_eq}
use Rattle.std.proofs.lemmas.Option.{slice_get_within}
use Rattle.lmn_base.specs.Graphs.{Reached, at_root, across, Port}
use Rattle.lmn_base.specs.Lists.{In}
use Rattle.lmn_base.proofs.Lists.{in_either}
use Rattle.lmn_base.proofs.Numbers.{not_equal}
use Rattle.lmn_store_heap.specs.Heap as heap
use Rattle.lmn_store_heap.specs.Heap.{Heap, HeapAtom, HeapMem, IsAtom, IsMem, IsInPlace, within, atoms_in, mems_in, rules_in, functor_of, link_of, home_of, parent_of, arity_of, partners_of}
use Rattle.lmn_store_heap.specs.Lists.{without_all}
use Rattle.lmn_store_heap.specs.Sound.{Valid}
use Rattle.lmn_store_heap.specs.Conditions.{Above}
use Rattle.lmn_store_heap.specs.Graphs.{atom_map}
use Rattle.lmn_store_heap.proofs.Common.{home_placed, linked_atom, in_place_atom}
use Rattle.lmn_store_heap.proofs.Listing.{home_is}
use Rattle.lmn_store_heap.proofs.ListLemmas.{in_left, in_right}
use Rattle.lmn_store_heap.proofs.Heights.{parent_is, parent_place, mem_of_place, has_parent, depth_of}
use Rattle.lmn_store_heap.proofs.Replacing.{port_within}
use Rattle.lmn_solid_heads.specs.declared.items.HeadItem.{HeadItem}
use Rattle.lmn_solid_heads.specs.Heads.{HeadTyped, atoms_of, membranes_of}
use Rattle.lmn_solid_heads.specs.Embeddings.{Lies, HasTyped}
use Rattle.lmn_congruence_splice.specs.Classes.{rising}
use Rattle.lmn_congruence_splice.specs.Splice.{of_solid}
use Rattle.lmn_ground_parts.proofs.AnswerLaws.{answer_in}
use Rattle.lmn_solid_bodies.specs.declared.items.BodyItem.{BodyItem}
use Rattle.lmn_solid_bodies.specs.declared.items.BodyItem.TheVariants.{Atom, Connector, Copy, Bound, Membrane, Rest, Rule, Rules}
use Rattle.lmn_solid_bodies.specs.Added.{added_atoms, added_mems, added_rules, made_mems, moved_mems}
use Rattle.lmn_solid_bodies.specs.Fired.{images_of}
use Rattle.lmn_solid_bodies.specs.Names.{Names}
use Rattle.lmn_solid_bodies.specs.RestCopies.{RestCopies, AreAsLong, IsAsLong, later, rest_membranes, copied_atom, copied_membrane, copied_into}
use Rattle.lmn_solid_bodies.specs.Rules.{NestedRule, PartAtoms, StandsIn, WellPlaced}
use Rattle.lmn_solid_bodies.specs.Running.{Registers}
use Rattle.lmn_solid_bodies.specs.Within.{FiresWithin, membrane_images, dropped_atoms, dropped_mems, removed_mems}
use Rattle.lmn_solid_bodies.proofs.AddedLemmas.{comes_from}
use Rattle.lmn_solid_bodies.proofs.Below.{removed_is}
use Rattle.lmn_solid_bodies.proofs.Committing.{in_withouts_of}
use Rattle.lmn_solid_bodies.proofs.Held.{Held}
use Rattle.lmn_solid_bodies.proofs.RestGrowing.{given_none}
use Rattle.lmn_schedule_sleep.specs.Quiet.{IsQuiet, IsUntouched}
use Rattle.lmn_solid_bodies.proofs.Common.{mems_moved}
use Rattle.lmn_solid_heads.proofs.Common.{without_none as withouts_no}

-- ---- lists

nothing_more : (xs ys : List ℕ) → ys ≡ [] → xs ++ ys ≡ xs
nothing_more [] ys e = e
nothing_more (x ∷ xs) ys e = ap (λ zs. x ∷ zs) (nothing_more xs ys e)

-- a number of an image
image_is : (f : ℕ → ℕ) (n a x : ℕ) → In x (map f (rising a n)) → (k : ℕ) × (k < a + n) × (f k ≡ x)
image_is f zero a x i = absurd i
image_is f (suc n) a x (inl e) = (a, omega arith, e)
image_is f (suc n) a x (inr i) = let r = image_is f n (suc a) x i in let l = r.1 in (r.0, omega (arith, l), r.2)

is_image : (f : ℕ → ℕ) (n a k : ℕ) → a ≤ k → k < a + n → In (f k) (map f (rising a n))
is_image f zero a k l u = absurd (omega (arith, l, u))
is_image f (suc n) a k l u = elim (cases_eq a k) [ inl e ↦ inl (ap f e) | inr d ↦ inr (is_image f n (suc a) k (next d) (omega (arith, u))) ]
  where
    next : a ≢ k → suc a ≤ k
    next d = grind (arith, d, l)

-- ---- a membrane into which a body puts nothing

-- no copy of a rest goes to x
abbrev MissesRest : Registers → RestCopies → ℕ → ℕ → ℕ → Type 0
MissesRest r q x of inside = (k : ℕ) → In k (rest_membranes r of) → copied_into r of inside (q 0) k ≢ x

abbrev Misses : Registers → RestCopies → ℕ → List BodyItem → Type 0
Misses r q x [] = Unit {0}
Misses r q x (Atom functor links inside ∷ xs) = (r.head.images.membrane inside ≢ x) × Misses r q x xs
Misses r q x (Connector left right ∷ xs) = Misses r q x xs
Misses r q x (Copy part link inside ∷ xs) = (r.head.images.membrane inside ≢ x) × Misses r q x xs
Misses r q x (Bound integer link inside ∷ xs) = (r.head.images.membrane inside ≢ x) × Misses r q x xs
Misses r q x (Membrane inside ∷ xs) = (r.head.images.membrane inside ≢ x) × Misses r q x xs
Misses r q x (Rest of false inside ∷ xs) = (r.head.images.membrane inside ≢ x) × Misses r q x xs
Misses r q x (Rest of true inside ∷ xs) = MissesRest r q x of inside × Misses r (later q) x xs
Misses r q x (Rule rule inside ∷ xs) = (r.head.images.membrane inside ≢ x) × Misses r q x xs
Misses r q x (Rules of inside ∷ xs) = (r.head.images.membrane inside ≢ x) × Misses r q x xs

no_atoms : (r : Registers) (q : RestCopies) (left : ℕ → List ℕ) (a c : ℕ) (body : List BodyItem) (x : ℕ) → Misses r q x body → added_atoms r q left a c body x ≡ []
no_atoms r q left a c [] x w = refl
no_atoms r q left a c (Atom functor links inside ∷ xs) x w = rw (not_equal (r.head.images.membrane inside) x w.0) (no_atoms r q left (a + 1) c xs x w.1)
no_atoms r q left a c (Connector l m ∷ xs) x w = no_atoms r q left a c xs x w
no_atoms r q left a c (Copy part link inside ∷ xs) x w = rw (not_equal (r.head.images.membrane inside) x w.0) (no_atoms r q left a (c + 1) xs x w.1)
no_atoms r q left a c (Bound integer link inside ∷ xs) x w = rw (not_equal (r.head.images.membrane inside) x w.0) (no_atoms r q left (a + 1) c xs x w.1)
no_atoms r q left a c (Membrane inside ∷ xs) x w = no_atoms r q left a c xs x w.1
no_atoms r q left a c (Rest of false inside ∷ xs) x w = rw (not_equal (r.head.images.membrane inside) x w.0) (no_atoms r q left a c xs x w.1)
no_atoms r q left a c (Rest of true inside ∷ xs) x w =
    ap (λ zs. zs ++ added_atoms r (later q) left a c xs x) (given_none (λ k. map (copied_atom r of (q 0)) (left k)) (copied_into r of inside (q 0)) (rest_membranes r of) x w.0) ∙ no_atoms r (later q) left a c xs x w.1
no_atoms r q left a c (Rule rule inside ∷ xs) x w = no_atoms r q left a c xs x w.1
no_atoms r q left a c (Rules of inside ∷ xs) x w = no_atoms r q left a c xs x w.1

no_mems : (r : Registers) (q : RestCopies) (left : ℕ → List ℕ) (m : ℕ) (body : List BodyItem) (x : ℕ) → Misses r q x body → added_mems r q left m body x ≡ []
no_mems r q left m [] x w = refl
no_mems r q left m (Atom functor links inside ∷ xs) x w = no_mems r q left m xs x w.1
no_mems r q left m (Connector l k ∷ xs) x w = no_mems r q left m xs x w
no_mems r q left m (Copy part link inside ∷ xs) x w = no_mems r q left m xs x w.1
no_mems r q left m (Bound integer link inside ∷ xs) x w = no_mems r q left m xs x w.1
no_mems r q left m (Membrane inside ∷ xs) x w = rw (not_equal (r.head.images.membrane inside) x w.0) (no_mems r q left (m + 1) xs x w.1)
no_mems r q left m (Rest of false inside ∷ xs) x w = rw (not_equal (r.head.images.membrane inside) x w.0) (no_mems r q left m xs x w.1)
no_mems r q left m (Rest of true inside ∷ xs) x w =
    ap (λ zs. zs ++ added_mems r (later q) left m xs x) (given_none (λ k. map (copied_membrane r of (q 0)) (left k)) (copied_into r of inside (q 0)) (rest_membranes r of) x w.0) ∙ no_mems r (later q) left m xs x w.1
no_mems r q left m (Rule rule inside ∷ xs) x w = no_mems r q left m xs x w.1
no_mems r q left m (Rules of inside ∷ xs) x w = no_mems r q left m xs x w.1

no_rules : (r : Registers) (q : RestCopies) (rules : ℕ → List ℕ) (body : List BodyItem) (x : ℕ) → Misses r q x body → added_rules r q rules body x ≡ []
no_rules r q rules [] x w = refl
no_rules r q rules (Atom functor links inside ∷ xs) x w = no_rules r q rules xs x w.1
no_rules r q rules (Connector l k ∷ xs) x w = no_rules r q rules xs x w
no_rules r q rules (Copy part link inside ∷ xs) x w = no_rules r q rules xs x w.1
no_rules r q rules (Bound integer link inside ∷ xs) x w = no_rules r q rules xs x w.1
no_rules r q rules (Membrane inside ∷ xs) x w = no_rules r q rules xs x w.1
no_rules r q rules (Rest of false inside ∷ xs) x w = no_rules r q rules xs x w.1
no_rules r q rules (Rest of true inside ∷ xs) x w =
    ap (λ zs. zs ++ added_rules r (later q) rules xs x) (given_none rules (copied_into r of inside (q 0)) (r.left_membranes of) x (λ k i. w.0 k (inr i))) ∙ no_rules r (later q) rules xs x w.1
no_rules r q rules (Rule rule inside ∷ xs) x w = rw (not_equal (r.head.images.membrane inside) x w.0) (no_rules r q rules xs x w.1)
no_rules r q rules (Rules of inside ∷ xs) x w = rw (not_equal (r.head.images.membrane inside) x w.0) (no_rules r q rules xs x w.1)

-- a body puts nothing into a membrane that stood before, but for that of the rule
module _ (h : Heap) (r : Registers) (top x : ℕ) (own : r.head.images.membrane 0 ≡ top) (apart : x ≢ top) (there : IsMem h x) (heads : ℕ) where
  not_new : (y : ℕ) → h.mems y ≡ None → y ≢ x
  not_new y e q = let z : IsSome {T = HeapMem} None = subst (λ (o : Option HeapMem). IsSome o) e (subst (IsMem h) (sym q) there) in absurd (cc)

  -- those that the body has made before the register m
  abbrev AreNew : ℕ → Type 0
  AreNew m = (i : ℕ) → heads < i → i < m → h.mems (r.head.images.membrane i) ≡ None

  misses_one : (m : ℕ) → AreNew m → (inside : ℕ) → StandsIn heads m inside → r.head.images.membrane inside ≢ x
  misses_one m new inside (inl e) = λ q. apart (sym q ∙ (ap r.head.images.membrane e ∙ own))
  misses_one m new inside (inr i) = not_new (r.head.images.membrane inside) (new inside i.0 i.1)

  one_more : (m : ℕ) → AreNew m → h.mems (r.head.images.membrane m) ≡ None → AreNew (m + 1)
  one_more m new e i low high = elim (cases_eq i m) [ inl s ↦ subst (λ k. h.mems (r.head.images.membrane k) ≡ None) (sym s) e | inr d ↦ new i low (less i high d) ]
    where
      less : (i : ℕ) → i < m + 1 → (i ≡ m → ⊥) → i < m
      less i l d = grind (arith, l, d)

  misses_rest : (q : RestCopies) (of inside : ℕ) → IsAsLong r of (q 0) → r.head.images.membrane inside ≢ x → ((y : ℕ) → In y (q 0).membranes → h.mems y ≡ None) → MissesRest r q x of inside
  misses_rest q of inside long out fresh k i = λ same.
      elim (answer_in (rest_membranes r of) (r.head.images.membrane inside ∷ (q 0).membranes) k (let l = long.1 in omega (arith, l)) i) [
        | inl e ↦ out (e ∙ same)
        | inr j ↦ not_new (copied_into r of inside (q 0) k) (fresh (copied_into r of inside (q 0) k) j) same
      ]

  misses : (q : RestCopies) (m : ℕ) (xs : List BodyItem) → WellPlaced heads m xs → AreAsLong r q xs → AreNew m → ((y : ℕ) → In y (made_mems r q m xs) → h.mems y ≡ None) → Misses r q x xs
  misses q m [] w long new fresh = tt
  misses q m (Atom functor links inside ∷ xs) w long new fresh = (misses_one m new inside w.0, misses q m xs w.1 long new fresh)
  misses q m (Connector l k ∷ xs) w long new fresh = misses q m xs w long new fresh
  misses q m (Copy part link inside ∷ xs) w long new fresh = (misses_one m new inside w.0, misses q m xs w.1 long new fresh)
  misses q m (Bound integer link inside ∷ xs) w long new fresh = (misses_one m new inside w.0, misses q m xs w.1 long new fresh)
  misses q m (Membrane inside ∷ xs) w long new fresh = (misses_one m new inside w.0, misses q (m + 1) xs w.1 long (one_more m new (fresh (r.head.images.membrane m) (inl refl))) (λ y i. fresh y (inr i)))
  misses q m (Rest of false inside ∷ xs) w long new fresh = (misses_one m new inside w.2, misses q m xs w.3 long new fresh)
  misses q m (Rest of true inside ∷ xs) w long new fresh = (
    misses_rest q of inside long.0 (misses_one m new inside w.1) (λ y i. fresh y (in_left y (q 0).membranes (made_mems r (later q) m xs) i)),
    misses (later q) m xs w.2 long.1 new (λ y i. fresh y (in_right y (q 0).membranes (made_mems r (later q) m xs) i)),
  )
  misses q m (Rule rule inside ∷ xs) w long new fresh = (misses_one m new inside w.0, misses q m xs w.1 long new fresh)
  misses q m (Rules of inside ∷ xs) w long new fresh = (misses_one m new inside w.1, misses q m xs w.2 long new fresh)

beyond : (xs : List (Option Port)) (i : ℕ) → (i < length xs → ⊥) → slice_index_or xs i None ≡ None
beyond [] zero n = refl
beyond [] (suc i) n = refl
beyond (x ∷ xs) zero n = absurd (n (omega arith))
beyond (x ∷ xs) (suc i) n = beyond xs i (λ l. n (omega (arith, l)))

below_or_not : (i n : ℕ) → (i < n) ⊎ (i < n → ⊥)
below_or_not i zero = inr (λ l. absurd (omega (arith, l)))
below_or_not zero (suc n) = inl (omega arith)
below_or_not (suc i) (suc n) = elim (below_or_not i n) [ inl l ↦ inl (omega (arith, l)) | inr o ↦ inr (λ l. o (omega (arith, l))) ]

-- ---- where an added membrane comes from

-- ---- a firing

-- What a rule touches where its head lies: the membrane m of the rule, those of the head, the homes of the head's atoms, and the
-- homes of the atoms that are joined to these.
pub data IsRoot (h : Heap) (r : Registers) (head : List HeadItem) (m x : ℕ) : Type 0 where
  of_rule : m ≡ x → IsRoot h r head m x
  of_mem : In x (membrane_images r head) → IsRoot h r head m x
  of_atom : (n : ℕ) → n < length (atoms_of head) → home_of h (r.head.images.atom n) ≡ Some x → IsRoot h r head m x
  of_partner : (n i : ℕ) (c : Port) → n < length (atoms_of head) → link_of h (r.head.images.atom n) i ≡ Some c → home_of h c.0 ≡ Some x → IsRoot h r head m x

module _ (h t : Heap) (vh : Valid h) (vt : Valid t) (head : List HeadItem) (body : List BodyItem) (links : ℕ) (rule : NestedRule head body links) (r : Registers) (m : ℕ)
    (em : Lies h head m r.head.images) (c : Port → ℕ) (names : Names h c) (ps : List ℕ) (parts : PartAtoms h head r.head.images ps)
    (fw : FiresWithin h c r head body (images_of r head ++ ps) t) (hs : Held h vh head body m r ps) where
  abbrev ks : List ℕ
  ks = membrane_images r head

  -- what is dropped
  abbrev ds : List ℕ
  ds = dropped_atoms r head

  abbrev dms : List ℕ
  dms = dropped_mems r head

  abbrev taken : List ℕ
  taken = images_of r head ++ ps

  abbrev N : ℕ
  N = length (atoms_of head)

  home_at : (a x : ℕ) → In a (atoms_in h x) → home_of h a ≡ Some x
  home_at a x i = home_placed (h.atoms a) x ((vh.sound.listed.atoms x a).0 i)

  listed_at : (a x : ℕ) → home_of h a ≡ Some x → In a (atoms_in h x)
  listed_at a x e = (vh.sound.listed.atoms x a).1 (home_is h a x e)

  one_home : (a x y : ℕ) → home_of h a ≡ Some x → home_of h a ≡ Some y → x ≡ y
  one_home a x y e f = let z : Some x ≡ Some y = sym e ∙ f in cc

  image_number : (a : ℕ) → In a (images_of r head) → (n : ℕ) × (n < N) × (r.head.images.atom n ≡ a)
  image_number a i = let w = image_is r.head.images.atom N 0 a i in let l = w.1 in (w.0, omega (arith, l), w.2)

  head_taken : (n : ℕ) → n < N → In (r.head.images.atom n) taken
  head_taken n l = in_left (r.head.images.atom n) (images_of r head) ps (is_image r.head.images.atom N 0 n (omega arith) (omega (arith, l)))

  -- the port of the head that holds a part
  holder : (g : ℕ) (u : HeadTyped) → HasTyped head g u → (n i : ℕ) × (n < N) × (link_of h (r.head.images.atom n) i ≡ Some (r.head.images.part g))
  holder g u w =
      let p = rule.atoms.held g u w in
      (p.0.0, p.0.1, slice_get_within (atoms_of head) p.0.0 p.1.0 p.1.1, (em.parts g u w).held p.0 p.1)

  part_root : (g : ℕ) (u : HeadTyped) → HasTyped head g u → (a x : ℕ) → Reached (atom_map h) (r.head.images.part g) a → home_of h a ≡ Some x → IsRoot h r head m x
  part_root g u w a x re e =
      let k = holder g u w in
      let whole = (em.parts g u w).whole in
      let same = one_home a x (r.head.images.membrane u.inside) e (whole.at_home a re) in
      of_partner k.0 k.1 (r.head.images.part g) k.2 k.3 (whole.at_home (r.head.images.part g).0 at_root ∙ ap (λ z. Some z) (sym same))

  -- where a taken atom stands something is touched
  taken_root : (a x : ℕ) → In a taken → home_of h a ≡ Some x → IsRoot h r head m x
  taken_root a x i e = elim (in_either a (images_of r head) ps i) [
    | inl j ↦ (let w = image_number a j in of_atom w.0 w.1 (ap (home_of h) w.2 ∙ e))
    | inr j ↦ (let w = parts.are a j in part_root w.0 w.1 w.2 a x w.3 e)
  ]

  -- an atom that is joined to a taken one is taken, or stands where something is touched
  beside_root : (a i b j x : ℕ) → In b taken → link_of h b j ≡ Some (a, i) → home_of h a ≡ Some x → IsRoot h r head m x
  beside_root a i b j x k l e = elim (in_either b (images_of r head) ps k) [
    | inl q ↦ (let w = image_number b q in of_partner w.0 j (a, i) w.1 (ap (λ z. link_of h z j) w.2 ∙ l) e)
    | inr q ↦ (let w = parts.are b q in of_part w.0 w.1 w.2 w.3 (cases_eq b (r.head.images.part w.0).0) (cases_eq j (r.head.images.part w.0).1))
  ]
    where
      of_part : (g : ℕ) (u : HeadTyped) (w : HasTyped head g u) → Reached (atom_map h) (r.head.images.part g) b → (b ≡ (r.head.images.part g).0) ⊎ (b ≡ (r.head.images.part g).0 → ⊥) → (j ≡ (r.head.images.part g).1) ⊎ (j ≡ (r.head.images.part g).1 → ⊥) → IsRoot h r head m x
      of_part g u w re (inl e1) (inl e2) =
          let k = holder g u w in
          let back = vh.sound.paired.back (r.head.images.atom k.0) k.1 (r.head.images.part g).0 (r.head.images.part g).1 k.3 in
          let there : link_of h b j ≡ Some (r.head.images.atom k.0, k.1) = (λ z. link_of h (e1 z) (e2 z)) ∙ back in
          let same : ◌≡◌ {A = Option Port} (Some (a, i)) (Some (r.head.images.atom k.0, k.1)) = sym l ∙ there in
          let q : a ≡ r.head.images.atom k.0 = ap (λ o. (port_or o).0) same in
          of_atom k.0 k.2 (ap (home_of h) (sym q) ∙ e)
        where
          port_or : Option Port → Port
          port_or None = (0, 0)
          port_or (Some p) = p
      of_part g u w re (inl e1) (inr d) = part_root g u w a x (across re (λ q. d (ap (λ (p : Port). p.1) q)) l) e
      of_part g u w re (inr d) o = part_root g u w a x (across re (λ q. d (ap (λ (p : Port). p.0) q)) l) e

  -- ---- what isn't touched

  -- there is room for an atom's ports as before
  arity_same : (a : ℕ) → functor_of t a ≡ functor_of h a → arity_of t a ≡ arity_of h a
  arity_same a e = by (h.atoms a) (t.atoms a) refl refl
    where
      by : (o p : Option HeapAtom) → h.atoms a ≡ o → t.atoms a ≡ p → arity_of t a ≡ arity_of h a
      by None None q w = ap (λ z. length (partners_of z)) w ∙ sym (ap (λ z. length (partners_of z)) q)
      by None (Some y) q w = absurd (let z : Some y.functor ≡ None = sym (ap (option_map (λ x. x.functor)) w) ∙ e ∙ ap (option_map (λ x. x.functor)) q in cc)
      by (Some x) None q w = absurd (let z : None ≡ Some x.functor = sym (ap (option_map (λ x. x.functor)) w) ∙ e ∙ ap (option_map (λ x. x.functor)) q in cc)
      by (Some x) (Some y) q w =
          let f : functor_of h a ≡ Some x.functor = ap (option_map (λ x. x.functor)) q in
          vt.sound.shaped.ports a x.functor (e ∙ f) ∙ sym (vh.sound.shaped.ports a x.functor f)

  is_there : (a : ℕ) → functor_of t a ≡ functor_of h a → IsAtom h a → IsInPlace t a
  is_there a e i = vt.settled.atoms a (by (h.atoms a) (t.atoms a) refl refl i)
    where
      by : (o p : Option HeapAtom) → h.atoms a ≡ o → t.atoms a ≡ p → IsSome (h.atoms a) → IsSome (t.atoms a)
      by None p q w i = absurd (let z : IsSome {T = HeapAtom} None = subst (λ (o : Option HeapAtom). IsSome o) q i in cc)
      by (Some x) None q w i = absurd (let z : None ≡ Some x.functor = sym (ap (option_map (λ x. x.functor)) w) ∙ e ∙ ap (option_map (λ x. x.functor)) q in cc)
      by (Some x) (Some y) q w i = subst (λ (o : Option HeapAtom). IsSome o) (sym w) refl

  -- atoms that stay and were joined are joined
  joined_still : (a i b j : ℕ) → (In a taken → ⊥) → (In a ds → ⊥) → (In b taken → ⊥) → (In b ds → ⊥) → link_of h a i ≡ Some (b, j) → link_of t a i ≡ Some (b, j)
  joined_still a i b j na da nb db e =
      let ia = linked_atom h a i e in
      let back = vh.sound.paired.back a i b j e in
      let ib = linked_atom h b j back in
      let pa = vh.settled.atoms a ia in
      let pb = vh.settled.atoms b ib in
      let fa = fw.kept_functors a pa na da in
      let fb = fw.kept_functors b pb nb db in
      let la = port_within h a i (b, j) e in
      let lb = port_within h b j (a, i) back in
      let same_colour : c (b, j) ≡ c (a, i) = (let q = names.partner (a, i) (pa, la) in
      let z : ◌≡◌ {A = Option Port} (Some q.0) (Some (b, j)) = sym q.2 ∙ e in
      ap c (sym (ap (λ o. port_or o) z)) ∙ q.4) in
      let number : fw.number (a, i) ≡ fw.number (b, j) = fw.kept_links (a, i) pa ∙ ap (λ k. fw.to (of_solid k)) (sym same_colour) ∙ sym (fw.kept_links (b, j) pb) in
      let qa = arity_same a fa in
      let qb = arity_same b fb in
      elim (fw.named.only (a, i) (b, j) (is_there a fa ia, omega (arith, qa, la)) (is_there b fb ib, omega (arith, qb, lb)) number) [
        | inl z ↦ absurd (vh.sound.paired.apart a i (e ∙ ap (λ p. Some p) (sym z)))
        | inr z ↦ z
      ]
    where
      port_or : Option Port → Port
      port_or None = (0, 0)
      port_or (Some p) = p

  module _ (x : ℕ) (there : IsMem h x) (not_dropped : In x dms → ⊥) (no_root : IsRoot h r head m x → ⊥) (no_child : (y : ℕ) → In y (mems_in h x) → IsRoot h r head m y → ⊥) where
    missed : Misses r fw.rests x body
    missed = misses h r m x em.here (λ e. no_root (of_rule (sym e))) there (length (membranes_of head)) fw.rests (1 + length (membranes_of head)) body rule.placed fw.rests_long (λ i low high. absurd (omega (arith, low, high))) fw.made_fresh

    not_removed : In x (removed_mems r head) → ⊥
    not_removed i = elim (in_either x ks dms i) [ inl j ↦ no_root (of_mem j) | inr j ↦ not_dropped j ]

    no_drop : (a : ℕ) → In a (atoms_in h x) → In a ds → ⊥
    no_drop a i j = not_removed (hs.holds_removed x (hs.atom_holds a x j i))

    stays : (a : ℕ) → In a (atoms_in h x) → In a taken → ⊥
    stays a i j = no_root (taken_root a x j (home_at a x i))

    functor_still : (a : ℕ) → In a (atoms_in h x) → functor_of t a ≡ functor_of h a
    functor_still a i = fw.kept_functors a (subst (λ (o : Option ℕ). IsSome o) (sym (home_at a x i)) refl) (stays a i) (no_drop a i)

    link_still : (a i : ℕ) → In a (atoms_in h x) → link_of t a i ≡ link_of h a i
    link_still a i k = elim (below_or_not i (arity_of h a)) [
      | inl l ↦ by (link_of h a i) refl (vh.full a i l)
      | inr o ↦ beyond (partners_of (t.atoms a)) i (λ l. o (let z = arity_same a (functor_still a k) in omega (arith, l, z))) ∙ sym (beyond (partners_of (h.atoms a)) i o)
    ]
      where
        by : (o : Option Port) → link_of h a i ≡ o → IsSome o → link_of t a i ≡ link_of h a i
        by None e s = absurd (cc)
        by (Some p) e s =
            joined_still a i p.0 p.1 (stays a k) (no_drop a k) (λ j. no_root (beside_root a i p.0 p.1 x j (vh.sound.paired.back a i p.0 p.1 e) (home_at a x k)))
            (λ j. no_drop a k (hs.rests.drop_stays p.0 p.1 a i j (vh.sound.paired.back a i p.0 p.1 e))) e ∙ sym e

    pub untouched : IsUntouched h t x
    untouched = record {
      atoms = fw.atoms x not_removed ∙ nothing_more (without_all taken (atoms_in h x)) _ (no_atoms r fw.rests (λ k. without_all taken (atoms_in h k)) N 0 body x missed) ∙ withouts_no taken (atoms_in h x) (λ a j i. stays a i j);
      mems = fw.mems x not_removed ∙ nothing_more (without_all ks (mems_in h x)) _ (no_mems r fw.rests (λ k. without_all ks (mems_in h k)) (1 + length (membranes_of head)) body x missed) ∙ withouts_no ks (mems_in h x) (λ y j i. no_child y i (of_mem j));
      rules = fw.rules x not_removed ∙ nothing_more (rules_in h x) _ (no_rules r fw.rests (rules_in h) body x missed);
      functors = functor_still;
      links = link_still;
    }

  mem_below : (k x n : ℕ) → IsMem h x → Above h k x n → IsMem h n
  mem_below zero x n i a = subst (IsMem h) (sym a) i
  mem_below (suc k) x n i a = has_parent (h.mems n) a.0 a.1

  -- ---- what is touched

  module _ (root : t.root ≡ h.root) where
    abbrev removed : List ℕ
    removed = removed_mems r head

    removed_parent : (x : ℕ) → In x removed → (p : ℕ) × (parent_of h x ≡ Some p)
    removed_parent x i = elim (in_either x ks dms i) [
      | inl j ↦ (let w = removed_is head r x j in
          (r.head.images.membrane w.1.inside, parent_is h vh.sound.listed x (r.head.images.membrane w.1.inside) (subst (λ z. In z (mems_in h (r.head.images.membrane w.1.inside))) w.3 (em.membranes_placed w.0 w.1 w.2))))
      | inr j ↦ (let w = hs.dm_parent x j in (w.0, parent_is h vh.sound.listed x w.0 w.1))
    ]

    -- no list of what is left has one that is removed, but that of one that is removed itself
    not_left : (p x : ℕ) → (In p removed → ⊥) → In x removed → In x (without_all ks (mems_in h p)) → ⊥
    not_left p x np i j =
        let w = in_withouts_of ks (mems_in h p) x (vh.sound.listed.mems_once p) j in
        elim (in_either x ks dms i) [ inl k ↦ w.1 k | inr k ↦ np (hs.holds_removed p (hs.mem_holds x p k w.0)) ]

    -- a membrane that is removed stands in none that isn't
    not_listed : (p x : ℕ) → (In p removed → ⊥) → In x removed → In x (mems_in t p) → ⊥
    not_listed p x np i j =
        elim (in_either x (without_all ks (mems_in h p)) (added_mems r fw.rests (λ k. without_all ks (mems_in h k)) (1 + length (membranes_of head)) body p) (subst (In x) (fw.mems p np) j)) [
          | inl q ↦ not_left p x np i q
          | inr q ↦ elim (mems_moved r fw.rests (λ k. without_all taken (atoms_in h k)) (λ k. without_all ks (mems_in h k)) (1 + length (membranes_of head)) body fw.rests_long hs.whole p x q) [
            | inl w ↦ absurd (let z : IsSome {T = HeapMem} None = subst (λ (o : Option HeapMem). IsSome o) (fw.made_fresh x w) (hs.removed_mem x i) in cc)
            | inr w ↦ from_moved w.0 w.1 w.2
          ]
        ]
      where
        from_moved : (k : ℕ) → In k (moved_mems r body) → In x (without_all ks (mems_in h k)) → ⊥
        from_moved k mv q =
            let w = in_withouts_of ks (mems_in h k) x (vh.sound.listed.mems_once k) q in
            elim (in_either x ks dms i) [ inl u ↦ w.1 u | inr u ↦ hs.moved_out k mv (hs.mem_holds x k u w.0) ]

    root_has_none : (p : ℕ) → parent_of h h.root ≡ Some p → ⊥
    root_has_none p e =
        let place = parent_place h h.root p e in
        let at_top = (vh.sound.listed.root h.root).1 refl in
        absurd (let z : Some within_p ≡ Some top_p = sym place ∙ at_top in let w : home_or (Some within_p) ≡ home_or (Some top_p) = ap home_or z in cc)
      where
        within_p : heap.Place
        within_p = heap.within p

        top_p : heap.Place
        top_p = heap.top

        home_or : Option heap.Place → Option ℕ
        home_or None = None
        home_or (Some q) = heap.home_by q

    gone_by : (d x : ℕ) → Above t d t.root x → In x removed → ⊥
    gone_by zero x a i = let p = removed_parent x i in root_has_none p.0 (ap (parent_of h) (sym (a ∙ root)) ∙ p.1)
    gone_by (suc d) x a i = not_listed a.0 x (λ j. gone_by d a.0 a.2 j) i ((vt.sound.listed.mems a.0 x).1 (parent_place t x a.0 a.1))

    -- a membrane that is removed is there no more
    pub gone : (x : ℕ) → In x removed → IsMem t x → ⊥
    gone x i there = let w = depth_of t vt x there in gone_by w.0 x w.1 i

    -- what is round a dropped membrane is dropped, or it is one of the head or round one
    round_dropped : (k x n : ℕ) → In n dms → Above h k x n → In x dms ⊎ ((y : ℕ) × (j : ℕ) × In y ks × Above h j x y)
    round_dropped zero x n i a = inl (subst (λ z. In z dms) a i)
    round_dropped (suc k) x n i a =
        let inner : In n (mems_in h a.0) = (vh.sound.listed.mems a.0 n).1 (parent_place h n a.0 a.1) in
        elim (in_either a.0 ks dms (hs.holds_removed a.0 (hs.mem_holds n a.0 i inner))) [ inl j ↦ inr (a.0, k, j, a.2) | inr j ↦ round_dropped k x a.0 j a.2 ]

    -- a membrane that is still there and not round something touched is quiet
    pub is_quiet : (x : ℕ) → IsMem h x → IsMem t x → ((y k : ℕ) → IsRoot h r head m y → Above h k x y → ⊥) → IsQuiet h t x
    is_quiet x there stands none = record {
      stood = there;
      untouched = λ n k a. untouched n (mem_below k x n there a) (out n k a) (λ w. none n k w a) (λ y i w. none y (suc k) w (n, parent_is h vh.sound.listed y n i, a));
    }
      where
        out : (n k : ℕ) → Above h k x n → In n dms → ⊥
        out n k a i = elim (round_dropped k x n i a) [
          | inl j ↦ gone x (in_right x ks dms j) stands
          | inr j ↦ none j.0 j.1 (of_mem j.2) j.3
        ]

    -- an atom that is taken stands nowhere
    taken_nowhere : (a x : ℕ) → In a taken → IsAtom h a → In a (atoms_in t x) → ⊥
    taken_nowhere a x i ia j =
        let there = holds_mem_of x a j in
        elim (in_either a (without_all taken (atoms_in h x)) (added_atoms r fw.rests (λ k. without_all taken (atoms_in h k)) N 0 body x) (subst (In a) (fw.atoms x (λ q. gone x q there)) j)) [
          | inl q ↦ (in_withouts_of taken (atoms_in h x) a (vh.sound.listed.atoms_once x) q).1 i
          | inr q ↦ elim (comes_from r fw.rests (λ k. without_all taken (atoms_in h k)) (λ k. without_all ks (mems_in h k)) N 0 body fw.rests_long hs.whole x a q) [
            | inl w ↦ absurd (let z : IsSome {T = HeapAtom} None = subst (λ (o : Option HeapAtom). IsSome o) (fw.new_fresh a w) ia in cc)
            | inr w ↦ (in_withouts_of taken (atoms_in h w.0) a (vh.sound.listed.atoms_once w.0) w.2).1 i
          ]
        ]
      where
        holds_mem_of : (x a : ℕ) → In a (atoms_in t x) → IsMem t x
        holds_mem_of x a j = by (t.mems x) j
          where
            by : (o : Option HeapMem) → In a (heap.atoms_by o) → IsSome o
            by None j = absurd j
            by (Some y) j = refl

    taken_gone : (a : ℕ) → In a taken → IsAtom h a → IsAtom t a → ⊥
    taken_gone a i ia there = by (home_of t a) refl (vt.settled.atoms a there)
      where
        by : (o : Option ℕ) → home_of t a ≡ o → IsSome o → ⊥
        by None e s = absurd (cc)
        by (Some x) e s = taken_nowhere a x i ia ((vt.sound.listed.atoms x a).1 (home_is t a x e))

    module _ (x : ℕ) (stands : IsMem t x) (quiet : IsQuiet h t x) where
      still_there : (k n : ℕ) → Above h k x n → IsMem t n
      still_there zero n a = subst (IsMem t) (sym a) stands
      still_there (suc k) n a =
          let inner : In n (mems_in h a.0) = (vh.sound.listed.mems a.0 n).1 (parent_place h n a.0 a.1) in
          mem_of_place t n (within a.0) ((vt.sound.listed.mems a.0 n).0 (subst (In n) (sym ((quiet.untouched a.0 k a.2).mems)) inner))

      -- so what is touched is not below a quiet membrane, but for the membrane of the rule
      pub none_touched : (y k : ℕ) → IsRoot h r head m y → (m ≡ y → ⊥) → Above h k x y → ⊥
      none_touched y k (of_rule e) o a = o e
      none_touched y k (of_mem i) o a = gone y (in_left y ks dms i) (still_there k y a)
      none_touched y k (of_atom n l e) o a =
          let u = quiet.untouched y k a in
          taken_nowhere (r.head.images.atom n) y (head_taken n l) (in_place_atom h (r.head.images.atom n) (subst (λ (q : Option ℕ). IsSome q) (sym e) refl)) (subst (In (r.head.images.atom n)) (sym (u.atoms)) (listed_at (r.head.images.atom n) y e))
      none_touched y k (of_partner n i p l e f) o a =
          let u = quiet.untouched y k a in
          let back = vh.sound.paired.back (r.head.images.atom n) i p.0 p.1 e in
          let now : link_of t p.0 p.1 ≡ Some (r.head.images.atom n, i) = u.links p.0 p.1 (listed_at p.0 y f) ∙ back in
          taken_gone (r.head.images.atom n) (head_taken n l) (linked_atom h (r.head.images.atom n) i e) (linked_atom t (r.head.images.atom n) i (vt.sound.paired.back p.0 p.1 (r.head.images.atom n) i now))
