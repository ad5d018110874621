-- What is quiet has the embeddings that it had, and no other.
use Rattle.std.proofs.Common.{ℕ, zero, suc, ◌≡◌, ◌≢◌, ◌<◌, ◌≤◌, ◌+◌, ◌==◌, Bool, true, false, cond, List, [], ◌∷◌, Option, Some, None, IsSome, inl, inr, refl, sym, ap, subst, ◌∙◌, length, map, arith}
use Rattle.std.specs.Prelude.{slice_get, slice_index_or}
use Rattle.std.proofs.lemmas.Option.{same_Some, slice_get_within}
use Rattle.lmn_base.proofs.Lists.{get_there}
use Rattle.std.specs.Option.{option_map}
use Rattle.lmn_solid_heads.specs.Guards.{IsOfKindAt, integer_of_functor, typed_number}
use Rattle.lmn_solid_heads.specs.Heads.{times, links_of_head}
use Rattle.lmn_schedule_sleep.proofs.Guards.{Alike, AllAlike, guard_alike}
use Rattle.lmn_base.specs.declared.guard.Cond.{Cond}
use Rattle.lmn_base.specs.Graphs.{Reached, at_root, across, StandsWhole, Port}
use Rattle.lmn_base.specs.Lists.{In}
use Rattle.lmn_guards.specs.declared.plan.TypeKind.{TypeKind}
use Rattle.lmn_guards.specs.declared.plan.TypeKind.TheVariants.{Int, Unary, Ground}
use Rattle.lmn_store_heap.specs.Heap.{Heap, atoms_in, mems_in, functor_of, link_of, home_of}
use Rattle.lmn_store_heap.specs.Sound.{Valid}
use Rattle.lmn_store_heap.specs.Conditions.{Above}
use Rattle.lmn_store_heap.specs.Graphs.{atom_map}
use Rattle.lmn_store_heap.proofs.Common.{home_placed}
use Rattle.lmn_store_heap.proofs.Listing.{home_is}
use Rattle.lmn_store_heap.proofs.Heights.{parent_is, parent_place, climbs_both}
use Rattle.lmn_solid_heads.specs.declared.items.HeadItem.{HeadItem}
use Rattle.lmn_solid_heads.specs.Heads.{HeadAtom, HeadTyped, HeadMembrane, typed_contexts_of, membranes_of, inside_of, outermost_by, outermost}
use Rattle.lmn_solid_heads.specs.Embeddings.{Images, Embeds, Lies, HasAtom, HasTyped, HasMembrane, IsPartOf, IsInRest, StandsWithin, partner, meaning}
use Rattle.lmn_schedule_sleep.specs.Quiet.{IsQuiet, IsUntouched}
use Rattle.lmn_solid_heads.proofs.Common.{typed_there}

-- Each item of a head stands in the membrane of the rule or in one of the head that came before.
pub record IsNested (items : List HeadItem) : Type 0 where
  pub membranes : (i : ℕ) (b : HeadMembrane) → slice_get (membranes_of items) i ≡ Some b → b.inside ≤ i
  pub atoms : (n : ℕ) (a : HeadAtom) → HasAtom items n a → a.inside ≤ length (membranes_of items)
  pub typed : (n : ℕ) (t : HeadTyped) → HasTyped items n t → t.inside ≤ length (membranes_of items)

-- ---- the outermost membrane is one of the head

low_inside : (ms : List HeadMembrane) (most : ℕ) → ((i : ℕ) (b : HeadMembrane) → slice_get ms i ≡ Some b → b.inside ≤ most) → (k : ℕ) → slice_index_or (map (λ m. m.inside) ms) k 0 ≤ most
low_inside [] most low zero = omega arith
low_inside [] most low (suc k) = omega arith
low_inside (b ∷ ms) most low zero = low zero b refl
low_inside (b ∷ ms) most low (suc k) = low_inside ms most (λ i. low (suc i)) k

low_round : (ms : List HeadMembrane) (most : ℕ) → ((i : ℕ) (b : HeadMembrane) → slice_get ms i ≡ Some b → b.inside ≤ most) → (k : ℕ) → k ≤ most → inside_of ms k ≤ most
low_round ms most low zero l = omega arith
low_round ms most low (suc k) l = low_inside ms most low k

low_outermost : (fuel : ℕ) (ms : List HeadMembrane) (most : ℕ) → ((i : ℕ) (b : HeadMembrane) → slice_get ms i ≡ Some b → b.inside ≤ most) → (k : ℕ) → k ≤ most → outermost_by fuel ms k ≤ most
low_outermost zero ms most low k l = l
low_outermost (suc fuel) ms most low k l = by (inside_of ms k == 0) (low_outermost fuel ms most low (inside_of ms k) (low_round ms most low k l))
  where
    by : (t : Bool) → outermost_by fuel ms (inside_of ms k) ≤ most → cond t k (outermost_by fuel ms (inside_of ms k)) ≤ most
    by true up = l
    by false up = up

-- ---- what is below a quiet membrane

module _ (h t : Heap) (vh : Valid h) (vt : Valid t) (m : ℕ) (quiet : IsQuiet h t m) where
  abbrev pub Within : ℕ → Type 0
  Within n = (k : ℕ) × Above h k m n

  pub untouched : (n : ℕ) → Within n → IsUntouched h t n
  untouched n w = quiet.untouched n w.0 w.1

  pub was_inner : (x n : ℕ) → Within x → In n (mems_in t x) → In n (mems_in h x)
  was_inner x n w i = subst (In n) ((untouched x w).mems) i

  pub is_inner : (x n : ℕ) → Within x → In n (mems_in h x) → In n (mems_in t x)
  is_inner x n w i = subst (In n) (sym ((untouched x w).mems)) i

  pub was_atom : (x a : ℕ) → Within x → In a (atoms_in t x) → In a (atoms_in h x)
  was_atom x a w i = subst (In a) ((untouched x w).atoms) i

  pub is_atom : (x a : ℕ) → Within x → In a (atoms_in h x) → In a (atoms_in t x)
  is_atom x a w i = subst (In a) (sym ((untouched x w).atoms)) i

  -- what stands in a membrane below it is below it
  pub inner_within : (x n : ℕ) → Within x → In n (mems_in h x) → Within n
  inner_within x n w i = (suc w.0, (x, parent_is h vh.sound.listed n x i, w.1))

  -- homes, in both heaps
  pub home_before : (a x : ℕ) → In a (atoms_in h x) → home_of h a ≡ Some x
  home_before a x i = home_placed (h.atoms a) x ((vh.sound.listed.atoms x a).0 i)

  pub home_after : (a x : ℕ) → In a (atoms_in t x) → home_of t a ≡ Some x
  home_after a x i = home_placed (t.atoms a) x ((vt.sound.listed.atoms x a).0 i)

  pub listed_before : (a x : ℕ) → home_of h a ≡ Some x → In a (atoms_in h x)
  listed_before a x e = (vh.sound.listed.atoms x a).1 (home_is h a x e)

  pub listed_after : (a x : ℕ) → home_of t a ≡ Some x → In a (atoms_in t x)
  listed_after a x e = (vt.sound.listed.atoms x a).1 (home_is t a x e)

  -- a membrane above one that is below it is so in both heaps
  pub still_above : (k x n : ℕ) → Within x → Above h k x n → Above t k x n
  still_above zero x n w a = a
  still_above (suc k) x n w a =
      let up : Within a.0 = (k + w.0, climbs_both h k w.0 m x a.0 a.2 w.1) in
      let inner : In n (mems_in h a.0) = (vh.sound.listed.mems a.0 n).1 (parent_place h n a.0 a.1) in
      (a.0, parent_is t vt.sound.listed n a.0 (is_inner a.0 n up inner), still_above k x a.0 w a.2)

  -- an atom that stood below one of them stands there
  pub still_within : (a x : ℕ) → Within x → StandsWithin h a x → StandsWithin t a x
  still_within a x w s =
      let here : Within s.0 = (s.1 + w.0, climbs_both h s.1 w.0 m x s.0 s.3 w.1) in
      (s.0, s.1, home_after a s.0 (is_atom s.0 a here (listed_before a s.0 s.2)), still_above s.1 x s.0 w s.3)

  -- and the other way round
  pub was_above : (k x n : ℕ) → Within x → Above t k x n → Above h k x n
  was_above zero x n w a = a
  was_above (suc k) x n w a =
      let before = was_above k x a.0 w a.2 in
      let up : Within a.0 = (k + w.0, climbs_both h k w.0 m x a.0 before w.1) in
      let inner : In n (mems_in t a.0) = (vt.sound.listed.mems a.0 n).1 (parent_place t n a.0 a.1) in
      (a.0, parent_is h vh.sound.listed n a.0 (was_inner a.0 n up inner), before)

  pub was_within : (a x : ℕ) → Within x → StandsWithin t a x → StandsWithin h a x
  was_within a x w s =
      let before = was_above s.1 x s.0 w s.3 in
      let here : Within s.0 = (s.1 + w.0, climbs_both h s.1 w.0 m x s.0 before w.1) in
      (s.0, s.1, home_before a s.0 (was_atom s.0 a here (listed_after a s.0 s.2)), before)

  pub functor_same : (a x : ℕ) → Within x → In a (atoms_in h x) → functor_of t a ≡ functor_of h a
  functor_same a x w i = (untouched x w).functors a i

  pub link_same : (a i x : ℕ) → Within x → In a (atoms_in h x) → link_of t a i ≡ link_of h a i
  link_same a i x w s = (untouched x w).links a i s

  -- ---- parts

  module _ (root : Port) (x : ℕ) (w : Within x) (whole : StandsWhole (atom_map t) root x) where
    pub reached_home : (a : ℕ) → Reached (atom_map t) root a → In a (atoms_in h x)
    reached_home a r = was_atom x a w (listed_after a x (whole.at_home a r))

    pub reached_before : (a : ℕ) → Reached (atom_map t) root a → Reached (atom_map h) root a
    reached_before _ at_root = at_root
    reached_before _ (across {a = a} {b = b} {i = i} {j = j} r n e) = across (reached_before a r) n (sym (link_same a i x w (reached_home a r)) ∙ e)

    pub reached_after : (a : ℕ) → Reached (atom_map h) root a → Reached (atom_map t) root a
    reached_after _ at_root = at_root
    reached_after _ (across {a = a} {b = b} {i = i} {j = j} r n e) =
        let there = reached_after a r in
        across there n (link_same a i x w (reached_home a there) ∙ e)

    pub part_functor : (a : ℕ) → Reached (atom_map t) root a → functor_of t a ≡ functor_of h a
    part_functor a r = functor_same a x w (reached_home a r)

    pub part_link : (a i : ℕ) → Reached (atom_map t) root a → link_of t a i ≡ link_of h a i
    part_link a i r = link_same a i x w (reached_home a r)

    pub whole_before : StandsWhole (atom_map h) root x
    whole_before = record {
      at_home = λ a r. home_before a x (reached_home a (reached_after a r));
      no_other_end = λ a i f r e l n.
          (let there = reached_after a r in
          subst (λ o. IsSome o) (part_link a i there) (whole.no_other_end a i f there (part_functor a there ∙ e) l n));
    }

  -- ---- an embedding

  module _ (items : List HeadItem) (nested : IsNested items) (guard : List Cond) (f : Images) (em : Embeds t items guard m f) where
    e : Lies t items m f
    e = em.lies

    -- the images of the membranes are below it
    within_by : (fuel k : ℕ) → k < fuel → k ≤ length (membranes_of items) → Within (f.membrane k)
    within_by zero k l u = absurd (omega (arith, l))
    within_by (suc fuel) zero l u = (0, e.here)
    within_by (suc fuel) (suc i) l u =
        let b = get_there (membranes_of items) i (omega (arith, u)) in
        let low = nested.membranes i b.0 b.1 in
        let up = within_by fuel b.0.inside (omega (arith, low, l)) (omega (arith, low, u)) in
        inner_within (f.membrane b.0.inside) (f.membrane (suc i)) up (was_inner (f.membrane b.0.inside) (f.membrane (suc i)) up (e.membranes_placed (suc i) b.0 (i, refl, b.1)))

    image_within : (k : ℕ) → k ≤ length (membranes_of items) → Within (f.membrane k)
    image_within k u = within_by (suc k) k (omega arith) u

    of_membrane : (k : ℕ) (n : HeadMembrane) → HasMembrane items k n → Within (f.membrane k)
    of_membrane k n w = image_within k (let l = slice_get_within (membranes_of items) w.0 n w.2 in let q = w.1 in omega (arith, l, q))

    of_round : (k : ℕ) (n : HeadMembrane) → HasMembrane items k n → Within (f.membrane n.inside)
    of_round k n w = image_within n.inside (let l = slice_get_within (membranes_of items) w.0 n w.2 in let q = nested.membranes w.0 n w.2 in omega (arith, l, q))

    of_atom : (n : ℕ) (a : HeadAtom) → HasAtom items n a → Within (f.membrane a.inside)
    of_atom n a w = image_within a.inside (nested.atoms n a w)

    of_typed : (n : ℕ) (a : HeadTyped) → HasTyped items n a → Within (f.membrane a.inside)
    of_typed n a w = image_within a.inside (nested.typed n a w)

    atom_stood : (n : ℕ) (a : HeadAtom) → HasAtom items n a → In (f.atom n) (atoms_in h (f.membrane a.inside))
    atom_stood n a w = was_atom (f.membrane a.inside) (f.atom n) (of_atom n a w) (e.atoms_placed n a w)

    link_stood : (n i : ℕ) (a : HeadAtom) → HasAtom items n a → link_of t (f.atom n) i ≡ link_of h (f.atom n) i
    link_stood n i a w = link_same (f.atom n) i (f.membrane a.inside) (of_atom n a w) (atom_stood n a w)

    part_whole : (n : ℕ) (a : HeadTyped) → HasTyped items n a → StandsWhole (atom_map t) (f.part n) (f.membrane a.inside)
    part_whole n a w = (e.parts n a w).whole

    part_before : (n : ℕ) (a : HeadTyped) → HasTyped items n a → (b : ℕ) → Reached (atom_map t) (f.part n) b → Reached (atom_map h) (f.part n) b
    part_before n a w b r = reached_before (f.part n) (f.membrane a.inside) (of_typed n a w) (part_whole n a w) b r

    part_after : (n : ℕ) (a : HeadTyped) → HasTyped items n a → (b : ℕ) → Reached (atom_map h) (f.part n) b → Reached (atom_map t) (f.part n) b
    part_after n a w b r = reached_after (f.part n) (f.membrane a.inside) (of_typed n a w) (part_whole n a w) b r

    root_functor : (n : ℕ) (a : HeadTyped) → HasTyped items n a → functor_of t (f.part n).0 ≡ functor_of h (f.part n).0
    root_functor n a w = part_functor (f.part n) (f.membrane a.inside) (of_typed n a w) (part_whole n a w) (f.part n).0 at_root

    kind_before : (k : TypeKind) (n : ℕ) (a : HeadTyped) → HasTyped items n a → IsOfKindAt t k (f.part n) → IsOfKindAt h k (f.part n)
    kind_before Int n a w (z, q) = (z, ap integer_of_functor (sym (root_functor n a w)) ∙ q)
    kind_before Unary n a w q = (q.0, sym (root_functor n a w) ∙ q.1, q.2)
    kind_before Ground n a w q = q

    part_stood : (n : ℕ) (a : HeadTyped) → HasTyped items n a → IsPartOf h items f n a
    part_stood n a w =
        let p = e.parts n a w in
        record {
          held = λ q l. sym (link_stood q.0 q.1 l.0 l.1) ∙ p.held q l;
          of_kind = kind_before a.kind n a w p.of_kind;
          whole = whole_before (f.part n) (f.membrane a.inside) (of_typed n a w) p.whole;
          apart = λ b r. p.apart b (part_after n a w b r);
        }

    part_alike : (n : ℕ) (a : HeadTyped) → HasTyped items n a → Alike (atom_map t) (atom_map h) (f.part n)
    part_alike n a w = record {
      to = part_before n a w;
      from = part_after n a w;
      functors = λ b r. sym (part_functor (f.part n) (f.membrane a.inside) (of_typed n a w) (part_whole n a w) b r);
      links = λ b i r. sym (part_link (f.part n) (f.membrane a.inside) (of_typed n a w) (part_whole n a w) b i r);
    }

    meant_alike : AllAlike h t (meaning items f)
    meant_alike x p q = by (typed_number (typed_contexts_of items) 0 x) refl q
      where
        by : (o : Option ℕ) → typed_number (typed_contexts_of items) 0 x ≡ o → option_map f.part o ≡ Some p → Alike (atom_map t) (atom_map h) p
        by None r q = absurd (cc)
        by (Some n) r q =
            let k = typed_there (typed_contexts_of items) 0 x n r in
            let z : n ≡ k.0 = (let y = k.2 in omega (arith, y)) in
            subst (Alike (atom_map t) (atom_map h)) (same_Some (f.part n) p q) (part_alike n k.1 (ap (slice_get (typed_contexts_of items)) z ∙ k.3))

    outside_stood : (n i x : ℕ) (a : HeadAtom) (p : Port) → HasAtom items n a → slice_get a.links i ≡ Some x → times x (links_of_head items) ≡ 1 → a.inside ≢ 0 →
        partner h (f.atom n, i) ≡ Some p → StandsWithin h p.0 (f.membrane (outermost (membranes_of items) a.inside)) → ⊥
    outside_stood n i x a p w l once d q s =
        let top = outermost (membranes_of items) a.inside in
        let low : top ≤ length (membranes_of items) =
        low_outermost (length (membranes_of items)) (membranes_of items) (length (membranes_of items)) (λ j b r. (let k = nested.membranes j b r in let o = slice_get_within (membranes_of items) j b r in omega (arith, k, o)))
        a.inside (nested.atoms n a w) in
        em.outside n i x a p w l once d (link_stood n i a w ∙ q) (still_within p.0 (f.membrane top) (image_within top low) s)

    -- an atom of a rest stands in a membrane below it
    rest_home : (k : ℕ) (n : HeadMembrane) (b : ℕ) → HasMembrane items k n → IsInRest h items f k b → (x : ℕ) × Within x × In b (atoms_in h x)
    rest_home k n b w (inl q) = (f.membrane k, of_membrane k n w, q.0)
    rest_home k n b w (inr q) =
        let inner = inner_within (f.membrane k) q.0 (of_membrane k n w) q.1 in
        let s = q.3 in
        (s.0, (s.1 + inner.0, climbs_both h s.1 inner.0 m q.0 s.0 s.3 inner.1), listed_before b s.0 s.2)

    rest_after : (k : ℕ) (n : HeadMembrane) (b : ℕ) → HasMembrane items k n → IsInRest h items f k b → IsInRest t items f k b
    rest_after k n b w (inl q) = inl (is_atom (f.membrane k) b (of_membrane k n w) q.0, q.1, λ r. q.2 (r.0, r.1, r.2, r.3, part_before r.0 r.1 r.2 b r.4))
    rest_after k n b w (inr q) =
        let inner = inner_within (f.membrane k) q.0 (of_membrane k n w) q.1 in
        inr (q.0, is_inner (f.membrane k) q.0 (of_membrane k n w) q.1, q.2, still_within b q.0 inner q.3)

    rest_before : (k : ℕ) (n : HeadMembrane) (b : ℕ) → HasMembrane items k n → IsInRest t items f k b → IsInRest h items f k b
    rest_before k n b w (inl q) = inl (was_atom (f.membrane k) b (of_membrane k n w) q.0, q.1, λ r. q.2 (r.0, r.1, r.2, r.3, part_after r.0 r.1 r.2 b r.4))
    rest_before k n b w (inr q) =
        let there = was_inner (f.membrane k) q.0 (of_membrane k n w) q.1 in
        let inner = inner_within (f.membrane k) q.0 (of_membrane k n w) there in
        inr (q.0, there, q.2, was_within b q.0 inner q.3)

    -- a rest that is closed was closed
    closed_stood : (k : ℕ) (n : HeadMembrane) (b i : ℕ) (p : Port) → HasMembrane items k n → n.has_closed_context ≡ true → IsInRest h items f k b → partner h (b, i) ≡ Some p → IsInRest h items f k p.0
    closed_stood k n b i p w closed rest q =
        let r = rest_home k n b w rest in
        rest_before k n p.0 w (e.closed k n b i p w closed (rest_after k n b w rest) (link_same b i r.0 r.1 r.2 ∙ q))

    lies_stood : Lies h items m f
    lies_stood = record {
      here = e.here;
      atoms_differ = e.atoms_differ;
      membranes_differ = e.membranes_differ;
      functors = λ n a w. sym (functor_same (f.atom n) (f.membrane a.inside) (of_atom n a w) (atom_stood n a w)) ∙ e.functors n a w;
      atoms_placed = atom_stood;
      membranes_placed = λ k n w. was_inner (f.membrane n.inside) (f.membrane k) (of_round k n w) (e.membranes_placed k n w);
      joined = λ x p q l r d. sym (link_stood p.0 p.1 l.0 l.1) ∙ e.joined x p q l r d;
      no_other_atom = λ k n b w none i.
          elim (e.no_other_atom k n b w none (is_atom (f.membrane k) b (of_membrane k n w) i)) [
            | inl q ↦ inl q
            | inr q ↦ inr (q.0, q.1, q.2, q.3, part_before q.0 q.1 q.2 b q.4)
          ];
      no_other_membrane = λ k n b w none i. e.no_other_membrane k n b w none (is_inner (f.membrane k) b (of_membrane k n w) i);
      no_rule = λ k n w none. sym ((untouched (f.membrane k) (of_membrane k n w)).rules) ∙ e.no_rule k n w none;
      closed = closed_stood;
      parts = part_stood;
    }

    -- it was one before
    pub embedding_stood : Embeds h items guard m f
    embedding_stood = record {
      lies = lies_stood;
      outside = outside_stood;
      holds = guard_alike h t guard (meaning items f) meant_alike em.holds;
    }
