-- Where a head embeds, its images are chosen and are those of the rule.
use Rattle.std.proofs.Common.{◌≡◌, ◌≢◌, ◌∙◌, ◌⊎◌, ℕ, zero, suc, ◌+◌, ◌<◌, ◌≤◌, Bool, List, [], ◌∷◌, ◌++◌, length, map, slice_get, slice_index_or, Some, None, refl, sym, ap, subst, inl, inr, arith}
use Rattle.std.specs.Option.{option_map}
use Rattle.std.proofs.lemmas.List.{length_push}
use Rattle.std.proofs.lemmas.Option.{same_Some}
use Rattle.lmn_base.specs.declared.guard.Cond.{Cond}
use Rattle.lmn_base.specs.Lists.{In}
use Rattle.lmn_base.specs.Graphs.{Port, Reached, StandsWhole}
use Rattle.lmn_base.proofs.Lists.{get_below, get_front, get_last, get_there, get_index, read_or}
use Rattle.lmn_base.proofs.Numbers.{below_next2}
use Rattle.lmn_store_heap.proofs.PartLists.{all_of_part, part_list}
use Rattle.lmn_store_heap.specs.Heap.{Heap, link_of, atoms_in, mems_in}
use Rattle.lmn_store_heap.specs.Sound.{Valid}
use Rattle.lmn_store_heap.specs.Graphs.{atom_map}
use Rattle.lmn_solid_heads.specs.declared.items.HeadItem.{HeadItem}
use Rattle.lmn_solid_heads.specs.declared.items.HeadItem.TheVariants.{Atom, Typed, Membrane}
use Rattle.lmn_solid_heads.specs.Heads.{HeadAtom, HeadTyped, HeadMembrane, atoms_of, membranes_of, typed_contexts_of, outermost}
use Rattle.lmn_solid_heads.specs.Embeddings.{Embeds, Images, HasAtom, HasLink, HasMembrane, HasTyped, IsAtomImage, IsInPart, IsInRest, IsMembraneImage, IsPartOf, StandsWithin, index_of, positions}
use Rattle.lmn_solid_heads.specs.Guards.{HoldsOnHeap, Meaning, typed_number}
use Rattle.lmn_solid_tables.specs.Flats.{port_by}
use Rattle.lmn_compile_head.specs.Heads.{EachInside, IsHead}
use Rattle.lmn_solid_search.specs.Choosing.{CanBe, Chooses, at_home, places, with_atom, with_membrane}
use Rattle.lmn_solid_search.specs.Holding.{Holds, IsRestBy}
use Rattle.lmn_solid_search.specs.Meeting.{Meets}
use Rattle.lmn_solid_search.specs.Parting.{AreTaken, AtomsAre, IsMine, IsPart, first_named}
use Rattle.lmn_solid_search.specs.Placing.{membrane_at, outermost_in, times_in}
use Rattle.lmn_solid_search.specs.Taking.{IsTakenApart, StandsAt, kept_atom, kept_membrane, kept_typed}
use Rattle.lmn_solid_search.specs.declared.head.AtomItem.{AtomItem}
use Rattle.lmn_solid_search.specs.declared.head.Head.{Head}
use Rattle.lmn_solid_search.specs.declared.head.MembraneItem.{MembraneItem}
use Rattle.lmn_solid_search.specs.declared.head.TypedItem.{TypedItem}
use Rattle.lmn_solid_search.specs.declared.parts.Part.{Part}
use Rattle.lmn_solid_search.specs.declared.placed.Placed.{Placed}
use Rattle.lmn_solid_search.proofs.EmbeddingLemmas.{atoms_long, mapped, membranes_long, unmapped}
use Rattle.lmn_solid_search.proofs.LyingLemmas.{named_same, outermost_same, times_same}
use Rattle.lmn_adequacy_heaps.proofs.OutOf.{in_index as in_at, index_in as item_in}
use Rattle.lmn_compile_head.proofs.Nesting.{atoms_inside as atoms_within, membranes_inside as membranes_within}
use Rattle.lmn_compile_head.proofs.Common.{outer_less, typed_inside as typed_within}

-- ---- items nest

pub outer_within : (items : List HeadItem) → EachInside 0 items → (k : ℕ) → outermost (membranes_of items) k ≤ k
outer_within items n k = outer_less (length (membranes_of items)) (membranes_of items) k (λ j b e. let l = membranes_within 0 items n j b e in omega (arith, l))

-- ---- the placement by images

abbrev pub placed_by : Images → List HeadItem → Placed → Placed
placed_by f [] p = p
placed_by f (Atom functor links inside ∷ xs) p = placed_by f xs (with_atom p (f.atom (length p.atoms)))
placed_by f (Typed name kind link inside ∷ xs) p = placed_by f xs p
placed_by f (Membrane inside has_context has_closed_context has_rule_context ∷ xs) p = placed_by f xs (with_membrane p (f.membrane (suc (length p.membranes))))

pub record IsBy (f : Images) (p : Placed) : Type 0 where
  pub home : p.home ≡ f.membrane 0
  pub atoms : (n : ℕ) → n < length p.atoms → slice_index_or p.atoms n 0 ≡ f.atom n
  pub membranes : (n : ℕ) → n < length p.membranes → slice_index_or p.membranes n 0 ≡ f.membrane (suc n)

snoc_by : (g : ℕ → ℕ) (xs : List ℕ) → ((n : ℕ) → n < length xs → slice_index_or xs n 0 ≡ g n) → (n : ℕ) → n < length (xs ++ g (length xs) ∷ []) → slice_index_or (xs ++ g (length xs) ∷ []) n 0 ≡ g n
snoc_by g xs h n l = by (below_next2 n (length xs) (let s = length_push xs (g (length xs)) in omega (arith, l, s)))
  where
    by : (n < length xs) ⊎ (n ≡ length xs) → slice_index_or (xs ++ g (length xs) ∷ []) n 0 ≡ g n
    by (inl low) = read_or (xs ++ g (length xs) ∷ []) n _ (get_front xs (g (length xs) ∷ []) n _ (get_index xs n low)) ∙ h n low
    by (inr e) = ap (λ k. slice_index_or (xs ++ g (length xs) ∷ []) k 0) e ∙ read_or (xs ++ g (length xs) ∷ []) (length xs) _ (get_last xs (g (length xs))) ∙ ap g (sym e)

by_atom : (f : Images) (p : Placed) → IsBy f p → IsBy f (with_atom p (f.atom (length p.atoms)))
by_atom f p b = record { home = b.home; atoms = snoc_by f.atom p.atoms b.atoms; membranes = b.membranes }

by_membrane : (f : Images) (p : Placed) → IsBy f p → IsBy f (with_membrane p (f.membrane (suc (length p.membranes))))
by_membrane f p b = record { home = b.home; atoms = b.atoms; membranes = snoc_by (λ n. f.membrane (suc n)) p.membranes b.membranes }

by_all : (f : Images) (xs : List HeadItem) (p : Placed) → IsBy f p → IsBy f (placed_by f xs p)
by_all f [] p b = b
by_all f (Atom functor links inside ∷ xs) p b = by_all f xs (with_atom p (f.atom (length p.atoms))) (by_atom f p b)
by_all f (Typed name kind link inside ∷ xs) p b = by_all f xs p b
by_all f (Membrane inside has_context has_closed_context has_rule_context ∷ xs) p b = by_all f xs (with_membrane p (f.membrane (suc (length p.membranes)))) (by_membrane f p b)

image_by : (f : Images) (p : Placed) → IsBy f p → (k : ℕ) → k ≤ length p.membranes → membrane_at p.home p.membranes k ≡ f.membrane k
image_by f p b zero l = b.home
image_by f p b (suc k) l = b.membranes k (omega (arith, l))

-- these items are the last ones of a head
pub record Rests (items xs : List HeadItem) (p : Placed) : Type 0 where
  pub atoms : (j n : ℕ) (a : HeadAtom) → slice_get (atoms_of xs) j ≡ Some a → n ≡ length p.atoms + j → HasAtom items n a
  pub membranes : (j n : ℕ) (b : HeadMembrane) → slice_get (membranes_of xs) j ≡ Some b → n ≡ length p.membranes + j → slice_get (membranes_of items) n ≡ Some b
  pub inside : EachInside (length p.membranes) xs

module _ (items xs : List HeadItem) (p : Placed) where
  rests_atom : (functor : _) (links : List ℕ) (inside a : ℕ) → Rests items (Atom functor links inside ∷ xs) p → Rests items xs (with_atom p a)
  rests_atom functor links inside a r = record {
    atoms = λ j n b e is. r.atoms (suc j) n b e (let l = length_push p.atoms a in omega (arith, is, l));
    membranes = r.membranes;
    inside = r.inside.1;
  }

  rests_typed : (name : ℕ) (kind : _) (link inside : ℕ) → Rests items (Typed name kind link inside ∷ xs) p → Rests items xs p
  rests_typed name kind link inside r = record { atoms = r.atoms; membranes = r.membranes; inside = r.inside.1 }

  rests_membrane : (inside : ℕ) (has_context has_closed_context has_rule_context : Bool) (m : ℕ) → Rests items (Membrane inside has_context has_closed_context has_rule_context ∷ xs) p → Rests items xs (with_membrane p m)
  rests_membrane inside has_context has_closed_context has_rule_context m r = record {
    atoms = r.atoms;
    membranes = λ j n b e is. r.membranes (suc j) n b e (let l = length_push p.membranes m in omega (arith, is, l));
    inside = subst (λ k. EachInside k xs) (sym (length_push p.membranes m)) r.inside.1;
  }

module _ (h : Heap) (v : Valid h) (items : List HeadItem) (head : Head) (kept : IsTakenApart items head) (is : IsHead items) (guard : List Cond) (m : ℕ) (f : Images) (e : Embeds h items guard m f) where
  has : (x : ℕ) (p : Port) → StandsAt head.atoms x p → HasLink items x p
  has x p (b, at, link) =
      let a = unmapped kept_atom (atoms_of items) head.atoms p.0 b kept.atoms at in
      (a.0, a.1, subst (λ (z : AtomItem). slice_get z.links p.1 ≡ Some x) (sym a.2) link)

  pub chosen_by : (xs : List HeadItem) (p : Placed) → IsBy f p → Rests items xs p → Chooses h head xs p (placed_by f xs p)
  chosen_by [] p b r = refl
  chosen_by (Atom functor links inside ∷ xs) p b r = (
    f.atom (length p.atoms),
    subst (λ z. In (f.atom (length p.atoms)) (atoms_in h z)) (sym (image_by f p b inside r.inside.0)) (e.lies.atoms_placed (length p.atoms) _ at),
    (e.lies.functors (length p.atoms) _ at, new, λ i x s o low t apart. fits i x s o low t apart),
    chosen_by xs (with_atom p (f.atom (length p.atoms))) (by_atom f p b) (rests_atom items xs p functor links inside (f.atom (length p.atoms)) r),
  )
    where
      at : HasAtom items (length p.atoms) (record { functor = functor; links = links; inside = inside })
      at = r.atoms 0 (length p.atoms) _ refl (omega arith)

      new : In (f.atom (length p.atoms)) p.atoms → ⊥
      new i =
          let k = in_at p.atoms (f.atom (length p.atoms)) i in
          let low = k.1 in
          let l = get_below (atoms_of items) (length p.atoms) _ at in
          let same = e.lies.atoms_differ k.0 (length p.atoms) (omega (arith, low, l)) l (sym (b.atoms k.0 low) ∙ k.2) in
          absurd (omega (arith, low, same))

      next : IsBy f (with_atom p (f.atom (length p.atoms)))
      next = by_atom f p b

      fits : (i x : ℕ) → StandsAt head.atoms x (length p.atoms, i) → (o : Port) → o.0 < length (p.atoms ++ f.atom (length p.atoms) ∷ []) → StandsAt head.atoms x o → o ≢ (length p.atoms, i)
          → link_of h (slice_index_or (p.atoms ++ f.atom (length p.atoms) ∷ []) (length p.atoms) 0) i ≡ Some (slice_index_or (p.atoms ++ f.atom (length p.atoms) ∷ []) o.0 0, o.1)
      fits i x s o low t apart =
          subst (λ z. link_of h z i ≡ Some (slice_index_or (p.atoms ++ f.atom (length p.atoms) ∷ []) o.0 0, o.1)) (sym (next.atoms (length p.atoms) (let l = length_push p.atoms (f.atom (length p.atoms)) in omega (arith, l))))
          (subst (λ z. link_of h (f.atom (length p.atoms)) i ≡ Some (z, o.1)) (sym (next.atoms o.0 low))
          (e.lies.joined x (length p.atoms, i) o (has x (length p.atoms, i) s) (has x o t) (λ z. apart (sym z))))
  chosen_by (Typed name kind link inside ∷ xs) p b r = chosen_by xs p b (rests_typed items xs p name kind link inside r)
  chosen_by (Membrane inside has_context has_closed_context has_rule_context ∷ xs) p b r = (
    f.membrane (suc (length p.membranes)),
    subst (λ z. In (f.membrane (suc (length p.membranes))) (mems_in h z)) (sym (image_by f p b inside r.inside.0)) (e.lies.membranes_placed (suc (length p.membranes)) _ (length p.membranes, refl, at)),
    new,
    chosen_by xs (with_membrane p (f.membrane (suc (length p.membranes)))) (by_membrane f p b) (rests_membrane items xs p inside has_context has_closed_context has_rule_context (f.membrane (suc (length p.membranes))) r),
  )
    where
      at : slice_get (membranes_of items) (length p.membranes) ≡ Some (record { inside = inside; has_context = has_context; has_closed_context = has_closed_context; has_rule_context = has_rule_context })
      at = r.membranes 0 (length p.membranes) _ refl (omega arith)

      new : In (f.membrane (suc (length p.membranes))) p.membranes → ⊥
      new i =
          let k = in_at p.membranes (f.membrane (suc (length p.membranes))) i in
          let low = k.1 in
          let l = get_below (membranes_of items) (length p.membranes) _ at in
          let same = e.lies.membranes_differ k.0 (length p.membranes) (omega (arith, low, l)) l (sym (b.membranes k.0 low) ∙ k.2) in
          absurd (omega (arith, low, same))

  pub places_by : (xs : List HeadItem) (p : Placed) (b : IsBy f p) (r : Rests items xs p) (n k : ℕ) → n ≡ length p.atoms → k ≡ suc (length p.membranes) → places h head xs p (placed_by f xs p) (chosen_by xs p b r) ≡ positions h f n k xs
  unfolding chosen_by
  places_by [] p b r n k en ek = refl
  places_by (Atom functor links inside ∷ xs) p b r n k en ek =
      let rest = places_by xs (with_atom p (f.atom (length p.atoms))) (by_atom f p b) (rests_atom items xs p functor links inside (f.atom (length p.atoms)) r) (n + 1) k (let l = length_push p.atoms (f.atom (length p.atoms)) in omega (arith, l, en)) ek in
      λ i. index_of (f.atom (sym en i)) (atoms_in h (image_by f p b inside r.inside.0 i)) ∷ rest i
  places_by (Typed name kind link inside ∷ xs) p b r n k en ek = places_by xs p b (rests_typed items xs p name kind link inside r) n k en ek
  places_by (Membrane inside has_context has_closed_context has_rule_context ∷ xs) p b r n k en ek =
      let rest = places_by xs (with_membrane p (f.membrane (suc (length p.membranes)))) (by_membrane f p b) (rests_membrane items xs p inside has_context has_closed_context has_rule_context (f.membrane (suc (length p.membranes))) r) n (k + 1) en (let l = length_push p.membranes (f.membrane (suc (length p.membranes))) in omega (arith, l, ek)) in
      λ i. index_of (f.membrane (sym ek i)) (mems_in h (image_by f p b inside r.inside.0 i)) ∷ rest i

  -- ---- the whole placement

  pub start : IsBy f (at_home m)
  start = record { home = sym e.lies.here; atoms = λ n l. absurd (omega (arith, l)); membranes = λ n l. absurd (omega (arith, l)) }

  pub begin : Rests items items (at_home m)
  begin = record {
    atoms = λ j n a g at. (let z : j ≡ n = omega (arith, at) in subst (λ k. HasAtom items k a) z g);
    membranes = λ j n b g at. (let z : j ≡ n = omega (arith, at) in subst (λ k. slice_get (membranes_of items) k ≡ Some b) z g);
    inside = is.inside;
  }

  abbrev pub placement : Placed
  placement = placed_by f items (at_home m)

  abbrev pub choice : Chooses h head items (at_home m) placement
  choice = chosen_by items (at_home m) start begin

  pub choice_places : places h head items (at_home m) placement choice ≡ positions h f 0 1 items
  choice_places = places_by items (at_home m) start begin 0 1 refl refl

  all : IsBy f placement
  all = by_all f items (at_home m) start

  long : length placement.atoms ≡ length (atoms_of items)
  long = let l = atoms_long h head items (at_home m) placement choice in omega (arith, l)

  membranes_all : length placement.membranes ≡ length (membranes_of items)
  membranes_all = let l = membranes_long h head items (at_home m) placement choice in omega (arith, l)

  image_in : (b : ℕ) → In b placement.atoms → IsAtomImage items f b
  image_in b i = let r = in_at placement.atoms b i in let l = r.1 in let k = long in (r.0, omega (arith, l, k), sym (all.atoms r.0 l) ∙ r.2)

  in_image : (b : ℕ) → IsAtomImage items f b → In b placement.atoms
  in_image b (n, l, g) =
      let k = long in
      let low : n < length placement.atoms = omega (arith, l, k) in
      subst (λ z. In z placement.atoms) (all.atoms n low ∙ g) (item_in placement.atoms n low)

  membrane_in : (b : ℕ) → In b placement.membranes → IsMembraneImage items f b
  membrane_in b i = let r = in_at placement.membranes b i in let l = r.1 in let k = membranes_all in (r.0, omega (arith, l, k), sym (all.membranes r.0 l) ∙ r.2)

  in_membrane : (b : ℕ) → IsMembraneImage items f b → In b placement.membranes
  in_membrane b (n, l, g) =
      let k = membranes_all in
      let low : n < length placement.membranes = omega (arith, l, k) in
      subst (λ z. In z placement.membranes) (all.membranes n low ∙ g) (item_in placement.membranes n low)

  typed_long : (ts : List HeadTyped) → length (map kept_typed ts) ≡ length ts
  typed_long [] = refl
  typed_long (t ∷ ts) = ap suc (typed_long ts)

  -- a list of the parts, each with its atoms
  parts_made : (g : ℕ) (ts : List HeadTyped) → ((n : ℕ) (t : HeadTyped) → slice_get ts n ≡ Some t → IsPartOf h items f (g + n) t)
      → (parts : List Part) × (length parts ≡ length ts) × ((n : ℕ) (q : Part) → slice_get parts n ≡ Some q → (port_by q.entry ≡ f.part (g + n)) × AtomsAre h q)
  parts_made g [] w = ([], refl, λ n q at. absurd (none n q at))
    where
      none : (n : ℕ) (q : Part) → slice_get [] n ≡ Some q → ⊥
      none n q at = cc
  parts_made g (t ∷ ts) w =
      let rest = parts_made (g + 1) ts (λ n u at. (let z : g + suc n ≡ (g + 1) + n = omega arith in subst (λ k. IsPartOf h items f k u) z (w (suc n) u at))) in
      let first : IsPartOf h items f g t = (let z : g + 0 ≡ g = omega arith in subst (λ k. IsPartOf h items f k t) z (w 0 t refl)) in
      let told = part_list h v (f.part g) (f.membrane t.inside) first.whole in
      let one : Part = record { entry = record { atom = (f.part g).0; index = (f.part g).1 }; atoms = told.first ∷ told.others } in
      let are : (port_by one.entry ≡ f.part (g + 0)) × AtomsAre h one =
      ((let z : g ≡ g + 0 = omega arith in ap f.part z), λ a. (told.reached a, λ r. all_of_part h (f.part g) (told.first ∷ told.others) told.start told.shut a r)) in
      (one ∷ rest.0, ap suc rest.1, at one rest.0 are rest.2)
    where
      at : (one : Part) (others : List Part) → (port_by one.entry ≡ f.part (g + 0)) × AtomsAre h one → ((n : ℕ) (q : Part) → slice_get others n ≡ Some q → (port_by q.entry ≡ f.part ((g + 1) + n)) × AtomsAre h q)
          → (n : ℕ) (q : Part) → slice_get (one ∷ others) n ≡ Some q → (port_by q.entry ≡ f.part (g + n)) × AtomsAre h q
      at one others are rest zero q e' = subst (λ (z : Part). (port_by z.entry ≡ f.part (g + 0)) × AtomsAre h z) (same_Some _ _ e') are
      at one others are rest (suc n) q e' = let r = rest n q e' in let z : (g + 1) + n ≡ g + suc n = omega arith in (r.0 ∙ ap f.part z, r.1)

  module _ (parts : List Part) (every : length parts ≡ length (typed_contexts_of items)) (are : (n : ℕ) (q : Part) → slice_get parts n ≡ Some q → (port_by q.entry ≡ f.part n) × AtomsAre h q) where
    all_parts : length parts ≡ length head.typed
    all_parts = every ∙ sym (ap (λ (ts : List TypedItem). length ts) kept.typed ∙ typed_long (typed_contexts_of items))

    mine_is : (k b : ℕ) → IsMine placement.atoms head.typed parts k (length head.typed) b → IsAtomImage items f b ⊎ IsInPart h items f k b
    mine_is k b (inl i) = inl (image_in b i)
    mine_is k b (inr (n, t, part, g, at, l, s, j)) =
        let u = unmapped kept_typed (typed_contexts_of items) head.typed n t kept.typed g in
        inr (n, u.0, u.1, ap (λ (z : TypedItem). z.inside) u.2 ∙ s, subst (λ z. Reached (atom_map h) z b) (are n part at).0 (((are n part at).1 b).0 j))

    is_mine : (k b : ℕ) → IsAtomImage items f b ⊎ IsInPart h items f k b → IsMine placement.atoms head.typed parts k (length head.typed) b
    is_mine k b (inl i) = inl (in_image b i)
    is_mine k b (inr (n, t, at, s, r)) =
        let g = mapped kept_typed (typed_contexts_of items) head.typed n t kept.typed at in
        let l = get_below head.typed n (kept_typed t) g in
        let w = all_parts in
        let part = get_there parts n (omega (arith, l, w)) in
        inr (n, kept_typed t, part.0, g, part.1, l, s, ((are n part.0 part.1).1 b).1 (subst (λ z. Reached (atom_map h) z b) (sym (are n part.0 part.1).0) r))

    from_rest : (k b : ℕ) → IsInRest h items f k b → IsRestBy h (f.membrane k) placement.membranes (IsMine placement.atoms head.typed parts k (length head.typed)) b
    from_rest k b (inl (i, d, g)) = inl (i, λ mine. elim (mine_is k b mine) [ inl x ↦ d x | inr y ↦ g y ])
    from_rest k b (inr (x, i, d, s)) = inr (x, i, (λ j. d (membrane_in x j)), s)

    to_rest : (k b : ℕ) → IsRestBy h (f.membrane k) placement.membranes (IsMine placement.atoms head.typed parts k (length head.typed)) b → IsInRest h items f k b
    to_rest k b (inl (i, d)) = inl (i, (λ x. d (is_mine k b (inl x))), λ y. d (is_mine k b (inr y)))
    to_rest k b (inr (x, i, d, s)) = inr (x, i, (λ j. d (in_membrane x j)), s)

    holding : (k : ℕ) (item : MembraneItem) → slice_get head.membranes k ≡ Some item → Holds h item placement.membranes (IsMine placement.atoms head.typed parts (k + 1) (length head.typed)) (slice_index_or placement.membranes k 0)
    holding k item g =
        let b0 = unmapped kept_membrane (membranes_of items) head.membranes k item kept.membranes g in
        let l = get_below (membranes_of items) k b0.0 b0.1 in
        let w = membranes_all in
        let low : k < length placement.membranes = omega (arith, l, w) in
        let one : suc k ≡ k + 1 = omega arith in
        let it : HasMembrane items (suc k) b0.0 = (k, refl, b0.1) in
        subst (λ z. Holds h item placement.membranes (IsMine placement.atoms head.typed parts (k + 1) (length head.typed)) z) (sym (all.membranes k low))
        (subst (λ z. Holds h item placement.membranes (IsMine placement.atoms head.typed parts z (length head.typed)) (f.membrane (suc k))) one
        (subst (λ z. Holds h z placement.membranes (IsMine placement.atoms head.typed parts (suc k) (length head.typed)) (f.membrane (suc k))) b0.2
        (record {
          atoms = λ bare b i. is_mine (suc k) b (e.lies.no_other_atom (suc k) b0.0 b it bare i);
          inner = λ bare b i. in_membrane b (e.lies.no_other_membrane (suc k) b0.0 b it bare i);
          rules = λ bare. e.lies.no_rule (suc k) b0.0 it bare;
          closed = λ shut b i p rest link. from_rest (suc k) p.0 (e.lies.closed (suc k) b0.0 b i p it shut (to_rest (suc k) b rest) link);
        })))

    atom_low : (n : ℕ) (a : HeadAtom) → HasAtom items n a → n < length placement.atoms
    atom_low n a at = let l = get_below (atoms_of items) n a at in let w = long in omega (arith, l, w)

    out : (n : ℕ) (a : AtomItem) → slice_get head.atoms n ≡ Some a → a.inside ≢ 0 → (i x : ℕ) → slice_get a.links i ≡ Some x → times_in x head ≡ 1 → (p : Port) → link_of h (slice_index_or placement.atoms n 0) i ≡ Some p
        → StandsWithin h p.0 (membrane_at placement.home placement.membranes (outermost_in head.membranes a.inside)) → ⊥
    out n a g inner i x link once p step below =
        let u = unmapped kept_atom (atoms_of items) head.atoms n a kept.atoms g in
        let same : a.inside ≡ u.0.inside = ap (λ (z : AtomItem). z.inside) (sym u.2) in
        let low = atom_low n u.0 u.1 in
        let l = atoms_within 0 items is.inside n u.0 u.1 in
        let o = outer_within items is.inside u.0.inside in
        let w = membranes_all in
        let bound : outermost (membranes_of items) u.0.inside ≤ length placement.membranes = omega (arith, l, o, w) in
        let around = ap (λ k. membrane_at placement.home placement.membranes (outermost_in head.membranes k)) same ∙ ap (membrane_at placement.home placement.membranes) (outermost_same items head u.0.inside kept) ∙ image_by f placement all (outermost (membranes_of items) u.0.inside) bound in
        e.outside n i x u.0 p u.1 (subst (λ (z : AtomItem). slice_get z.links i ≡ Some x) (sym u.2) link) (times_same x items head kept ∙ once) (λ z. inner (same ∙ z))
        (subst (λ z. link_of h z i ≡ Some p) (all.atoms n low) step) (subst (λ z. StandsWithin h p.0 z) around below)

    named : (x : ℕ) → first_named head.typed parts x ≡ option_map f.part (typed_number (typed_contexts_of items) 0 x)
    named x = ap (λ (ts : List TypedItem). first_named ts parts x) kept.typed ∙ named_same f.part (typed_contexts_of items) parts 0 x every (λ n q at. (let z : 0 + n ≡ n = omega arith in ap f.part z) ∙ sym (are n q at).0)

    pub meets : Meets h head guard placement parts
    meets = (out, holding, subst (λ (s : Meaning). HoldsOnHeap h s guard) (λ i. record { part_of = λ x. sym (named x) i; bound_to = λ x. None }) e.holds)

    base : (n : ℕ) (t : HeadTyped) → HasTyped items n t → IsPart h head.atoms placement (kept_typed t) (f.part n)
    base n t at =
        let w = e.lies.parts n t at in
        let l = typed_within 0 items is.inside n t at in
        let k = membranes_all in
        let bound : t.inside ≤ length placement.membranes = omega (arith, l, k) in (
          (
            (λ j a g i y link same. (let u = unmapped kept_atom (atoms_of items) head.atoms j a kept.atoms g in
                subst (λ z. link_of h z i ≡ Some (f.part n)) (sym (all.atoms j (atom_low j u.0 u.1))) (w.held (j, i) (has t.link (j, i) (a, g, link ∙ ap Some same))))),
            w.of_kind,
          ),
          (subst (λ z. StandsWhole (atom_map h) (f.part n) z) (sym (image_by f placement all t.inside bound)) w.whole, λ b r i. w.apart b r (image_in b i)),
        )

    pub taken : AreTaken h head.atoms placement head.typed parts (length head.typed)
    taken = record {
      long = all_parts;
      each = λ n t part g at. (let u = unmapped kept_typed (typed_contexts_of items) head.typed n t kept.typed g in
          (subst (λ (z : TypedItem). IsPart h head.atoms placement z (port_by part.entry)) u.2 (subst (λ z. IsPart h head.atoms placement (kept_typed u.0) z) (sym (are n part at).0) (base n u.0 u.1)), (are n part at).1));
    }

  pub can_be : CanBe h head guard placement
  can_be =
      let made = parts_made 0 (typed_contexts_of items) (λ n t at. (let z : n ≡ 0 + n = omega arith in subst (λ k. IsPartOf h items f k t) z (e.lies.parts n t at))) in
      let are : (n : ℕ) (q : Part) → slice_get made.0 n ≡ Some q → (port_by q.entry ≡ f.part n) × AtomsAre h q = λ n q at. (let r = made.2 n q at in let z : 0 + n ≡ n = omega arith in (r.0 ∙ ap f.part z, r.1)) in
      (made.0, taken made.0 made.1 are, meets made.0 made.1 are)
