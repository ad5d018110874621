-- The atoms of a heap are those of its regions.
use Rattle.std.proofs.Common.{ℕ, ◌≡◌, ◌<◌, length, ◌⊎◌, inl, inr, List, [], ◌∷◌, ◌++◌, refl, sym, ap, subst, ◌∙◌}
use Rattle.std.specs.Prelude.{Option, Some, None, IsSome}
use Rattle.std.specs.List.{AllByRecursion, flat_map}
use Rattle.std.specs.Option.{option_and_then, option_map}
use Rattle.std.proofs.lemmas.List.Elements.{recursion_from_All}
use Rattle.std.proofs.lemmas.List.Folds.{flat_map-map}
use Rattle.lmn_base.specs.declared.functor.Functor.{Functor}
use Rattle.lmn_base.specs.declared.solid.SolidAtom.{SolidAtom}
use Rattle.lmn_base.specs.declared.solid.Region.TheFolds.{fold-roll-Region}
use Rattle.lmn_base.specs.Lists.{In}
use Rattle.lmn_base.specs.Names.{HasNames, label_names}
use Rattle.lmn_base.specs.Solids.{atoms_of_region, atoms_step}
use Rattle.lmn_base.proofs.Lists.{all_left, all_of_parts, all_right, in_either, plus_nothing, some_is}
use Rattle.lmn_store_heap.specs.Heap.{Heap, HeapAtom, Place, top, waiting, gone, atoms_in, functor_of, home_by, home_of, rules_in, within}
use Rattle.lmn_store_heap.proofs.Common.{holds_mem}
use Rattle.lmn_store_heap.specs.Solid.{regions_of, solid_atom_at, solid_atoms_at}
use Rattle.lmn_store_heap.specs.Sound as sound
use Rattle.lmn_store_heap.specs.Sound.{Forest, bare, mem}
use Rattle.lmn_solid_tables.specs.Flats.{FlatsAreRead, heap_of, link_at}

module _ (P : Functor → Type 0) (h : Heap) (name : ℕ → ℕ → ℕ) where
  functor_got : (a : ℕ) (o : Option HeapAtom) (f : Functor) (more : List SolidAtom) → option_map (λ (x : HeapAtom). x.functor) o ≡ Some f → AllByRecursion (λ (x : SolidAtom). P x.functor) (solid_atom_at name a o ++ more) → P f
  functor_got a None f more e all = absurd (cc e)
  functor_got a (Some x) f more e all = let d : x.functor ≡ f = cc e in subst P d all.0

  -- what holds of the atoms of a list holds of each
  each_listed : (xs : List ℕ) → AllByRecursion (λ (x : SolidAtom). P x.functor) (solid_atoms_at h name xs) → (a : ℕ) → In a xs → (f : Functor) → functor_of h a ≡ Some f → P f
  each_listed [] all a i f e = absurd i
  each_listed (b ∷ xs) all a (inl d) f e = functor_got b (h.atoms b) f (solid_atoms_at h name xs) (ap (functor_of h) d ∙ e) all
  each_listed (b ∷ xs) all a (inr i) f e = each_listed xs (all_right (λ (x : SolidAtom). P x.functor) (solid_atom_at name b (h.atoms b)) (solid_atoms_at h name xs) all) a i f e

  atoms_apart : (m : ℕ) (inner rest : Forest) → flat_map atoms_of_region (regions_of h name (mem m inner rest)) ≡ (solid_atoms_at h name (atoms_in h m) ++ flat_map atoms_of_region (regions_of h name inner)) ++ flat_map atoms_of_region (regions_of h name rest)
  atoms_apart m inner rest =
      let e = fold-roll-Region (List SolidAtom) atoms_step (record { atoms = solid_atoms_at h name (atoms_in h m); membranes = regions_of h name inner; rules = rules_in h m }) in
      ap (λ xs. xs ++ flat_map atoms_of_region (regions_of h name rest)) (e ∙ ap (λ xs. solid_atoms_at h name (atoms_in h m) ++ xs) (flat_map-map (λ x. x) atoms_of_region (regions_of h name inner)))

  -- what holds of the atoms of regions holds of those in the membranes of their forest
  pub each_in_forest : (t : Forest) → AllByRecursion (λ (x : SolidAtom). P x.functor) (flat_map atoms_of_region (regions_of h name t)) → (m : ℕ) → In m (sound.flat t) → (a : ℕ) → In a (atoms_in h m) → (f : Functor) → functor_of h a ≡ Some f → P f
  each_in_forest bare all m i a j f e = absurd i
  each_in_forest (mem n inner rest) all m i a j f e =
      let Q : SolidAtom → Type 0 = λ x. P x.functor in
      let own = solid_atoms_at h name (atoms_in h n) in
      let within_it = flat_map atoms_of_region (regions_of h name inner) in
      let beside = flat_map atoms_of_region (regions_of h name rest) in
      let split = subst (AllByRecursion Q) (atoms_apart n inner rest) all in
      let here = all_left Q (own ++ within_it) beside split in
      by_place i
      (λ d. each_listed (atoms_in h n) (all_left Q own within_it here) a (subst (λ k. In a (atoms_in h k)) (sym d) j) f e)
      (λ k. each_in_forest inner (all_right Q own within_it here) m k a j f e)
      (λ k. each_in_forest rest (all_right Q (own ++ within_it) beside split) m k a j f e)
    where
      by_place : In m (n ∷ sound.flat inner ++ sound.flat rest) → (n ≡ m → P f) → (In m (sound.flat inner) → P f) → (In m (sound.flat rest) → P f) → P f
      by_place (inl d) x y z = x d
      by_place (inr k) x y z = by_part (in_either m (sound.flat inner) (sound.flat rest) k)
        where
          by_part : In m (sound.flat inner) ⊎ In m (sound.flat rest) → P f
          by_part (inl k) = y k
          by_part (inr k) = z k

has_functor : (o : Option HeapAtom) (f : Functor) → option_map (λ (x : HeapAtom). x.functor) o ≡ Some f → IsSome o
has_functor None f e = absurd (cc e)
has_functor (Some x) f e = refl

to_place : (o : Option HeapAtom) (m : ℕ) → option_and_then (λ (x : HeapAtom). home_by x.place) o ≡ Some m → option_map (λ (x : HeapAtom). x.place) o ≡ Some (within m)
to_place None m e = absurd (cc e)
to_place (Some x) m e = ap Some (by_place x.place e)
  where
    by_place : (p : Place) → home_by p ≡ Some m → p ≡ within m
    by_place top e = absurd (cc e)
    by_place (within n) e = ap within (cc e)
    by_place waiting e = absurd (cc e)
    by_place gone e = absurd (cc e)

-- the heap of the tables is read by names that the solid has
pub flats_are_read : FlatsAreRead
flats_are_read names table s flat is named = record {
  valid = is.valid;
  naming = is.naming;
  names = named.0;
  known = λ a f e.
      let h = heap_of flat in
      let P : Functor → Type 0 = λ f. HasNames names (label_names f.label) in
      let all = recursion_from_All (λ (x : SolidAtom). P x.functor) (atoms_of_region s.root) (all_of_parts (λ n. n < length names) (λ (x : SolidAtom). label_names x.functor.label) (atoms_of_region s.root) named.2) in
      let each = subst (AllByRecursion (λ (x : SolidAtom). P x.functor)) (sym (ap (flat_map atoms_of_region) is.root ∙ plus_nothing (atoms_of_region s.root))) all in
      let m = some_is (home_of h a) (is.valid.settled.atoms a (has_functor (h.atoms a) f e)) in
      let i = (is.valid.sound.listed.atoms m.0 a).1 (to_place (h.atoms a) m.0 m.1) in
      each_in_forest P h (link_at flat) (mem 0 is.inner bare) each m.0 (is.tree.all m.0 (holds_mem (h.mems m.0) a i)) a i f e;
}
