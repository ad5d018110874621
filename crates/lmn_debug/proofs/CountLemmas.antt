-- The atoms of a heap that have a functor are those of its solid.
use Rattle.std.proofs.Common.{ℕ, suc, ◌≡◌, ◌<◌, ◌+◌, Bool, true, false, cond, List, [], ◌∷◌, ◌++◌, map, length, Option, Some, None, IsSome, refl, sym, ap, subst, ◌∙◌, arith}
use Rattle.std.specs.List.{AllByRecursion}
use Rattle.std.specs.Option.{option_map}
use Rattle.std.proofs.lemmas.List.Elements.{All-append}
use Rattle.lmn_base.specs.declared.functor.Functor.{Functor}
use Rattle.lmn_base.specs.declared.rule.RuleTree.{RuleTree}
use Rattle.lmn_base.specs.Names.{HasNames, label_names}
use Rattle.lmn_store_heap.specs.Heap.{Heap, HeapAtom, IsAtom, atoms_in}
use Rattle.lmn_store_heap.specs.Functors.{same_functor, with_functor}
use Rattle.lmn_store_heap.specs.Sound.{Forest, bare, mem, flat, IsTree}
use Rattle.lmn_store_heap.proofs.WithFunctor.{functor_is, functor_same}
use Rattle.lmn_store_heap.proofs.Common.{length_numbered}
use Rattle.lmn_congruence.specs.Regions.{Region, SolidAtom}
use Rattle.lmn_congruence.specs.Rules.{Name}
use Rattle.lmn_congruence.specs.Translation.{label_of}
use Rattle.lmn_congruence.proofs.TranslatedNames.{labels_apart}
use Rattle.lmn_adequacy_heaps.specs.HeapRegions.{HeapReading, atoms_at, regions_at, region_at}
use Rattle.lmn_adequacy_heaps.specs.Premises.{IsRead}
use Rattle.lmn_adequacy_heaps.proofs.Counting.{list_atoms}
use Rattle.lmn_adequacy_heaps.proofs.Pieces.{atom_at, atom_by, atoms_each}
use Rattle.lmn_schedule.specs.Held.{HoldsRegion, reading_by}
use Rattle.lmn_debug.specs.Counts.{AreSo, none, one, other, HasFunctor, IsCount, atoms_of, atoms_in_all}
use Rattle.lmn_debug_counting.specs.Counts.{count_in}

-- two lists in a row
pub both_so : {Is : SolidAtom → Type 0} {xs ys : List SolidAtom} {n k : ℕ} → AreSo Is xs n → AreSo Is ys k → AreSo Is (xs ++ ys) (n + k)
both_so {Is} {ys = ys} {k = k} none q = subst (AreSo Is ys) (let e : k ≡ 0 + k = omega arith in e) q
both_so {Is} {ys = ys} {k = k} (one {a = a} {xs = xs} {n = n} p ps) q = subst (AreSo Is (a ∷ (xs ++ ys))) (let e : suc (n + k) ≡ suc n + k = omega arith in e) (one p (both_so ps q))
both_so (other d ps) q = other d (both_so ps q)

-- a list has one number of atoms that are so
pub so_once : {Is : SolidAtom → Type 0} {xs : List SolidAtom} {n k : ℕ} → AreSo Is xs n → AreSo Is xs k → n ≡ k
so_once none none = refl
so_once (one p ps) (one q qs) = ap suc (so_once ps qs)
so_once (one p ps) (other d qs) = absurd (d p)
so_once (other d ps) (one q qs) = absurd (d q)
so_once (other d ps) (other e qs) = so_once ps qs

module _ (h : Heap) (r : HeapReading) (read : IsRead h r) (f : Functor) (known : HasNames r.names (label_names f.label)) where
  -- an atom of the heap has the functor, or not, in the solid as in the heap
  one_so : (a : ℕ) (xs : List ℕ) → IsAtom h a → (n : ℕ) (ys : List SolidAtom) → n ≡ length (with_functor h f xs) → AreSo (HasFunctor r.names f) ys n → AreSo (HasFunctor r.names f) (atom_at h r a ∷ ys) (length (with_functor h f (a ∷ xs)))
  one_so a xs is n ys e so = by (h.atoms a) refl is
    where
      by : (o : Option HeapAtom) → h.atoms a ≡ o → IsSome o → AreSo (HasFunctor r.names f) (atom_at h r a ∷ ys) (length (with_functor h f (a ∷ xs)))
      by None q s = absurd (cc)
      by (Some x) q s = rw q (test (same_functor x.functor f) refl)
        where
          at : SolidAtom
          at = atom_by r a (Some x)

          test : (b : Bool) → same_functor x.functor f ≡ b → AreSo (HasFunctor r.names f) (atom_by r a (Some x) ∷ ys) (length (cond (same_functor x.functor f) (a ∷ with_functor h f xs) (with_functor h f xs)))
          test true t =
              let same : x.functor ≡ f = functor_is x.functor f t in
              rw t (subst (λ k. AreSo (HasFunctor r.names f) (atom_by r a (Some x) ∷ ys) (suc k)) e
              (one (record { label = λ i. label_of r.names (same i).label; arity = length_numbered r.name a 0 x.functor.arity ∙ (λ i. (same i).arity) }) so))
          test false t = rw t (subst (AreSo (HasFunctor r.names f) (atom_by r a (Some x) ∷ ys)) e (other (λ w. differs w) so))
            where
              differs : HasFunctor r.names f (atom_by r a (Some x)) → ⊥
              differs w =
                  let label : x.functor.label ≡ f.label = labels_apart r.names x.functor.label f.label read.names (All-append (λ n. n < length r.names) (label_names x.functor.label) (label_names f.label) (read.known a x.functor (ap (λ o. option_map (λ y. y.functor) o) q)) known) w.label in
                  let arity : x.functor.arity ≡ f.arity = sym (length_numbered r.name a 0 x.functor.arity) ∙ w.arity in
                  let same : x.functor ≡ f = λ i. record { label = label i; arity = arity i } in
                  let yes : same_functor x.functor f ≡ true = ap (λ g. same_functor g f) same ∙ functor_same f in
                  let no_ : false ≡ true = sym t ∙ yes in
                  cc

  each_so : (xs : List ℕ) → AllByRecursion (IsAtom h) xs → AreSo (HasFunctor r.names f) (map (atom_at h r) xs) (length (with_functor h f xs))
  each_so [] all = none
  each_so (a ∷ xs) all = one_so a xs all.0 (length (with_functor h f xs)) (map (atom_at h r) xs) refl (each_so xs all.1)

  -- those of one membrane
  list_so : (m : ℕ) → AreSo (HasFunctor r.names f) (atoms_at h r (atoms_in h m)) (length (with_functor h f (atoms_in h m)))
  list_so m =
      let all = list_atoms h read.valid m in
      subst (λ ys. AreSo (HasFunctor r.names f) ys (length (with_functor h f (atoms_in h m)))) (sym (atoms_each h r (atoms_in h m) all)) (each_so (atoms_in h m) all)

  count_append : (ms ns : List ℕ) → count_in h f (ms ++ ns) ≡ count_in h f ms + count_in h f ns
  count_append [] ns = omega arith
  count_append (m ∷ ms) ns = omega (arith, count_append ms ns)

  -- and those of a forest
  forest_so : (g : Forest) → AreSo (HasFunctor r.names f) (atoms_in_all (regions_at h r g)) (count_in h f (flat g))
  forest_so bare = none
  forest_so (mem m inner rest) =
      let here = list_so m in
      let inside = forest_so inner in
      let behind = forest_so rest in
      let sums = count_append (flat inner) (flat rest) in
      subst (AreSo (HasFunctor r.names f) (atoms_in_all (regions_at h r (mem m inner rest))))
      (let e : (length (with_functor h f (atoms_in h m)) + count_in h f (flat inner)) + count_in h f (flat rest) ≡ length (with_functor h f (atoms_in h m)) + count_in h f (flat inner ++ flat rest) = omega (arith, sums) in e)
      (both_so (both_so here inside) behind)

  region_so : (m : ℕ) (inner : Forest) → AreSo (HasFunctor r.names f) (atoms_of (region_at h r m inner)) (count_in h f (flat (mem m inner bare)))
  region_so m inner =
      let sums = count_append (flat inner) [] in
      subst (AreSo (HasFunctor r.names f) (atoms_of (region_at h r m inner)))
      (let e : length (with_functor h f (atoms_in h m)) + count_in h f (flat inner) ≡ length (with_functor h f (atoms_in h m)) + count_in h f (flat inner ++ []) = omega (arith, sums) in e)
      (both_so (list_so m) (forest_so inner))

-- the number that a walk over the membranes counts is that of the solid
pub count_held : (names : List Name) (table : List RuleTree) (h : Heap) (S : Region) → HoldsRegion names table h S → (f : Functor) → HasNames names (label_names f.label) →
    (n : ℕ) → ((g : Forest) → IsTree h g → n ≡ count_in h f (flat g)) → IsCount names f S n
count_held names table h S o f known n counts =
    let r = reading_by names table o.number in
    subst (λ R. IsCount names f R n) (sym o.is)
    (subst (IsCount names f (region_at h r h.root o.inner)) (sym (counts (mem h.root o.inner bare) o.tree)) (region_so h r o.read f known h.root o.inner))
