-- What follows from empty lists: nothing is detached, or nothing is taken either.
use Rattle.std.proofs.Common.{◌≡◌, ◌⊎◌, ℕ, [], Option, Some, None, IsSome, refl, sym, subst, inl, inr}
use Rattle.std.specs.Option.{option_map, option_and_then}
use Rattle.lmn_store_heap.specs.Heap.{HeapAtom, HeapMem, Place, top, within, waiting, gone, home_by, IsMem, parent_of}
use Rattle.lmn_store_heap.specs.Sound.{AllInPlace}
use Rattle.lmn_store_heap.specs.Conditions.{Alone}
use Rattle.lmn_store_slab.specs.Lines.{list_at}
use Rattle.lmn_store_slab.specs.Cells.{atoms_in_cells, mems_in_cells}
use Rattle.lmn_store_slab.specs.Kept.{Kept, AlwaysHolds, heap_of, mem_place_in}
use Rattle.lmn_store_slab.proofs.BuiltLemmas.{built_mem_place, built_parent}
use Rattle.lmn_store_slab.proofs.HoldsLemmas.{mem_is}
use Rattle.lmn_base.specs.Lists.{In}

module _ (k : Kept) (n m s : ℕ) (h : AlwaysHolds k n m s) where
  -- no atom is detached
  pub alone_of : list_at k.atom_lists 0 ≡ [] → Alone (heap_of k)
  alone_of none a i b j e l = absurd (subst (In a) none ((h.fits.atom_files.filed 0 a).1 e))

  -- nothing is detached or taken
  pub settled_of : list_at k.atom_lists 0 ≡ [] → list_at k.atom_lists 1 ≡ [] → list_at k.mem_lists 0 ≡ [] → list_at k.mem_lists 1 ≡ [] → AllInPlace (heap_of k)
  settled_of a0 a1 m0 m1 = record {
    atoms = λ a i. atom (atoms_in_cells k.atoms a) i (h.fits.no_top a)
        (λ e. subst (In a) a0 ((h.fits.atom_files.filed 0 a).1 e)) (λ e. subst (In a) a1 ((h.fits.atom_files.filed 1 a).1 e));
    mems = λ t i. subst (λ p. (p ≡ Some top) ⊎ IsSome (parent_of (heap_of k) t)) (sym (built_mem_place (atoms_in_cells k.atoms) (mems_in_cells k.mems) (list_at k.atom_lists) (list_at k.mem_lists) t))
        (subst (λ p. (mem_place_in (mems_in_cells k.mems) t ≡ Some top) ⊎ IsSome p) (sym (built_parent (atoms_in_cells k.atoms) (mems_in_cells k.mems) (list_at k.atom_lists) (list_at k.mem_lists) t))
        (mem (mems_in_cells k.mems t) (there t i)
        (λ e. subst (In t) m0 ((h.fits.mem_files.filed 0 t).1 e)) (λ e. subst (In t) m1 ((h.fits.mem_files.filed 1 t).1 e))));
  }
    where
      atom : (o : Option HeapAtom) → IsSome o → (option_map (λ x. x.place) o ≡ Some top → ⊥) → (option_map (λ x. x.place) o ≡ Some waiting → ⊥) → (option_map (λ x. x.place) o ≡ Some gone → ⊥)
          → IsSome (option_and_then (λ x. home_by x.place) o)
      atom None i t w g = absurd (cc)
      atom (Some x) i t w g = by x.place t w g
        where
          by : (p : Place) → (Some p ≡ Some top → ⊥) → (Some p ≡ Some waiting → ⊥) → (Some p ≡ Some gone → ⊥) → IsSome (home_by p)
          by top t w g = absurd (t refl)
          by (within m) t w g = refl
          by waiting t w g = absurd (w refl)
          by gone t w g = absurd (g refl)

      mem : (o : Option HeapMem) → IsSome o → (option_map (λ x. x.place) o ≡ Some waiting → ⊥) → (option_map (λ x. x.place) o ≡ Some gone → ⊥)
          → (option_map (λ x. x.place) o ≡ Some top) ⊎ IsSome (option_and_then (λ x. home_by x.place) o)
      mem None i w g = absurd (cc)
      mem (Some x) i w g = by x.place w g
        where
          by : (p : Place) → (Some p ≡ Some waiting → ⊥) → (Some p ≡ Some gone → ⊥) → (Some p ≡ Some top) ⊎ IsSome (home_by p)
          by top w g = inl refl
          by (within m) w g = inr refl
          by waiting w g = absurd (w refl)
          by gone w g = absurd (g refl)

      there : (t : ℕ) → IsMem (heap_of k) t → IsSome (mems_in_cells k.mems t)
      there t i = mem_is k n m s h t i
