-- What is read of a renamed heap.
use Rattle.std.proofs.Common.{◌≡◌, ◌∙◌, ℕ, Option, Some, None, length, map, refl, sym, ap}
use Rattle.std.specs.Prelude.{slice_index_or}
use Rattle.std.specs.Option.{option_and_then, option_map}
use Rattle.std.proofs.Math.ListN.{get_or-map}
use Rattle.std.proofs.lemmas.List.{length-map}
use Rattle.std.proofs.lemmas.Option.{same_Some}
use Rattle.lmn_base.specs.declared.functor.Functor.{Functor}
use Rattle.lmn_store_heap.specs.Heap.{Heap, HeapAtom, HeapMem, Place, arity_of, atoms_by, atoms_in, functor_of, gone, home_by, home_of, link_of, mems_by, mems_in, parent_of, partners_of, rules_by, rules_in, top, waiting, within}
use Rattle.lmn_verify_renaming.specs.Renamed.{Renaming, renamed, renamed_atom, renamed_mem, renamed_place, renamed_port}

module _ (r : Renaming) (s : Heap) where
  -- the atom and the membrane with the other number
  pub atom_there : (a : ℕ) → (renamed r s).atoms (r.atoms.to a) ≡ option_map (renamed_atom r.atoms.to r.mems.to) (s.atoms a)
  atom_there a = ap (λ x. option_map (renamed_atom r.atoms.to r.mems.to) (s.atoms x)) (r.atoms.there a)

  pub mem_there : (m : ℕ) → (renamed r s).mems (r.mems.to m) ≡ option_map (renamed_mem r.atoms.to r.mems.to) (s.mems m)
  mem_there m = ap (λ x. option_map (renamed_mem r.atoms.to r.mems.to) (s.mems x)) (r.mems.there m)

  pub functor_there : (a : ℕ) → functor_of (renamed r s) (r.atoms.to a) ≡ functor_of s a
  functor_there a = ap (option_map (λ (x : HeapAtom). x.functor)) (atom_there a) ∙ by (s.atoms a)
    where
      by : (o : Option HeapAtom) → ◌≡◌ {A = Option Functor} (option_map (λ x. x.functor) (option_map (renamed_atom r.atoms.to r.mems.to) o)) (option_map (λ x. x.functor) o)
      by None = refl
      by (Some x) = refl

  partners_there : (o : Option HeapAtom) → partners_of (option_map (renamed_atom r.atoms.to r.mems.to) o) ≡ map (option_map (renamed_port r.atoms.to)) (partners_of o)
  partners_there None = refl
  partners_there (Some x) = refl

  pub arity_there : (a : ℕ) → arity_of (renamed r s) (r.atoms.to a) ≡ arity_of s a
  arity_there a = ap (λ o. length (partners_of o)) (atom_there a) ∙ ap (λ ls. length ls) (partners_there (s.atoms a)) ∙ length-map (partners_of (s.atoms a)) (option_map (renamed_port r.atoms.to))

  pub link_there : (a i : ℕ) → link_of (renamed r s) (r.atoms.to a) i ≡ option_map (renamed_port r.atoms.to) (link_of s a i)
  link_there a i =
      ap (λ o. slice_index_or (partners_of o) i None) (atom_there a) ∙ ap (λ ls. slice_index_or ls i None) (partners_there (s.atoms a))
      ∙ get_or-map (option_map (renamed_port r.atoms.to)) (partners_of (s.atoms a)) i None

  home_there_by : (p : Place) → home_by (renamed_place r.mems.to p) ≡ option_map r.mems.to (home_by p)
  home_there_by top = refl
  home_there_by (within m) = refl
  home_there_by waiting = refl
  home_there_by gone = refl

  pub home_there : (a : ℕ) → home_of (renamed r s) (r.atoms.to a) ≡ option_map r.mems.to (home_of s a)
  home_there a = ap (option_and_then (λ (x : HeapAtom). home_by x.place)) (atom_there a) ∙ by (s.atoms a)
    where
      by : (o : Option HeapAtom) → option_and_then (λ (x : HeapAtom). home_by x.place) (option_map (renamed_atom r.atoms.to r.mems.to) o) ≡ option_map r.mems.to (option_and_then (λ (x : HeapAtom). home_by x.place) o)
      by None = refl
      by (Some x) = home_there_by x.place

  pub parent_there : (m : ℕ) → parent_of (renamed r s) (r.mems.to m) ≡ option_map r.mems.to (parent_of s m)
  parent_there m = ap (option_and_then (λ (x : HeapMem). home_by x.place)) (mem_there m) ∙ by (s.mems m)
    where
      by : (o : Option HeapMem) → option_and_then (λ (x : HeapMem). home_by x.place) (option_map (renamed_mem r.atoms.to r.mems.to) o) ≡ option_map r.mems.to (option_and_then (λ (x : HeapMem). home_by x.place) o)
      by None = refl
      by (Some x) = home_there_by x.place

  pub atoms_there : (m : ℕ) → atoms_in (renamed r s) (r.mems.to m) ≡ map r.atoms.to (atoms_in s m)
  atoms_there m = ap atoms_by (mem_there m) ∙ by (s.mems m)
    where
      by : (o : Option HeapMem) → atoms_by (option_map (renamed_mem r.atoms.to r.mems.to) o) ≡ map r.atoms.to (atoms_by o)
      by None = refl
      by (Some x) = refl

  pub mems_there : (m : ℕ) → mems_in (renamed r s) (r.mems.to m) ≡ map r.mems.to (mems_in s m)
  mems_there m = ap mems_by (mem_there m) ∙ by (s.mems m)
    where
      by : (o : Option HeapMem) → mems_by (option_map (renamed_mem r.atoms.to r.mems.to) o) ≡ map r.mems.to (mems_by o)
      by None = refl
      by (Some x) = refl

  pub rules_there : (m : ℕ) → rules_in (renamed r s) (r.mems.to m) ≡ rules_in s m
  rules_there m = ap rules_by (mem_there m) ∙ by (s.mems m)
    where
      by : (o : Option HeapMem) → rules_by (option_map (renamed_mem r.atoms.to r.mems.to) o) ≡ rules_by o
      by None = refl
      by (Some x) = refl

  -- a port that stands at an atom stands at the one with the former number
  pub link_back : (a i b j : ℕ) → link_of (renamed r s) a i ≡ Some (b, j) → link_of s (r.atoms.back a) i ≡ Some (r.atoms.back b, j)
  link_back a i b j e = by (link_of s (r.atoms.back a) i) (sym (link_there (r.atoms.back a) i) ∙ ap (λ x. link_of (renamed r s) x i) (r.atoms.again a) ∙ e)
    where
      by : (o : Option (ℕ × ℕ)) → option_map (renamed_port r.atoms.to) o ≡ Some (b, j) → o ≡ Some (r.atoms.back b, j)
      by None h = absurd (cc h)
      by (Some p) h =
          let same : ◌≡◌ {A = ℕ × ℕ} (r.atoms.to p.0, p.1) (b, j) = same_Some (r.atoms.to p.0, p.1) (b, j) h in
          λ k. Some ((sym (r.atoms.there p.0) ∙ ap (λ (q : ℕ × ℕ). r.atoms.back q.0) same) k, (ap (λ (q : ℕ × ℕ). q.1) same) k)

  pub link_kept : (a i b j : ℕ) → link_of s a i ≡ Some (b, j) → link_of (renamed r s) (r.atoms.to a) i ≡ Some (r.atoms.to b, j)
  link_kept a i b j e = link_there a i ∙ ap (option_map (renamed_port r.atoms.to)) e

  -- a home and a parent, and the former ones
  pub home_kept : (a m : ℕ) → home_of s a ≡ Some m → home_of (renamed r s) (r.atoms.to a) ≡ Some (r.mems.to m)
  home_kept a m e = home_there a ∙ ap (option_map r.mems.to) e

  some_back : (o : Option ℕ) (m : ℕ) → option_map r.mems.to o ≡ Some m → o ≡ Some (r.mems.back m)
  some_back None m e = absurd (cc e)
  some_back (Some k) m e = ap (λ x. Some x) (sym (r.mems.there k) ∙ ap r.mems.back (same_Some (r.mems.to k) m e))

  pub home_back : (a m : ℕ) → home_of (renamed r s) a ≡ Some m → home_of s (r.atoms.back a) ≡ Some (r.mems.back m)
  home_back a m e = some_back (home_of s (r.atoms.back a)) m (sym (home_there (r.atoms.back a)) ∙ ap (home_of (renamed r s)) (r.atoms.again a) ∙ e)

  pub parent_back : (n m : ℕ) → parent_of (renamed r s) n ≡ Some m → parent_of s (r.mems.back n) ≡ Some (r.mems.back m)
  parent_back n m e = some_back (parent_of s (r.mems.back n)) m (sym (parent_there (r.mems.back n)) ∙ ap (parent_of (renamed r s)) (r.mems.again n) ∙ e)

  pub functor_back : (a : ℕ) → functor_of (renamed r s) a ≡ functor_of s (r.atoms.back a)
  functor_back a = ap (functor_of (renamed r s)) (sym (r.atoms.again a)) ∙ functor_there (r.atoms.back a)
