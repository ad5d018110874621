-- What is read of a heap that is one with other numbers, but for room and marks of membranes.
use Rattle.std.proofs.Common.{◌≡◌, ◌∙◌, ℕ, Option, Some, None, IsSome, length, map, refl, sym, ap, subst}
use Rattle.std.specs.Prelude.{slice_index_or}
use Rattle.std.specs.Option.{option_and_then, option_map}
use Rattle.lmn_base.specs.Graphs.{Reached}
use Rattle.lmn_store_heap.specs.Graphs.{atom_map}
use Rattle.lmn_store_heap.specs.Heap.{Heap, HeapAtom, HeapMem, IsAtom, IsInPlace, IsMem, arity_of, atoms_by, atoms_in, functor_of, home_by, home_of, link_of, mems_by, mems_in, partners_of, rules_by, rules_in}
use Rattle.lmn_store_heap.specs.Sound.{Sound}
use Rattle.lmn_verify_renaming.specs.Renamed.{Numbering, Renaming, SameButRoom, inverse, renamed, renamed_atom, renamed_mem, renamed_port, with_room}
use Rattle.lmn_verify_renaming.proofs.Composed.{fixed_is_same, renamed_twice, then_renamed}
use Rattle.lmn_verify_renaming.proofs.Parts as parts
use Rattle.lmn_verify_renaming.proofs.Reading as renamed_reading

module _ (p : Renaming) (h k : Heap) (alike : SameButRoom (renamed p h) k) where
  abbrev A : ℕ → ℕ
  A = p.atoms.to

  abbrev M : ℕ → ℕ
  M = p.mems.to

  -- ---- atoms

  pub functor_is : (a : ℕ) → functor_of k (A a) ≡ functor_of h a
  functor_is a = ap (option_map (λ (x : HeapAtom). x.functor)) (alike.atoms (A a)) ∙ renamed_reading.functor_there p h a

  pub arity_is : (a : ℕ) → arity_of k (A a) ≡ arity_of h a
  arity_is a = ap (λ o. length (partners_of o)) (alike.atoms (A a)) ∙ renamed_reading.arity_there p h a

  pub link_is : (a i : ℕ) → link_of k (A a) i ≡ option_map (renamed_port A) (link_of h a i)
  link_is a i = ap (λ o. slice_index_or (partners_of o) i None) (alike.atoms (A a)) ∙ renamed_reading.link_there p h a i

  pub link_kept : (a i b j : ℕ) → link_of h a i ≡ Some (b, j) → link_of k (A a) i ≡ Some (A b, j)
  link_kept a i b j e = link_is a i ∙ ap (option_map (renamed_port A)) e

  pub home_is : (a : ℕ) → home_of k (A a) ≡ option_map M (home_of h a)
  home_is a = ap (option_and_then (λ (x : HeapAtom). home_by x.place)) (alike.atoms (A a)) ∙ renamed_reading.home_there p h a

  pub in_place : (a : ℕ) → IsInPlace h a → IsInPlace k (A a)
  in_place a i = subst (λ (o : Option ℕ). IsSome o) (sym (home_is a)) (by (home_of h a) i)
    where
      by : (o : Option ℕ) → IsSome o → IsSome (option_map M o)
      by None i = absurd (cc i)
      by (Some x) i = refl

  -- what is reached in it
  pub reached_there : (root : ℕ × ℕ) (b : ℕ) → Reached (atom_map h) root b → Reached (atom_map k) (renamed_port A root) (A b)
  reached_there root b w = subst (λ (f : ℕ → Option HeapAtom). Reached (atom_map (record k { atoms = f })) (renamed_port A root) (A b)) (λ i a. sym (alike.atoms a) i) (parts.reached_there p h root b w)

  pub reached_back : (root : ℕ × ℕ) (b : ℕ) → Reached (atom_map k) (renamed_port A root) (A b) → Reached (atom_map h) root b
  reached_back root b w = subst (Reached (atom_map h) root) (p.atoms.there b)
      (parts.reached_back p h root (A b) (subst (λ (f : ℕ → Option HeapAtom). Reached (atom_map (record k { atoms = f })) (renamed_port A root) (A b)) (λ i a. alike.atoms a i) w))

  -- ---- membranes

  by_room : {X : Type 0} (read : Option HeapMem → X) → ((o : Option HeapMem) (a b : ℕ) → read (option_map (with_room a b) o) ≡ read o) → (m : ℕ) → read (k.mems (M m)) ≡ read ((renamed p h).mems (M m))
  by_room read same m = let w = alike.mems (M m) in ap read w.2 ∙ same ((renamed p h).mems (M m)) w.0 w.1

  pub atoms_are : (m : ℕ) → atoms_in k (M m) ≡ map A (atoms_in h m)
  atoms_are m = by_room atoms_by by m ∙ renamed_reading.atoms_there p h m
    where
      by : (o : Option HeapMem) (a b : ℕ) → atoms_by (option_map (with_room a b) o) ≡ atoms_by o
      by None a b = refl
      by (Some x) a b = refl

  pub mems_are : (m : ℕ) → mems_in k (M m) ≡ map M (mems_in h m)
  mems_are m = by_room mems_by by m ∙ renamed_reading.mems_there p h m
    where
      by : (o : Option HeapMem) (a b : ℕ) → mems_by (option_map (with_room a b) o) ≡ mems_by o
      by None a b = refl
      by (Some x) a b = refl

  pub rules_are : (m : ℕ) → rules_in k (M m) ≡ rules_in h m
  rules_are m = by_room rules_by by m ∙ renamed_reading.rules_there p h m
    where
      by : (o : Option HeapMem) (a b : ℕ) → rules_by (option_map (with_room a b) o) ≡ rules_by o
      by None a b = refl
      by (Some x) a b = refl

-- numberings that are the same one way are the same the other way
back_too : (u v : Numbering) → ((x : ℕ) → u.to x ≡ v.to x) → (x : ℕ) → u.back x ≡ v.back x
back_too u v same x = ap u.back (sym (v.again x) ∙ sym (same (v.back x))) ∙ u.there (v.back x)

renamed_same : (u v : Renaming) (h : Heap) → ((a : ℕ) → u.atoms.to a ≡ v.atoms.to a) → ((m : ℕ) → u.mems.to m ≡ v.mems.to m) → renamed u h ≡ renamed v h
renamed_same u v h atoms mems =
    let atoms_back = back_too u.atoms v.atoms atoms in
    let mems_back = back_too u.mems v.mems mems in
    λ i. record {
      root = mems h.root i;
      atoms = λ a. option_map (renamed_atom (λ x. atoms x i) (λ x. mems x i)) (h.atoms (atoms_back a i));
      mems = λ m. option_map (renamed_mem (λ x. atoms x i) (λ x. mems x i)) (h.mems (mems_back m i));
      new_atoms = map (λ x. atoms x i) h.new_atoms;
      new_mems = map (λ x. mems x i) h.new_mems;
    }

-- other numbers that are the same on all that a heap has make the same heap of it
pub renamed_alike : (q p : Renaming) (h : Heap) → Sound h → ((a : ℕ) → IsAtom h a → p.atoms.to a ≡ q.atoms.to a) → ((m : ℕ) → IsMem h m → p.mems.to m ≡ q.mems.to m) → renamed q h ≡ renamed p h
renamed_alike q p h sound atoms mems =
    let e = then_renamed p (inverse q) in
    let w = renamed_twice e q in
    let same : renamed e h ≡ h = fixed_is_same e h sound (λ a i. ap q.atoms.back (atoms a i) ∙ q.atoms.there a) (λ m i. ap q.mems.back (mems m i) ∙ q.mems.there m) in
    ap (renamed q) (sym same) ∙ w.3 h ∙ renamed_same w.0 p h (λ a. w.1 a ∙ q.atoms.again (p.atoms.to a)) (λ m. w.2 m ∙ q.mems.again (p.mems.to m))
