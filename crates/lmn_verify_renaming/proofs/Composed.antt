-- Numbers that are changed one time after another, and numbers that stay.
use Rattle.std.proofs.Common.{◌≡◌, ◌∙◌, ℕ, List, [], ◌∷◌, Option, Some, None, IsSome, map, refl, sym, ap, subst, inl, inr}
use Rattle.std.specs.Prelude.{slice_index_or}
use Rattle.std.specs.Option.{option_map}
use Rattle.std.proofs.Math.ListN.{get_or-map}
use Rattle.std.proofs.lemmas.List.{length-map}
use Rattle.lmn_base.specs.Lists.{In}
use Rattle.lmn_base.proofs.Lists.{link_within, map_twice}
use Rattle.lmn_store_heap.specs.Heap.{Heap, HeapAtom, HeapMem, IsAtom, IsMem, Place, atoms_by, atoms_in, gone, mem_place_of, mems_by, mems_in, partners_of, top, waiting, within}
use Rattle.lmn_store_heap.specs.Sound.{Sound}
use Rattle.lmn_store_heap.proofs.Common.{holds_mem, is_atom_at}
use Rattle.lmn_store_heap.proofs.Items.{place_some}
use Rattle.lmn_verify_renaming.specs.Laws.{FixedIsSame, RenamedTwice}
use Rattle.lmn_verify_renaming.specs.Renamed.{Numbering, Renaming, renamed, renamed_atom, renamed_mem, renamed_place, renamed_port}
use Rattle.lmn_verify_renaming.proofs.Lists.{same_list}

-- ---- one after the other

abbrev pub then_numbered : Numbering → Numbering → Numbering
then_numbered n o = record {
  to = λ x. o.to (n.to x);
  back = λ x. n.back (o.back x);
  there = λ x. ap n.back (o.there (n.to x)) ∙ n.there x;
  again = λ x. ap o.to (n.again (o.back x)) ∙ o.again x;
}

abbrev pub then_renamed : Renaming → Renaming → Renaming
then_renamed r q = record { atoms = then_numbered r.atoms q.atoms; mems = then_numbered r.mems q.mems }

module _ (r q : Renaming) where
  links_twice : (ls : List (Option (ℕ × ℕ))) → map (option_map (renamed_port q.atoms.to)) (map (option_map (renamed_port r.atoms.to)) ls) ≡ map (option_map (renamed_port (λ x. q.atoms.to (r.atoms.to x)))) ls
  links_twice [] = refl
  links_twice (None ∷ ls) = ap (λ xs. None ∷ xs) (links_twice ls)
  links_twice (Some p ∷ ls) = ap (λ xs. Some (q.atoms.to (r.atoms.to p.0), p.1) ∷ xs) (links_twice ls)

  place_twice : (p : Place) → renamed_place q.mems.to (renamed_place r.mems.to p) ≡ renamed_place (λ x. q.mems.to (r.mems.to x)) p
  place_twice top = refl
  place_twice (within m) = refl
  place_twice waiting = refl
  place_twice gone = refl

  atom_twice : (o : Option HeapAtom) → option_map (renamed_atom q.atoms.to q.mems.to) (option_map (renamed_atom r.atoms.to r.mems.to) o) ≡ option_map (renamed_atom (λ x. q.atoms.to (r.atoms.to x)) (λ x. q.mems.to (r.mems.to x))) o
  atom_twice None = refl
  atom_twice (Some x) = λ i. Some (record x { links = links_twice x.links i; place = place_twice x.place i })

  mem_twice : (o : Option HeapMem) → option_map (renamed_mem q.atoms.to q.mems.to) (option_map (renamed_mem r.atoms.to r.mems.to) o) ≡ option_map (renamed_mem (λ x. q.atoms.to (r.atoms.to x)) (λ x. q.mems.to (r.mems.to x))) o
  mem_twice None = refl
  mem_twice (Some x) = λ i. Some (record x { atoms = map_twice q.atoms.to r.atoms.to x.atoms i; mems = map_twice q.mems.to r.mems.to x.mems i; place = place_twice x.place i })

-- other numbers for other numbers are other numbers
pub renamed_twice : RenamedTwice
renamed_twice r q = (
  then_renamed r q,
  (λ a. refl),
  (λ m. refl),
  (λ s i. record {
    root = q.mems.to (r.mems.to s.root);
    atoms = λ a. atom_twice r q (s.atoms (r.atoms.back (q.atoms.back a))) i;
    mems = λ m. mem_twice r q (s.mems (r.mems.back (q.mems.back m))) i;
    new_atoms = map_twice q.atoms.to r.atoms.to s.new_atoms i;
    new_mems = map_twice q.mems.to r.mems.to s.new_mems i;
  }),
)

-- ---- what stays

map_fixed : (f : ℕ → ℕ) (xs : List ℕ) → ((x : ℕ) → In x xs → f x ≡ x) → map f xs ≡ xs
map_fixed f [] h = refl
map_fixed f (x ∷ xs) h = λ i. h x (inl refl) i ∷ map_fixed f xs (λ y j. h y (inr j)) i

module _ (r : Renaming) (s : Heap) (sound : Sound s) (atoms : (a : ℕ) → IsAtom s a → r.atoms.to a ≡ a) (mems : (m : ℕ) → IsMem s m → r.mems.to m ≡ m) where
  mem_of_place : (m : ℕ) (p : Place) → mem_place_of s m ≡ Some p → IsMem s m
  mem_of_place m p e = by (s.mems m) e
    where
      by : (o : Option HeapMem) → option_map (λ (y : HeapMem). y.place) o ≡ Some p → IsSome o
      by None f = absurd (cc f)
      by (Some y) f = refl

  place_fixed : (p : Place) → ((m : ℕ) → p ≡ within m → IsMem s m) → renamed_place r.mems.to p ≡ p
  place_fixed top h = refl
  place_fixed (within m) h = ap within (mems m (h m refl))
  place_fixed waiting h = refl
  place_fixed gone h = refl

  -- what an atom's cell names is there
  link_fixed : (a : ℕ) (x : HeapAtom) → s.atoms a ≡ Some x → (i : ℕ) → option_map (renamed_port r.atoms.to) (slice_index_or x.links i None) ≡ slice_index_or x.links i None
  link_fixed a x e i = by (slice_index_or x.links i None) refl
    where
      by : (o : Option (ℕ × ℕ)) → slice_index_or x.links i None ≡ o → option_map (renamed_port r.atoms.to) o ≡ o
      by None f = refl
      by (Some p) f =
          let paired = sound.paired in
          let back = paired.back a i p.0 p.1 (ap (λ o. slice_index_or (partners_of o) i None) e ∙ f) in
          let there = is_atom_at s p.0 p.1 (link_within (partners_of (s.atoms p.0)) p.1 (a, i) back) in
          λ z. Some (atoms p.0 there z, p.1)

  atom_fixed : (a : ℕ) (x : HeapAtom) → s.atoms a ≡ Some x → renamed_atom r.atoms.to r.mems.to x ≡ x
  atom_fixed a x e =
      let links = same_list None (map (option_map (renamed_port r.atoms.to)) x.links) x.links (length-map x.links (option_map (renamed_port r.atoms.to)))
      (λ i l. get_or-map (option_map (renamed_port r.atoms.to)) x.links i None ∙ link_fixed a x e i) in
      let listed = sound.listed in
      let place = place_fixed x.place (λ m f. home m ((listed.atoms m a).1 (ap (option_map (λ (y : HeapAtom). y.place)) e ∙ ap (λ z. Some z) f))) in
      λ i. record x { links = links i; place = place i }
    where
      home : (m : ℕ) → In a (atoms_in s m) → IsMem s m
      home m i = holds_mem (s.mems m) a i

  mem_fixed : (m : ℕ) (x : HeapMem) → s.mems m ≡ Some x → renamed_mem r.atoms.to r.mems.to x ≡ x
  mem_fixed m x e =
      let listed = sound.listed in
      let here = map_fixed r.atoms.to x.atoms (λ a i. atoms a (place_some (s.atoms a) (within m) ((listed.atoms m a).0 (subst (In a) (sym (ap atoms_by e)) i)))) in
      let inside = map_fixed r.mems.to x.mems (λ n i. mems n (mem_of_place n (within m) ((listed.mems m n).0 (subst (In n) (sym (ap mems_by e)) i)))) in
      let place = place_fixed x.place (λ p f. parent p ((listed.mems p m).1 (ap (option_map (λ (y : HeapMem). y.place)) e ∙ ap (λ z. Some z) f))) in
      λ i. record x { atoms = here i; mems = inside i; place = place i }
    where
      parent : (p : ℕ) → In m (mems_in s p) → IsMem s p
      parent p i = by (s.mems p) i
        where
          by : (o : Option HeapMem) → In m (mems_by o) → IsSome o
          by None j = absurd j
          by (Some y) j = refl

  fixed : renamed r s ≡ s
  fixed =
      let listed = sound.listed in
      λ i. record {
        root = mems s.root (mem_of_place s.root top ((listed.root s.root).1 refl)) i;
        atoms = λ a. atom_at a (s.atoms a) refl i;
        mems = λ m. mem_at m (s.mems m) refl i;
        new_atoms = map_fixed r.atoms.to s.new_atoms (λ a j. atoms a (place_some (s.atoms a) waiting ((listed.new_atoms a).0 j))) i;
        new_mems = map_fixed r.mems.to s.new_mems (λ m j. mems m (mem_of_place m waiting ((listed.new_mems m).0 j))) i;
      }
    where
      atom_at : (a : ℕ) (o : Option HeapAtom) → s.atoms a ≡ o → option_map (renamed_atom r.atoms.to r.mems.to) (s.atoms (r.atoms.back a)) ≡ s.atoms a
      atom_at a (Some x) e =
          let same : r.atoms.back a ≡ a = ap r.atoms.back (sym (atoms a (subst (λ (o : Option HeapAtom). IsSome o) (sym e) refl))) ∙ r.atoms.there a in
          ap (λ z. option_map (renamed_atom r.atoms.to r.mems.to) (s.atoms z)) same ∙ ap (option_map (renamed_atom r.atoms.to r.mems.to)) e ∙ ap (λ y. Some y) (atom_fixed a x e) ∙ sym e
      atom_at a None e = none (s.atoms (r.atoms.back a)) refl ∙ sym e
        where
          none : (o : Option HeapAtom) → s.atoms (r.atoms.back a) ≡ o → option_map (renamed_atom r.atoms.to r.mems.to) (s.atoms (r.atoms.back a)) ≡ None
          none None f = ap (option_map (renamed_atom r.atoms.to r.mems.to)) f
          none (Some x) f =
              let same : a ≡ r.atoms.back a = sym (r.atoms.again a) ∙ atoms (r.atoms.back a) (subst (λ (o : Option HeapAtom). IsSome o) (sym f) refl) in
              let no : ◌≡◌ {A = Option HeapAtom} None (Some x) = sym e ∙ ap s.atoms same ∙ f in
              absurd (cc no)

      mem_at : (m : ℕ) (o : Option HeapMem) → s.mems m ≡ o → option_map (renamed_mem r.atoms.to r.mems.to) (s.mems (r.mems.back m)) ≡ s.mems m
      mem_at m (Some x) e =
          let same : r.mems.back m ≡ m = ap r.mems.back (sym (mems m (subst (λ (o : Option HeapMem). IsSome o) (sym e) refl))) ∙ r.mems.there m in
          ap (λ z. option_map (renamed_mem r.atoms.to r.mems.to) (s.mems z)) same ∙ ap (option_map (renamed_mem r.atoms.to r.mems.to)) e ∙ ap (λ y. Some y) (mem_fixed m x e) ∙ sym e
      mem_at m None e = none (s.mems (r.mems.back m)) refl ∙ sym e
        where
          none : (o : Option HeapMem) → s.mems (r.mems.back m) ≡ o → option_map (renamed_mem r.atoms.to r.mems.to) (s.mems (r.mems.back m)) ≡ None
          none None f = ap (option_map (renamed_mem r.atoms.to r.mems.to)) f
          none (Some x) f =
              let same : m ≡ r.mems.back m = sym (r.mems.again m) ∙ mems (r.mems.back m) (subst (λ (o : Option HeapMem). IsSome o) (sym f) refl) in
              let no : ◌≡◌ {A = Option HeapMem} None (Some x) = sym e ∙ ap s.mems same ∙ f in
              absurd (cc no)

-- a heap is as it was where what it has keeps its numbers
pub fixed_is_same : FixedIsSame
fixed_is_same r s sound atoms mems = fixed r s sound atoms mems
