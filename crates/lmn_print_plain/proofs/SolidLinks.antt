-- The links of a heap's solid are those of its atoms in printed order.
use Rattle.std.proofs.Common.{◌≡◌, ℕ, zero, suc, ◌+◌, ◌<◌, inl, inr, List, [], ◌∷◌, ◌++◌, map, length, Option, Some, None, IsSome, refl, sym, ap, ◌∙◌, subst, arith}
use Rattle.std.specs.Prelude.{flat_map}
use Rattle.std.specs.Option.{option_map}
use Rattle.std.proofs.lemmas.List.{append_assoc, append-nil}
use Rattle.lmn_base.specs.Links.{Numbers, known, new}
use Rattle.lmn_base.specs.Solids as solids
use Rattle.lmn_base.specs.declared.functor.Functor.{Functor}
use Rattle.lmn_base.specs.declared.solid.Region.{Region}
use Rattle.lmn_base.specs.declared.solid.Region.TheFolds.{fold-roll-Region}
use Rattle.lmn_base.specs.declared.solid.Region.TheOpen.{Region-F}
use Rattle.lmn_base.specs.declared.solid.SolidAtom.{SolidAtom}
use Rattle.lmn_store_heap.specs.Heap.{Heap, HeapAtom, Place, within, IsAtom, partners_of, arity_of, atoms_in, rules_in}
use Rattle.lmn_store_heap.specs.Solid.{links_from, solid_atom_at, solid_atoms_at, regions_of}
use Rattle.lmn_store_heap.specs.Sound.{Forest, bare, mem, flat, Sound}
use Rattle.lmn_store_heap.proofs.ListLemmas.{in_left, in_right}
use Rattle.lmn_store_heap.proofs.SolidLemmas.{atoms_append}
use Rattle.lmn_print_plain.specs.Numbers.{printed_atoms, links_at_ports, links_on}
use Rattle.lmn_print_plain.proofs.OrderLemmas.{printed_append}
use Rattle.lmn_base.proofs.Common.{numbers_grow}
use Rattle.lmn_base.specs.Lists.{In}
use Rattle.lmn_base.proofs.Lists.{in_either}

-- what stands in the lists of membranes is an atom
pub printed_are : (s : Heap) → Sound s → (ms : List ℕ) (a : ℕ) → In a (printed_atoms s ms) → IsAtom s a
printed_are s sound [] a i = absurd i
printed_are s sound (m ∷ ms) a i = elim (in_either a (atoms_in s m) (printed_atoms s ms) i) [
  | inl j ↦ by_place (s.atoms a) (within m) ((sound.listed.atoms m a).0 j)
  | inr j ↦ printed_are s sound ms a j
]
  where
    by_place : (o : Option HeapAtom) (p : Place) → option_map (λ x. x.place) o ≡ Some p → IsSome o
    by_place None p e = absurd (cc e)
    by_place (Some x) p e = refl

-- the links of two lists of atoms, one behind the other
pub links_append : (s : Heap) (name : ℕ → ℕ → ℕ) (xs ys : List ℕ) → links_on s (xs ++ ys) name ≡ links_on s xs name ++ links_on s ys name
links_append s name [] ys = refl
links_append s name (a ∷ xs) ys = ap (λ zs. links_at_ports s a name ++ zs) (links_append s name xs ys) ∙ sym (append_assoc (links_at_ports s a name) (links_on s xs name) (links_on s ys name))

module _ (s : Heap) (sound : Sound s) (name : ℕ → ℕ → ℕ) where
  -- the atoms of regions, in printed order
  abbrev gathered : List Region → List SolidAtom
  gathered rs = flat_map (λ (inner : List SolidAtom). inner) (map solids.atoms_of_region rs)

  forest_atoms : (f : Forest) → gathered (regions_of s name f) ≡ solid_atoms_at s name (printed_atoms s (flat f))
  forest_atoms bare = refl
  forest_atoms (mem m i r) =
      let z : Region-F Region = record { atoms = solid_atoms_at s name (atoms_in s m); membranes = regions_of s name i; rules = rules_in s m } in
      let here = solid_atoms_at s name (atoms_in s m) in
      ap (λ xs. xs ++ gathered (regions_of s name r)) (fold-roll-Region (List SolidAtom) solids.atoms_step z)
      ∙ ap (λ xs. (here ++ xs) ++ gathered (regions_of s name r)) (forest_atoms i)
      ∙ ap (λ xs. (here ++ solid_atoms_at s name (printed_atoms s (flat i))) ++ xs) (forest_atoms r)
      ∙ append_assoc here (solid_atoms_at s name (printed_atoms s (flat i))) (solid_atoms_at s name (printed_atoms s (flat r)))
      ∙ ap (λ xs. here ++ xs) (sym (atoms_append s name (printed_atoms s (flat i)) (printed_atoms s (flat r))) ∙ ap (solid_atoms_at s name) (sym (printed_append s (flat i) (flat r))))
      ∙ sym (atoms_append s name (atoms_in s m) (printed_atoms s (flat i ++ flat r)))

  one_atom : (a : ℕ) (o : Option HeapAtom) (rest : List SolidAtom) → IsSome o → ((f : Functor) → option_map (λ x. x.functor) o ≡ Some f → length (partners_of o) ≡ f.arity)
      → flat_map (λ (x : SolidAtom). x.links) (solid_atom_at name a o ++ rest) ≡ links_from name a 0 (length (partners_of o)) ++ flat_map (λ (x : SolidAtom). x.links) rest
  one_atom a None rest i h = absurd (cc i)
  one_atom a (Some x) rest i h = ap (λ k. links_from name a 0 k ++ flat_map (λ (y : SolidAtom). y.links) rest) (sym (h x.functor refl))

  list_links : (xs : List ℕ) → ((a : ℕ) → In a xs → IsAtom s a) → flat_map (λ (x : SolidAtom). x.links) (solid_atoms_at s name xs) ≡ links_on s xs name
  list_links [] h = refl
  list_links (a ∷ xs) h =
      one_atom a (s.atoms a) (solid_atoms_at s name xs) (h a (inl refl)) (sound.shaped.ports a) ∙ ap (λ ls. links_at_ports s a name ++ ls) (list_links xs (λ b i. h b (inr i)))

  -- the atoms of the root's region are all atoms, and its links are theirs
  pub solid_atoms : (f : Forest) (root : Region) → regions_of s name f ≡ root ∷ [] → solids.atoms_of_region root ≡ solid_atoms_at s name (printed_atoms s (flat f))
  solid_atoms f root e = sym (append-nil (solids.atoms_of_region root)) ∙ ap gathered (sym e) ∙ forest_atoms f

  pub solid_links : (f : Forest) (root : Region) → regions_of s name f ≡ root ∷ [] → solids.links_of_region root ≡ links_on s (printed_atoms s (flat f)) name
  solid_links f root e =
      ap (flat_map (λ (x : SolidAtom). x.links)) (solid_atoms f root e)
      ∙ list_links (printed_atoms s (flat f)) (printed_are s sound (flat f))

  in_numbered : (a j n i : ℕ) → i < n → In (name a (j + i)) (links_from name a j n)
  in_numbered a j zero i l = absurd (omega (arith, l))
  in_numbered a j (suc n) zero l = inl (ap (name a) (let e : j ≡ j + 0 = omega arith in e))
  in_numbered a j (suc n) (suc i) l =
      inr (subst (λ k. In (name a k) (links_from name a (j + 1) n)) (let e : j + 1 + i ≡ j + suc i = omega arith in e) (in_numbered a (j + 1) n i (omega (arith, l))))

  -- the link at a port is one of its atom's
  in_ports : (a i : ℕ) → i < arity_of s a → In (name a i) (links_at_ports s a name)
  in_ports a i l = subst (λ k. In (name a k) (links_at_ports s a name)) (let e : 0 + i ≡ i = omega arith in e) (in_numbered a 0 (arity_of s a) i l)

  -- and one of the links of the atoms among which it stands
  pub in_links : (xs : List ℕ) (a i : ℕ) → In a xs → i < arity_of s a → In (name a i) (links_on s xs name)
  in_links [] a i h l = absurd h
  in_links (b ∷ xs) a i (inl e) l = in_left (name a i) (links_at_ports s b name) (links_on s xs name) (subst (λ c. In (name a i) (links_at_ports s c name)) (sym e) (in_ports a i l))
  in_links (b ∷ xs) a i (inr h) l = in_right (name a i) (links_at_ports s b name) (links_on s xs name) (in_links xs a i h l)

-- Numbers by first occurrence.

-- each number is below the count
pub numbers_below : (n m : ℕ) (xs : List ℕ) (x : ℕ) → Numbers n xs m → In x xs → x < m
numbers_below n m [] x k i = absurd i
numbers_below n m (y ∷ xs) x (known l k) (inl e) = let g = numbers_grow k in omega (arith, g, l, e)
numbers_below n m (y ∷ xs) x (known l k) (inr i) = numbers_below n m xs x k i
numbers_below n m (y ∷ xs) x (new k) (inl e) = let g = numbers_grow k in omega (arith, g, e)
numbers_below n m (y ∷ xs) x (new k) (inr i) = numbers_below (suc n) m xs x k i
