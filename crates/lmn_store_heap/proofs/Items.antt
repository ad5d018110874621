-- The items of a heap's membranes are those of its solid.
use Rattle.std.proofs.Common.{◌≡◌, ℕ, ◌+◌, List, [], ◌∷◌, ◌++◌, length, map, Option, Some, None, IsSome, refl, subst, inl, inr, arith, length-append}
use Rattle.std.proofs.lemmas.List.{length-map}
use Rattle.std.specs.Prelude.{sum}
use Rattle.std.specs.Option.{option_map}
use Rattle.lmn_base.specs.declared.solid.Region.{Region}
use Rattle.lmn_base.specs.declared.solid.Region.TheFolds.{fold-Region, fold-roll-Region}
use Rattle.lmn_base.specs.declared.solid.Region.TheOpen.{Region-F}
use Rattle.lmn_base.specs.declared.solid.Region.TheViews.{roll-Region}
use Rattle.lmn_base.specs.Solids.{items_step}
use Rattle.lmn_store_heap.specs.Heap.{Heap, HeapAtom, Place, within, IsAtom, atoms_in, rules_in}
use Rattle.lmn_store_heap.specs.Sound.{Forest, bare, mem, flat, item_count_in}
use Rattle.lmn_store_heap.specs.Solid.{solid_atom_at, solid_atoms_at, regions_of}
use Rattle.lmn_store_heap.specs.Laws.{ItemsOfSolid}
use Rattle.lmn_base.specs.Lists.{In}
use Rattle.lmn_base.proofs.Lists.{sum_cons}

abbrev count : Region → ℕ
count = fold-Region ℕ items_step

module _ (s : Heap) (name : ℕ → ℕ → ℕ) (there : (m a : ℕ) → In a (atoms_in s m) → IsAtom s a) where
  items_append : (xs ys : List ℕ) → item_count_in s (xs ++ ys) ≡ item_count_in s xs + item_count_in s ys
  items_append [] ys = nothing (item_count_in s ys)
    where
      nothing : (n : ℕ) → n ≡ 0 + n
      nothing n = omega arith
  items_append (x ∷ xs) ys =
      let f : ℕ → ℕ = λ m. 1 + length (atoms_in s m) + length (rules_in s m) in
      let a = sum_cons f x (xs ++ ys) in
      let b = sum_cons f x xs in
      let r = items_append xs ys in omega arith

  all_there : (xs : List ℕ) → ((a : ℕ) → In a xs → IsAtom s a) → length (solid_atoms_at s name xs) ≡ length xs
  all_there [] h = refl
  all_there (x ∷ xs) h =
      let a = length-append (solid_atom_at name x (s.atoms x)) (solid_atoms_at s name xs) in
      let r = all_there xs (λ b i. h b (inr i)) in
      let o = one (s.atoms x) (h x (inl refl)) in omega arith
    where
      one : (o : Option HeapAtom) → IsSome o → length (solid_atom_at name x o) ≡ 1
      one None i = absurd (cc)
      one (Some y) i = refl

  -- the items of a forest's membranes, with themselves
  forest_items : (f : Forest) → item_count_in s (flat f) ≡ length (regions_of s name f) + sum (map count (regions_of s name f))
  forest_items bare = refl
  forest_items (mem m inner rest) =
      let f : ℕ → ℕ = λ m. 1 + length (atoms_in s m) + length (rules_in s m) in
      let a = sum_cons f m (flat inner ++ flat rest) in
      let b = items_append (flat inner) (flat rest) in
      let c = forest_items inner in
      let d = forest_items rest in
      let e = all_there (atoms_in s m) (there m) in
      let y : Region-F Region = record { atoms = solid_atoms_at s name (atoms_in s m); membranes = regions_of s name inner; rules = rules_in s m } in
      let g = sum_cons count (roll-Region y) (regions_of s name rest) in
      let k : count (roll-Region y) ≡ items_step (record { atoms = y.atoms; membranes = map count y.membranes; rules = y.rules }) = fold-roll-Region ℕ items_step y in
      let l : length (map count (regions_of s name inner)) ≡ length (regions_of s name inner) = length-map (regions_of s name inner) count in
      omega arith

-- what has a place is an atom
pub place_some : (o : Option HeapAtom) (p : Place) → option_map (λ x. x.place) o ≡ Some p → IsSome o
place_some None p e = absurd (cc)
place_some (Some x) p e = refl

-- a heap has as many items as its solid
pub items_of_solid : ItemsOfSolid
items_of_solid s x valid of =
    let there : (m a : ℕ) → In a (atoms_in s m) → IsAtom s a = λ m a i. place_some (s.atoms a) (within m) ((valid.sound.listed.atoms m a).0 i) in
    let e = forest_items s of.name there of.forest in
    let one = subst (λ rs. item_count_in s (flat of.forest) ≡ length rs + sum (map count rs)) of.root e in
    let c = sum_cons count x.root [] in
    omega arith
