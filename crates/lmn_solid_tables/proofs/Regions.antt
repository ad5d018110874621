-- Trees of regions, and the regions and atoms that they stand for.
use Rattle.std.proofs.Common.{ℕ, suc, ◌≡◌, ◌+◌, List, [], ◌∷◌, ◌++◌, length, map, refl, sym, ap, subst, ◌∙◌, arith}
use Rattle.std.proofs.lemmas.Option.{get_or_from_slice_get}
use Rattle.std.specs.Prelude.{Some, flat_map, slice_get, slice_index_or}
use Rattle.std.specs.Option.{option_map}
use Rattle.std.proofs.lemmas.List.{append_assoc}
use Rattle.std.specs.List.{range_with_len}
use Rattle.lmn_base.specs.declared.solid.SolidAtom.{SolidAtom}
use Rattle.lmn_base.specs.declared.solid.Region.{Region}
use Rattle.lmn_base.specs.declared.solid.Region.TheViews.{roll-Region}
use Rattle.lmn_base.specs.declared.solid.Region.TheFolds.{fold-roll-Region, ind-Region}
use Rattle.lmn_base.specs.Solids.{atoms_of_region, atoms_step, links_of_region}
use Rattle.lmn_base.proofs.Lists.{map_append, plus_nothing}
use Rattle.lmn_congruence.specs.Regions as solid
use Rattle.lmn_store_heap.specs.Heap.{atoms_in, rules_in}
use Rattle.lmn_store_heap.specs.Solid.{links_from, regions_of, solid_atom_at, solid_atoms_at}
use Rattle.lmn_solid_tables.specs.declared.flat.Flat.{Flat}
use Rattle.lmn_solid_tables.specs.declared.tables.FlatAtom.{FlatAtom}
use Rattle.lmn_solid_tables.specs.declared.tables.FlatMembrane.{FlatMembrane}
use Rattle.lmn_solid_tables.specs.Tables.{links_by}
use Rattle.lmn_solid_tables.specs.Flats.{heap_atom, heap_of, link_at}
use Rattle.lmn_solid_tables.specs.Building.{Trees, none, in_front, trees_of, trees_step, Tables, no_tables, added, at_home, links_of_atoms, visited}
use Rattle.lmn_solid_tables.specs.Building as built
use Rattle.lmn_solid_tables.proofs.Preorder.{Stands, count, forest}

-- ---- regions

first_region : solid.Region → solid.Regions → solid.Region
first_region d solid.no_region = d
first_region d (solid.region_and r rs) = r

-- two regions in front of the same ones
pub same_first : (r s : solid.Region) (rs : solid.Regions) → solid.region_and r rs ≡ solid.region_and s rs → r ≡ s
unfolding first_region
same_first r s rs e = ap (first_region r) e

-- the regions of a solid that a tree stands for
abbrev pub rolled : Trees → List Region
rolled none = []
rolled (built.tree atoms rules inner rest) = roll-Region (record { atoms = atoms; membranes = rolled inner; rules = rules }) ∷ rolled rest

abbrev Rolls : Region → Type 0
Rolls r = (rest : Trees) → rolled (trees_of r rest) ≡ r ∷ rolled rest

inner_rolled : (rs : List ((r : Region) × Rolls r)) → rolled (in_front (map trees_of (map (λ e. e.0) rs)) none) ≡ map (λ e. e.0) rs
inner_rolled [] = refl
inner_rolled (e ∷ rs) = e.1 (in_front (map trees_of (map (λ e. e.0) rs)) none) ∙ ap (λ xs. e.0 ∷ xs) (inner_rolled rs)

-- a region in front of others is itself
pub rolls : (r : Region) → Rolls r
rolls = ind-Region Rolls (λ y z is rest.
    let inside = subst (λ r. rolled (in_front (map trees_of r.membranes) none) ≡ r.membranes) is (inner_rolled z.membranes) in
    rw (fold-roll-Region (Trees → Trees) trees_step y)
    (λ i. roll-Region (record { atoms = y.atoms; membranes = inside i; rules = y.rules }) ∷ rolled rest))

-- ---- atoms

-- the atoms of a tree in printed order
abbrev pub atoms_of_trees : Trees → List SolidAtom
atoms_of_trees none = []
atoms_of_trees (built.tree atoms rules inner rest) = atoms ++ (atoms_of_trees inner ++ atoms_of_trees rest)

abbrev InOrder : Region → Type 0
InOrder r = (rest : Trees) → atoms_of_trees (trees_of r rest) ≡ atoms_of_region r ++ atoms_of_trees rest

inner_in_order : (rs : List ((r : Region) × InOrder r)) → atoms_of_trees (in_front (map trees_of (map (λ e. e.0) rs)) none) ≡ flat_map (λ inner. inner) (map atoms_of_region (map (λ e. e.0) rs))
inner_in_order [] = refl
inner_in_order (e ∷ rs) = e.1 (in_front (map trees_of (map (λ e. e.0) rs)) none) ∙ ap (λ xs. atoms_of_region e.0 ++ xs) (inner_in_order rs)

-- the atoms of a region, and then those of the others
pub in_order : (r : Region) → InOrder r
in_order = ind-Region InOrder (λ y z is rest.
    let inside = subst (λ r. atoms_of_trees (in_front (map trees_of r.membranes) none) ≡ flat_map (λ inner. inner) (map atoms_of_region r.membranes)) is (inner_in_order z.membranes) in
    rw (fold-roll-Region (List SolidAtom) atoms_step y, fold-roll-Region (Trees → Trees) trees_step y)
    (ap (λ xs. y.atoms ++ (xs ++ atoms_of_trees rest)) inside ∙ sym (append_assoc y.atoms (flat_map (λ inner. inner) (map atoms_of_region y.membranes)) (atoms_of_trees rest))))

-- an atom of the table without its home
abbrev pub plain : FlatAtom → SolidAtom
plain y = record { functor = y.functor; links = y.links }

plain_at_home : (k : ℕ) (atoms : List SolidAtom) → map plain (map (at_home k) atoms) ≡ atoms
plain_at_home k [] = refl
plain_at_home k (x ∷ atoms) = ap (λ xs. x ∷ xs) (plain_at_home k atoms)

plain_visited : (ts : Trees) (p : ℕ) (t : Tables) → map plain (visited ts p t).atoms ≡ map plain t.atoms ++ atoms_of_trees ts
plain_visited none p t = sym (plus_nothing (map plain t.atoms))
plain_visited (built.tree atoms rules inner rest) p t =
    let k = length t.membranes in
    let t1 = added atoms rules p t in
    plain_visited rest p (visited inner k t1)
    ∙ ap (λ xs. xs ++ atoms_of_trees rest) (
    plain_visited inner k t1
    ∙ ap (λ xs. xs ++ atoms_of_trees inner) (map_append plain t.atoms (map (at_home k) atoms) ∙ ap (λ xs. map plain t.atoms ++ xs) (plain_at_home k atoms)))
    ∙ append_assoc (map plain t.atoms ++ atoms) (atoms_of_trees inner) (atoms_of_trees rest)
    ∙ append_assoc (map plain t.atoms) atoms (atoms_of_trees inner ++ atoms_of_trees rest)

-- the table of atoms is that of a region in printed order
pub plain_whole : (r : Region) → map plain (visited (trees_of r none) 0 no_tables).atoms ≡ atoms_of_region r
plain_whole r = plain_visited (trees_of r none) 0 no_tables ∙ in_order r none ∙ plus_nothing (atoms_of_region r)

links_plain : (ys : List FlatAtom) → links_of_atoms ys ≡ flat_map (λ a. a.links) (map plain ys)
links_plain [] = refl
links_plain (y ∷ ys) = ap (λ xs. y.links ++ xs) (links_plain ys)

-- and so are its links
pub links_whole : (r : Region) → links_of_atoms (visited (trees_of r none) 0 no_tables).atoms ≡ links_of_region r
links_whole r = links_plain (visited (trees_of r none) 0 no_tables).atoms ∙ ap (flat_map (λ a. a.links)) (plain_whole r)

-- ---- the region of the heap

links_row : (name : ℕ → ℕ → ℕ) (a i : ℕ) (xs : List ℕ) → ((j x : ℕ) → slice_get xs j ≡ Some x → name a (i + j) ≡ x) → links_from name a i (length xs) ≡ xs
links_row name a i [] f = refl
links_row name a i (x ∷ xs) f =
    let e : i ≡ i + 0 = omega arith in
    (λ k. (ap (name a) e ∙ f 0 x refl) k ∷ links_row name a (i + 1) xs (λ j y d. let g : i + 1 + j ≡ i + suc j = omega arith in ap (name a) g ∙ f (suc j) y d) k)

module _ (flat : Flat) (u : Tables) (same : u.atoms ≡ flat.atoms.items) (arities : (a : ℕ) (y : FlatAtom) → slice_get u.atoms a ≡ Some y → length y.links ≡ y.functor.arity) where
  got : (a : ℕ) (y : FlatAtom) → slice_get u.atoms a ≡ Some y → slice_get flat.atoms.items a ≡ Some y
  got a y e = ap (λ ys. slice_get ys a) (sym same) ∙ e

  -- atoms that stand in a row in the table
  atoms_row : (k a : ℕ) (atoms : List SolidAtom) → ((i : ℕ) (x : SolidAtom) → slice_get atoms i ≡ Some x → slice_get u.atoms (a + i) ≡ Some (at_home k x)) → solid_atoms_at (heap_of flat) (link_at flat) (range_with_len a (length atoms)) ≡ atoms
  atoms_row k a [] f = refl
  atoms_row k a (x ∷ atoms) f =
      let e : a + 0 ≡ a = omega arith in
      let here : slice_get u.atoms a ≡ Some (at_home k x) = ap (slice_get u.atoms) (sym e) ∙ f 0 x refl in
      let there = got a (at_home k x) here in
      let links : links_from (link_at flat) a 0 x.functor.arity ≡ x.links =
      ap (links_from (link_at flat) a 0) (sym (arities a (at_home k x) here))
      ∙ links_row (link_at flat) a 0 x.links (λ j y d. let g : 0 + j ≡ j = omega arith in ap (link_at flat a) g ∙ ap (λ o. slice_index_or (links_by o) j 0) there ∙ get_or_from_slice_get x.links j y 0 d) in
      let behind = atoms_row k (a + 1) atoms (λ i y d. let g : a + 1 + i ≡ a + suc i = omega arith in ap (slice_get u.atoms) g ∙ f (suc i) y d) in
      ap (λ o. solid_atom_at (link_at flat) a (option_map (heap_atom flat.ports.items a) o) ++ solid_atoms_at (heap_of flat) (link_at flat) (range_with_len (a + 1) (length atoms))) there
      ∙ (λ i. record { functor = x.functor; links = links i } ∷ behind i)

  -- the regions that stand in the tables are those of the heap
  pub solid_row : ((m : ℕ) (x : FlatMembrane) → slice_get u.membranes m ≡ Some x → (atoms_in (heap_of flat) m ≡ x.atoms) × (rules_in (heap_of flat) m ≡ x.rules)) →
      (ts : Trees) (p k a : ℕ) → Stands u ts p k a → regions_of (heap_of flat) (link_at flat) (forest k ts) ≡ rolled ts
  solid_row held none p k a s = refl
  solid_row held (built.tree atoms rules inner rest) p k a s =
      let h = held k (built.lone_membrane p a atoms rules) s.0 in
      let here : solid_atoms_at (heap_of flat) (link_at flat) (atoms_in (heap_of flat) k) ≡ atoms = ap (solid_atoms_at (heap_of flat) (link_at flat)) h.0 ∙ atoms_row k a atoms s.1 in
      let inside = solid_row held inner k (suc k) (a + length atoms) s.2 in
      let after = solid_row held rest p (suc k + built.size inner) (a + length atoms + count inner) s.3 in
      (λ i. roll-Region (record { atoms = here i; membranes = inside i; rules = h.1 i }) ∷ after i)
