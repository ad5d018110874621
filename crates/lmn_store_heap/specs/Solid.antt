-- The solid of a heap: by recursion on the tree of membranes.
use Rattle.std.specs.Prelude.{ℕ, zero, suc, ◌≡◌, ◌<◌, ◌+◌, ◌⊎◌, List, [], ◌∷◌, ◌++◌, Option, Some, None}
use Rattle.lmn_base.specs.declared.solid.SolidAtom.{SolidAtom}
use Rattle.lmn_base.specs.declared.solid.Region.{Region}
use Rattle.lmn_base.specs.declared.solid.Region.TheViews.{roll-Region}
use Rattle.lmn_base.specs.declared.solid.Solid.{Solid}
use Rattle.lmn_base.specs.Links.{NumbersLinks}
use Rattle.lmn_base.specs.Solids.{links_of_region}
use Rattle.lmn_store_heap.specs.Heap.{Heap, HeapAtom, arity_of, link_of, atoms_in, rules_in}
use Rattle.lmn_store_heap.specs.Sound.{Forest, bare, mem, IsTree}

-- Each link of a heap has a number: its two ports have the same one, and ports of different links have different
-- ones. `name a i` is the number of the link at the port i of the atom a.
pub record IsNaming (s : Heap) (name : ℕ → ℕ → ℕ) : Type 0 where
  pub joined : (a i b j : ℕ) → link_of s a i ≡ Some (b, j) → name a i ≡ name b j
  pub apart : (a i b j : ℕ) → i < arity_of s a → j < arity_of s b → name a i ≡ name b j →
      ((a ≡ b) × (i ≡ j)) ⊎ (link_of s a i ≡ Some (b, j))

-- the links of an atom's ports from one on, so many
abbrev pub links_from : (ℕ → ℕ → ℕ) → ℕ → ℕ → ℕ → List ℕ
links_from name a i zero = []
links_from name a i (suc n) = name a i ∷ links_from name a (i + 1) n

-- the solid's atom that stands at a number, if there is one
abbrev pub solid_atom_at : (ℕ → ℕ → ℕ) → ℕ → Option HeapAtom → List SolidAtom
solid_atom_at name a None = []
solid_atom_at name a (Some x) = (record { functor = x.functor; links = links_from name a 0 x.functor.arity }) ∷ []

-- those at the numbers of a list
abbrev pub solid_atoms_at : Heap → (ℕ → ℕ → ℕ) → List ℕ → List SolidAtom
solid_atoms_at s name [] = []
solid_atoms_at s name (a ∷ xs) = solid_atom_at name a (s.atoms a) ++ solid_atoms_at s name xs

-- what stands in the membranes of a forest, lists in order
abbrev pub regions_of : Heap → (ℕ → ℕ → ℕ) → Forest → List Region
regions_of s name bare = []
regions_of s name (mem m inner rest) =
    roll-Region (record { atoms = solid_atoms_at s name (atoms_in s m); membranes = regions_of s name inner; rules = rules_in s m }) ∷ regions_of s name rest

-- the heap has the solid x: what stands at its root, with links numbered by first occurrence
pub record HasSolid (s : Heap) (x : Solid) : Type 0 where
  pub forest : Forest
  pub tree : IsTree s forest
  pub name : ℕ → ℕ → ℕ
  pub naming : IsNaming s name
  pub root : regions_of s name forest ≡ x.root ∷ []
  pub count : ℕ
  pub numbers : NumbersLinks (links_of_region x.root) count
