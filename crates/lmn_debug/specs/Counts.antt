-- How many atoms of a solid have a functor.
use Rattle.std.specs.Prelude.{ℕ, zero, suc, ◌≡◌, List, [], ◌∷◌, ◌++◌, length}
use Rattle.lmn_base.specs.declared.functor.Functor.{Functor}
use Rattle.lmn_congruence.specs.Regions.{Region, Regions, SolidAtom, region, no_region, region_and}
use Rattle.lmn_congruence.specs.Rules.{Name}
use Rattle.lmn_congruence.specs.Translation.{label_of}

-- the atoms of a region, at every depth
abbrev mutual
  pub atoms_of : Region → List SolidAtom
  atoms_of (region atoms membranes rules) = atoms ++ atoms_in_all membranes

  pub atoms_in_all : Regions → List SolidAtom
  atoms_in_all no_region = []
  atoms_in_all (region_and r rs) = atoms_of r ++ atoms_in_all rs

-- the atom has the functor, whose name stands in the list
pub record HasFunctor (names : List Name) (f : Functor) (a : SolidAtom) : Type 0 where
  pub label : a.label ≡ label_of names f.label
  pub arity : length a.links ≡ f.arity

-- so many atoms of a list are so
pub data AreSo (Is : SolidAtom → Type 0) : List SolidAtom → ℕ → Type 0 where
  none : AreSo Is [] zero
  one : {a : SolidAtom} {xs : List SolidAtom} {n : ℕ} → Is a → AreSo Is xs n → AreSo Is (a ∷ xs) (suc n)
  other : {a : SolidAtom} {xs : List SolidAtom} {n : ℕ} → ¬ (Is a) → AreSo Is xs n → AreSo Is (a ∷ xs) n

-- so many atoms of the solid have the functor
abbrev pub IsCount : List Name → Functor → Region → ℕ → Type 0
IsCount names f S n = AreSo (HasFunctor names f) (atoms_of S) n
