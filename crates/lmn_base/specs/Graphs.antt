-- Atoms that are joined at their ports, and the part of them that is reached through a port.
use Rattle.std.specs.Prelude.{ℕ, ◌≡◌, ◌≢◌, ◌<◌, ◌↔◌, Option, Some, IsSome}
use Rattle.lmn_base.specs.declared.functor.Functor.{Functor}

-- Atoms by number. A port is the number of an atom and an index from 0. Nothing here asks that there are finitely many.
--   functor   the functor of an atom; none where the number names no atom
--   partner   the port to which a port is joined
--   home      the membrane in which an atom stands
pub record AtomMap : Type 0 where
  pub functor : ℕ → Option Functor
  pub partner : ℕ × ℕ → Option (ℕ × ℕ)
  pub home : ℕ → Option ℕ

-- The atoms of the part with a root port: the atom of the root, and each atom that is joined to one of
-- them, otherwise than by the root.
pub data Reached (m : AtomMap) (root : ℕ × ℕ) : ℕ → Type 0 where
  at_root : Reached m root root.0
  across : {a b i j : ℕ} →
      Reached m root a → (a, i) ≢ root → m.partner (a, i) ≡ Some (b, j) → Reached m root b

-- A part stands whole in a membrane: its atoms stand there, and each of its ports but the root is joined,
-- and so to one of the part.
pub record StandsWhole (m : AtomMap) (root : ℕ × ℕ) (home : ℕ) : Type 0 where
  pub at_home : (a : ℕ) → Reached m root a → m.home a ≡ Some home
  pub no_other_end : (a i : ℕ) (f : Functor) → Reached m root a → m.functor a ≡ Some f → i < f.arity → (a, i) ≢ root →
      IsSome (m.partner (a, i))

-- Two parts are equal as rooted graphs: one map, one to one on all their atoms, keeps functors and joined
-- ports and takes root to root.
pub record SameGraph (m : AtomMap) (x : ℕ × ℕ) (n : AtomMap) (y : ℕ × ℕ) : Type 0 where
  pub to : ℕ → ℕ
  pub into : (a : ℕ) → Reached m x a → Reached n y (to a)
  pub onto : (b : ℕ) → Reached n y b → (a : ℕ) × Reached m x a × (to a ≡ b)
  pub one_to_one : (a b : ℕ) → Reached m x a → Reached m x b → to a ≡ to b → a ≡ b
  pub functors : (a : ℕ) → Reached m x a → n.functor (to a) ≡ m.functor a
  pub joined : (a b i j : ℕ) → Reached m x a → Reached m x b →
      (m.partner (a, i) ≡ Some (b, j)) ↔ (n.partner (to a, i) ≡ Some (to b, j))
  pub root : (to x.0, x.1) ≡ y

-- A port of the head or of a heap: the number of an atom and an index from 0.
abbrev pub Port : Type 0
Port = ℕ × ℕ
