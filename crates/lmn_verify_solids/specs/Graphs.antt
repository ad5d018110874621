-- Solids as graphs: their atoms and membranes have numbers, whichever, by which registers name them.
--
-- In a region of the calculus nothing has a name by which a register could hold it, and two equal rules, which may have different codes,
-- are one. An `AtomMap` has what is asked of atoms, and no lists of membranes and rules: so a graph has one, and these beside it.
use Rattle.std.specs.Prelude.{ℕ, zero, suc, ◌≡◌, ◌≢◌, ◌<◌, ◌↔◌, ◌⊎◌, List, [], ◌∷◌, ◌++◌, flat_map, Option, Some, None, IsSome}
use Rattle.lmn_base.specs.declared.functor.Functor.{Functor}
use Rattle.lmn_base.specs.declared.solid.Region.{Region}
use Rattle.lmn_base.specs.declared.solid.Region.TheViews.{roll-Region}
use Rattle.lmn_base.specs.declared.solid.Solid.{Solid}
use Rattle.lmn_base.specs.declared.solid.SolidAtom.{SolidAtom}
use Rattle.lmn_base.specs.Graphs.{AtomMap, Port}
use Rattle.lmn_base.specs.Lists.{In}
use Rattle.lmn_base.specs.Links.{NumbersLinks}
use Rattle.lmn_base.specs.Solids.{connector, links_of_region}
use Rattle.lmn_store_heap.specs.Lists.{Distinct}
use Rattle.lmn_store_heap.specs.Solid.{links_from}
use Rattle.lmn_ground_parts.specs.Walks.{Net}

-- Atoms in membranes. A number names an atom, a membrane, or nothing; a port is the number of an atom with an index.
--   root       the root
--   map        the functor of each atom, the port to which each port is joined, and the membrane in which each atom stands
--   atoms, membranes, rules    what stands in each membrane, in order
--   round      the membrane in which each membrane stands
pub record Graph : Type 0 where
  pub root : ℕ
  pub map : AtomMap
  pub atoms : ℕ → List ℕ
  pub membranes : ℕ → List ℕ
  pub rules : ℕ → List ℕ
  pub round : ℕ → Option ℕ

-- a port of an atom
abbrev pub IsPort : Graph → Port → Type 0
IsPort g p = (f : Functor) × (g.map.functor p.0 ≡ Some f) × (p.1 < f.arity)

-- how many ports each atom has, and what is at the other end of each
abbrev pub arity_by : Option Functor → ℕ
arity_by None = 0
arity_by (Some f) = f.arity

abbrev pub net : Graph → Net
net g = record { arity = λ a. arity_by (g.map.functor a); link = λ a i. g.map.partner (a, i) }

-- the atom of a solid that has this number, if one has, where links have the numbers that `link` gives at ports
abbrev pub atom_with : (ℕ → ℕ → ℕ) → ℕ → Option Functor → List SolidAtom
atom_with link a None = []
atom_with link a (Some f) = record { functor = f; links = links_from link a 0 f.arity } ∷ []

-- In these membranes stand these regions. Those in the membranes, at any depth, are named too, in preorder.
pub data Stand (g : Graph) (link : ℕ → ℕ → ℕ) : List ℕ → List ℕ → List Region → Type 0 where
  none_stands : Stand g link [] [] []
  one_stands : {m : ℕ} {ms inner later : List ℕ} {is rs : List Region} → Stand g link (g.membranes m) inner is → Stand g link ms later rs →
      Stand g link (m ∷ ms) (m ∷ inner ++ later) (roll-Region (record { atoms = flat_map (λ a. atom_with link a (g.map.functor a)) (g.atoms m); membranes = is; rules = g.rules m }) ∷ rs)

-- The graph is that of a solid, with some numbers.
--   link, count, numbers    the number of the link at each port; those of the solid are numbered in printed order
--   all, stands     its membranes in preorder; the solid stands in the root
--   once, nowhere   each of its membranes has one number, and nothing stands in what has another
--   homes, atoms_once, placed    an atom stands in one membrane, at one place of the list,
--   no_connector    and is no connector
--   rounds          so does a membrane, but the root
--   joined, full    each port is joined to another one, which has the same link,
--   apart           and no two other ports have one link
pub record IsGraphOf (g : Graph) (S : Solid) : Type 0 where
  pub link : ℕ → ℕ → ℕ
  pub count : ℕ
  pub numbers : NumbersLinks (links_of_region S.root) count
  pub all : List ℕ
  pub stands : Stand g link (g.root ∷ []) all (S.root ∷ [])
  pub once : Distinct all
  pub nowhere : (m : ℕ) → (In m all → ⊥) → (g.atoms m ≡ []) × (g.membranes m ≡ []) × (g.rules m ≡ [])
  pub homes : (a m : ℕ) → In a (g.atoms m) ↔ (g.map.home a ≡ Some m)
  pub atoms_once : (m : ℕ) → Distinct (g.atoms m)
  pub no_connector : (a : ℕ) → g.map.functor a ≢ Some connector
  pub placed : (a : ℕ) → IsSome (g.map.functor a) ↔ IsSome (g.map.home a)
  pub rounds : (n m : ℕ) → In n (g.membranes m) ↔ (g.round n ≡ Some m)
  pub joined : (p q : Port) → g.map.partner p ≡ Some q → IsPort g p × (p ≢ q) × (g.map.partner q ≡ Some p) × (link p.0 p.1 ≡ link q.0 q.1)
  pub full : (p : Port) → IsPort g p → IsSome (g.map.partner p)
  pub apart : (p q : Port) → IsPort g p → IsPort g q → link p.0 p.1 ≡ link q.0 q.1 → (p ≡ q) ⊎ (g.map.partner p ≡ Some q)

-- a membrane is so many steps above another one
abbrev pub Above : Graph → ℕ → ℕ → ℕ → Type 0
Above g zero m n = n ≡ m
Above g (suc k) m n = (p : ℕ) × (g.round n ≡ Some p) × Above g k m p

-- an atom stands in a membrane or below it
abbrev pub StandsWithin : Graph → ℕ → ℕ → Type 0
StandsWithin g a m = (n : ℕ) × (k : ℕ) × (g.map.home a ≡ Some n) × Above g k m n
