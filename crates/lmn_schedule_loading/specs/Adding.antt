-- What the loading of a part of a level adds to a membrane. No public contract cites a word of this.
use Rattle.std.specs.Prelude.{ℕ, ◌≡◌, ◌≢◌, ◌<◌, ◌+◌, ◌⊎◌, List, [], ◌∷◌, ◌++◌, map, flat_map, length, Option, Some, None, IsSome, slice_index_or, if◌then◌else◌}
use Rattle.std.specs.Option.{option_map, option_and_then}
use Rattle.lmn_base.specs.declared.level.Leaf.{Leaf}
use Rattle.lmn_base.specs.declared.level.Leaf.TheVariants.{Atom, Typed}
use Rattle.lmn_base.specs.declared.level.Level.{Level}
use Rattle.lmn_base.specs.declared.level.Occ.{Occ}
use Rattle.lmn_base.specs.declared.functor.Functor.{Functor}
use Rattle.lmn_base.specs.Levels.{leaves_of}
use Rattle.lmn_base.specs.Solids.{connector, is_connector}
use Rattle.lmn_congruence.specs.SolidsOfPlains.{fused_leaf, fused_region}
use Rattle.lmn_store_heap.specs.Heap.{Heap, HeapAtom, IsAtom, IsMem, IsPlacedMem, IsMemInPlace, mem_place_of, atoms_in, mems_in, rules_in, home_by, partners_of, marks_of, made_atom, made_mem, placed, placed_mem}
use Rattle.lmn_store_heap.specs.Solid.{solid_atoms_at, regions_of}
use Rattle.lmn_store_heap.specs.Sound.{Sound, Forest, flat, Forms}
use Rattle.lmn_congruence_splice.specs.Splice.{IsOneOf, NoneTwice, ports, links}
use Rattle.lmn_base.specs.Graphs.{Port}
use Rattle.lmn_congruence.specs.Links.{places}
use Rattle.lmn_base.specs.Lists.{In}

-- something may be placed in the membrane m, and nothing waits
pub record CanBeFilled (s : Heap) (m : ℕ) : Type 0 where
  pub sound : Sound s
  pub no_atoms : s.new_atoms ≡ []
  pub no_mems : s.new_mems ≡ []
  pub there : IsMemInPlace s m

-- an atom more in the membrane m, and a membrane more
abbrev pub with_atom : Heap → ℕ → ℕ → Functor → Heap
with_atom s m a f = placed (made_atom s a f) m a

abbrev pub with_mem : Heap → ℕ → ℕ → Heap
with_mem s m n = placed_mem (made_mem s n) m n

-- the ports of an atom from one on, each with its link
abbrev pub ports_with_links : {A : Type 0} → A → ℕ → List Occ → List ((A × ℕ) × ℕ)
ports_with_links a i [] = []
ports_with_links a i (o ∷ os) = ((a, i), o.link) ∷ ports_with_links a (i + 1) os

-- ports whose atoms are named by their numbers
abbrev pub by_id : {A : Type 0} → (A → ℕ) → List ((A × ℕ) × ℕ) → List (Port × ℕ)
by_id id es = map (λ e. ((id e.0.0, e.0.1), e.1)) es

-- the links of leaves that are no connectors
abbrev pub atom_leaf_links : Leaf → List ℕ
atom_leaf_links (Atom functor os pos) = if is_connector functor then [] else map (λ o. o.link) os
atom_leaf_links (Typed name o pos) = []

abbrev pub atom_links : List Leaf → List ℕ
atom_links ls = flat_map atom_leaf_links ls

-- each port is named by the image of its link
abbrev pub Named : (ℕ → ℕ → ℕ) → (ℕ → ℕ) → List (Port × ℕ) → Type 0
Named name v [] = Unit {0}
Named name v (e ∷ es) = (name e.0.0 e.0.1 ≡ v e.1) × Named name v es

-- an atom of the number a that stands in a list, is no connector, has these ports and no mark
pub record IsMadeAtom (o : Option HeapAtom) (a : ℕ) (ps : List (Port × ℕ)) : Type 0 where
  pub in_place : IsSome (option_and_then (λ x. home_by x.place) o)
  pub no_connector : option_map (λ x. x.functor) o ≢ Some connector
  pub ports : (i : ℕ) → i < length (partners_of o) → IsOneOf {A = Port} (a, i) (ports ps)
  pub unmarked : (i : ℕ) → slice_index_or (marks_of o) i 0 ≡ 0

-- an atom has a port, which has no partner
abbrev pub IsFreePort : Option HeapAtom → ℕ → Type 0
IsFreePort o i = IsSome o × (i < length (partners_of o)) × (slice_index_or (partners_of o) i None ≡ None)

-- In t the membrane m of s has the atoms of these leaves, these membranes and these rules at the ends of its lists. All
-- else is as in s. The new ports are these, each with its link, and none has a partner.
pub record AddsToMembrane (s t : Heap) (m : ℕ) (leaves : List Leaf) (inner : List Level) (rules : List ℕ) (ps : List (Port × ℕ)) : Type 0 where
  pub ready : CanBeFilled t m
  pub root : t.root ≡ s.root
  pub place : mem_place_of t m ≡ mem_place_of s m
  pub atoms : List ℕ
  pub mems : List ℕ
  pub forest : Forest
  pub atoms_are : atoms_in t m ≡ atoms_in s m ++ atoms
  pub mems_are : mems_in t m ≡ mems_in s m ++ mems
  pub rules_are : rules_in t m ≡ rules_in s m ++ rules
  pub forms : Forms t forest mems
  pub here : (v : ℕ → ℕ) (name : ℕ → ℕ → ℕ) → Named name v ps → solid_atoms_at t name atoms ≡ flat_map (fused_leaf v) leaves
  pub below : (v : ℕ → ℕ) (name : ℕ → ℕ → ℕ) → Named name v ps → regions_of t name forest ≡ map (fused_region v) inner
  pub links : (v : ℕ → ℕ) (z : ℕ) → places z (map v (links ps)) ≡ places z (map v (atom_links leaves)) + places z (map v (atom_links (flat_map leaves_of inner)))
  pub once : NoneTwice (ports ps)
  pub made : (p : Port) → IsOneOf p (ports ps) → (s.atoms p.0 ≡ None) × IsFreePort (t.atoms p.0) p.1
  pub atoms_kept : (a : ℕ) → IsAtom s a → t.atoms a ≡ s.atoms a
  pub mems_kept : (k : ℕ) → IsMem s k → k ≢ m → t.mems k ≡ s.mems k
  pub new_atoms : (a : ℕ) → IsAtom t a → IsAtom s a ⊎ IsMadeAtom (t.atoms a) a ps
  pub new_mems : (k : ℕ) → IsMem t k → IsMem s k ⊎ In k (flat forest)
  pub new : (k : ℕ) → In k (flat forest) → (s.mems k ≡ None) × IsPlacedMem t k

-- the same, where the ports go to the end of a list of ports
pub record Fills {A : Type 0} (id : A → ℕ) (s t : Heap) (m : ℕ) (leaves : List Leaf) (inner : List Level) (rules : List ℕ) (old new : List ((A × ℕ) × ℕ)) : Type 0 where
  pub more : List ((A × ℕ) × ℕ)
  pub are : new ≡ old ++ more
  pub adds : AddsToMembrane s t m leaves inner rules (by_id id more)

-- an atom with this functor and these links is added to the membrane m, its ports at the end of a list
pub record AtomIsAdded {A : Type 0} (id : A → ℕ) (s t : Heap) (m : ℕ) (f : Functor) (os : List Occ) (old new : List ((A × ℕ) × ℕ)) : Type 0 where
  pub atom : A
  pub fresh : s.atoms (id atom) ≡ None
  pub heap : t ≡ with_atom s m (id atom) f
  pub ports : new ≡ old ++ ports_with_links atom 0 os
