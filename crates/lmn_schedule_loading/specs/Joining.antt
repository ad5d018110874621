-- Links that connectors join, and what is held while ports are joined. No public contract cites a word of this.
use Rattle.std.specs.Prelude.{ℕ, ◌≡◌, ◌≢◌, ◌==◌, List, [], ◌∷◌, flat_map, slice_index_or, if◌then◌else◌, Option, Some, None, IsSome}
use Rattle.std.specs.Option.{option_map}
use Rattle.lmn_store_heap.specs.Heap.{Heap, functor_of, arity_of, place_of, mark_of, link_of, joined, port_id}
use Rattle.lmn_store_heap.specs.Splice.{IsPort}
use Rattle.lmn_congruence_splice.specs.Splice.{IsOneOf, NoneTwice, ports}
use Rattle.lmn_base.specs.declared.level.Leaf.{Leaf}
use Rattle.lmn_base.specs.declared.level.Leaf.TheVariants.{Atom, Typed}
use Rattle.lmn_base.specs.declared.level.Occ.{Occ}
use Rattle.lmn_base.specs.Graphs.{Port}
use Rattle.lmn_base.specs.Solids.{is_connector}

-- the two links of a connector
abbrev pub pair_of : List Occ → List (ℕ × ℕ)
pair_of [] = []
pair_of (a ∷ []) = []
pair_of (a ∷ b ∷ os) = (a.link, b.link) ∷ []

abbrev pub leaf_pairs : Leaf → List (ℕ × ℕ)
leaf_pairs (Atom functor os pos) = if is_connector functor then pair_of os else []
leaf_pairs (Typed name o pos) = []

-- the connectors of leaves, each by its two links
abbrev pub connectors_of_leaves : List Leaf → List (ℕ × ℕ)
connectors_of_leaves ls = flat_map leaf_pairs ls

-- the port that a table holds for a class
abbrev pub held_at : {A : Type 0} → (A → ℕ) → List (Option (A × ℕ)) → ℕ → Option Port
held_at id table z = option_map (port_id id) (slice_index_or table z None)

-- a port meets the one that is held for its class, or is held from then on
abbrev pub flipped : Option Port → Port → Option Port
flipped None p = Some p
flipped (Some q) p = None

abbrev pub held_after : (ℕ → Option Port) → ℕ → Port → ℕ → Option Port
held_after held z p y = if y == z then flipped (held z) p else held y

abbrev pub met : Heap → Option Port → Port → Heap
met s None p = s
met s (Some q) p = joined s q.0 q.1 p.0 p.1

abbrev pub MayMeet : Heap → Option Port → Port → Type 0
MayMeet s None p = Unit {0}
MayMeet s (Some q) p = IsPort s q.0 q.1 × IsPort s p.0 p.1 × (q ≢ p)

-- no port has a partner; these ports are there, and each is named once
pub record AreFree (s : Heap) (ps : List (Port × ℕ)) : Type 0 where
  pub once : NoneTwice (ports ps)
  pub there : (p : Port) → IsOneOf p (ports ps) → IsPort s p.0 p.1
  pub no_partner : (a i : ℕ) → link_of s a i ≡ None

-- all is as it was, but for partners
pub record SameButPartners (s t : Heap) : Type 0 where
  pub functors : (a : ℕ) → functor_of t a ≡ functor_of s a
  pub arities : (a : ℕ) → arity_of t a ≡ arity_of s a
  pub places : (a : ℕ) → place_of t a ≡ place_of s a
  pub marks : (a i : ℕ) → mark_of t a i ≡ mark_of s a i
  pub mems : t.mems ≡ s.mems
  pub root : t.root ≡ s.root

-- two ports whose links are of one class by m
pub record OneClass (m : ℕ → ℕ) (ps : List (Port × ℕ)) (p q : Port) : Type 0 where
  pub first : ℕ
  pub second : ℕ
  pub at_first : IsOneOf {A = Port × ℕ} (p, first) ps
  pub at_second : IsOneOf {A = Port × ℕ} (q, second) ps
  pub same : m first ≡ m second

-- each of the ports has a partner, and partners are of one class
pub record AreJoined (m : ℕ → ℕ) (ps : List (Port × ℕ)) (s t : Heap) : Type 0 where
  pub items : SameButPartners s t
  pub all : (p : Port) → IsOneOf p (ports ps) → IsSome (link_of t p.0 p.1)
  pub one_class : (p q : Port) → link_of t p.0 p.1 ≡ Some q → OneClass m ps p q
