-- What holds of each leaf of a head holds of each atom of its items.
use Rattle.std.proofs.Common.{ℕ, zero, ◌≡◌, ◌+◌, List, [], ◌∷◌, map, Some, All, refl, subst, arith}
use Rattle.std.specs.Prelude.{slice_get}
use Rattle.lmn_base.specs.declared.level.Leaf.{Leaf}
use Rattle.lmn_base.specs.declared.level.Leaf.TheVariants as leaf
use Rattle.lmn_base.specs.declared.level.Level.{Level}
use Rattle.lmn_base.specs.declared.level.Occ.{Occ}
use Rattle.lmn_base.specs.declared.refusal.Pos.{Pos}
use Rattle.lmn_base.specs.Levels.{leaves_of}
use Rattle.lmn_guards.specs.declared.plan.TypeKind.{TypeKind}
use Rattle.lmn_solid_heads.specs.Flattening.{leaf_items}
use Rattle.lmn_solid_heads.specs.Heads.{HeadAtom, HeadTyped, HeadMembrane, atoms_of, typed_contexts_of}
use Rattle.lmn_solid_heads.proofs.HeadTrees.{Head, Heads, head, no_head, head_and, head_at, size, flat_items, flat_membranes, head_leaves, heads_leaves, same_leaves}
use Rattle.lmn_adequacy_heaps.proofs.Walking.{Walk, walk_join, walk_atom, walk_typed, atoms_in_items, typed_in_items, membranes_in_items}
use Rattle.lmn_base.proofs.Lists.{all_of_left, all_of_right}

-- the atom is a leaf of which P holds
pub record IsLeafWith (P : Leaf → Type 0) (a : HeadAtom) : Type 0 where
  pub occurrences : List Occ
  pub place : Pos
  pub holds : P (leaf.Atom a.functor occurrences place)
  pub links : a.links ≡ map (λ o. o.link) occurrences

-- the typed context is a leaf of which P holds
pub record IsTypedWith (P : Leaf → Type 0) (a : HeadTyped) : Type 0 where
  pub occurrence : Occ
  pub place : Pos
  pub holds : P (leaf.Typed a.name occurrence place)

module _ (P : Leaf → Type 0) (kind : ℕ → TypeKind) where
  abbrev Atoms : ℕ → HeadAtom → Type 0
  Atoms n a = IsLeafWith P a

  abbrev AnyTyped : ℕ → HeadTyped → Type 0
  AnyTyped n a = IsTypedWith P a

  abbrev AnyMembrane : ℕ → HeadMembrane → Type 0
  AnyMembrane n a = Unit {0}

  leaf_walk : (cur n t k : ℕ) (ls : List Leaf) → All P ls → Walk Atoms AnyTyped AnyMembrane n t k (leaf_items kind cur ls)
  leaf_walk cur n t k [] h = tt
  leaf_walk cur n t k (leaf.Atom f os p ∷ ls) h = (record { occurrences = os; place = p; holds = h zero (leaf.Atom f os p) (omega arith); links = refl }, leaf_walk cur (n + 1) t k ls (all_of_right P (leaf.Atom f os p ∷ []) ls h))
  leaf_walk cur n t k (leaf.Typed m o p ∷ ls) h = (record { occurrence = o; place = p; holds = h zero (leaf.Typed m o p) (omega arith) }, leaf_walk cur n (t + 1) k ls (all_of_right P (leaf.Typed m o p ∷ []) ls h))

  mutual
    level_walk : (cur next n t k : ℕ) (hd : Head) → All P (head_leaves hd) → Walk Atoms AnyTyped AnyMembrane n t k (flat_items kind cur next hd)
    level_walk cur next n t k (head leaves hs cs rcs rs) h =
        let first = leaf_items kind cur leaves in
        walk_join Atoms AnyTyped AnyMembrane first (flat_membranes kind cur next hs) n t k (leaf_walk cur n t k leaves (all_of_left P leaves (heads_leaves hs) h))
        (levels_walk cur next (n + atoms_in_items first) (t + typed_in_items first) (k + membranes_in_items first) hs (all_of_right P leaves (heads_leaves hs) h))

    levels_walk : (cur next n t k : ℕ) (hs : Heads) → All P (heads_leaves hs) → Walk Atoms AnyTyped AnyMembrane n t k (flat_membranes kind cur next hs)
    levels_walk cur next n t k no_head h = tt
    levels_walk cur next n t k (head_and hd hs) h =
        let first = flat_items kind next (next + 1) hd in (
          tt,
          walk_join Atoms AnyTyped AnyMembrane first (flat_membranes kind cur (next + 1 + size hd) hs) n t (k + 1) (level_walk next (next + 1) n t (k + 1) hd (all_of_left P (head_leaves hd) (heads_leaves hs) h))
              (levels_walk cur (next + 1 + size hd) (n + atoms_in_items first) (t + typed_in_items first) ((k + 1) + membranes_in_items first) hs (all_of_right P (head_leaves hd) (heads_leaves hs) h)),
        )

  -- what holds of all leaves holds of each atom of the items
  pub leaf_holds : (l : Level) → All P (leaves_of l) → (n : ℕ) (a : HeadAtom) → slice_get (atoms_of (flat_items kind 0 1 (head_at l))) n ≡ Some a → IsLeafWith P a
  leaf_holds l h n a e = walk_atom Atoms AnyTyped AnyMembrane (flat_items kind 0 1 (head_at l)) 0 0 1 (level_walk 0 1 0 0 1 (head_at l) (subst (All P) (same_leaves l) h)) n a e

module _ (P : Leaf → Type 0) (kind : ℕ → TypeKind) where
  -- and of each typed context of the items
  pub typed_holds : (l : Level) → All P (leaves_of l) → (n : ℕ) (a : HeadTyped) → slice_get (typed_contexts_of (flat_items kind 0 1 (head_at l))) n ≡ Some a → IsTypedWith P a
  typed_holds l h n a e = walk_typed (λ n a. IsLeafWith P a) (λ n a. IsTypedWith P a) (λ n a. Unit {0}) (flat_items kind 0 1 (head_at l)) 0 0 1 (level_walk P kind 0 1 0 0 1 (head_at l) (subst (All P) (same_leaves l) h)) n a e
