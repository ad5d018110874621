-- Copies of parts.
use Rattle.std.specs.Prelude.{ℕ, ◌≡◌, ◌≢◌, ◌++◌, ◌==◌, List, [], ◌∷◌, Option, Some, None, if◌then◌else◌, length}
use Rattle.std.specs.Option.{option_map}
use Rattle.lmn_base.specs.declared.functor.Functor.{Functor}
use Rattle.lmn_base.specs.Graphs.{Reached, SameGraph}
use Rattle.lmn_store_heap.specs.Heap.{Heap, IsAtom, waiting, Distinct, arity_of, functor_of, link_of, mark_of, place_of, made_atom}
use Rattle.lmn_store_heap.specs.Graphs.{atom_map}
use Rattle.lmn_store_heap.specs.Splice.{joined_to}
use Rattle.lmn_ground_parts.specs.Walks.{is_port, port_range, IsPartInDepth}
use Rattle.lmn_base.specs.Lists.{In}

-- an atom is made with the functor of another
abbrev pub made_as : Heap → ℕ → Option Functor → Heap
made_as s b None = s
made_as s b (Some f) = made_atom s b f

-- Atoms are made with the functors of those of the first list, in its order, as far as the second list gives them numbers.
abbrev pub made_like : Heap → List ℕ → List ℕ → Heap
made_like s [] ys = s
made_like s (x ∷ xs) [] = s
made_like s (x ∷ xs) (y ∷ ys) = made_like (made_as s y (functor_of s x)) xs ys

-- a port of the atom that a map gives
abbrev pub moved : (ℕ → ℕ) → ℕ × ℕ → ℕ × ℕ
moved f p = (f p.0, p.1)

-- The copy of a port is joined to the copy of its partner, but the copy of the root isn't joined.
abbrev pub joined_like : (ℕ → ℕ) → ℕ × ℕ → Heap → ℕ × ℕ → Heap
joined_like f root s p = if is_port p root then s else joined_to s (f p.0) p.1 (option_map (moved f) (link_of s p.0 p.1))

-- the same of each of these ports, one after the other
abbrev pub all_joined : (ℕ → ℕ) → ℕ × ℕ → Heap → List (ℕ × ℕ) → Heap
all_joined f root s [] = s
all_joined f root s (p ∷ ps) = all_joined f root (joined_like f root s p) ps

-- the ports of these atoms, in order
abbrev pub ports_of : Heap → List ℕ → List (ℕ × ℕ)
ports_of s [] = []
ports_of s (a ∷ xs) = port_range a 0 (arity_of s a) ++ ports_of s xs

-- The atom of ys that stands where a stands in xs.
abbrev pub answer : List ℕ → List ℕ → ℕ → ℕ
answer [] ys a = 0
answer (x ∷ xs) [] a = 0
answer (x ∷ xs) (y ∷ ys) a = if x == a then y else answer xs ys a

-- The atoms ys are made as copies of the atoms xs, and then joined as these.
abbrev pub copied : Heap → ℕ × ℕ → List ℕ → List ℕ → Heap
copied s root xs ys = all_joined (answer xs ys) root (made_like s xs ys) (ports_of (made_like s xs ys) xs)

-- different numbers that name no atom
abbrev pub AreNew : Heap → List ℕ → Type 0
AreNew s ys = Distinct ys × ((y : ℕ) → In y ys → s.atoms y ≡ None)

-- the partner of the root, if it has one, is at no atom of the part
abbrev pub LeadsOut : Heap → ℕ × ℕ → Type 0
LeadsOut s root = (b j : ℕ) → Reached (atom_map s) root b → link_of s root.0 root.1 ≢ Some (b, j)

-- the numbers name atoms
abbrev pub AllAtoms : Heap → List ℕ → Type 0
AllAtoms s xs = (x : ℕ) → In x xs → IsAtom s x

-- The atoms ys are new. They wait, last in the line, their marks are 0, and they are joined to each other alone.
-- Everything else is as it was.
pub record Beside (before after : Heap) (ys : List ℕ) : Type 0 where
  pub fresh : AreNew before ys
  pub line : after.new_atoms ≡ before.new_atoms ++ ys
  pub places : (y : ℕ) → In y ys → place_of after y ≡ Some waiting
  pub marks : (y i : ℕ) → In y ys → mark_of after y i ≡ 0
  pub alone : (y i b j : ℕ) → In y ys → link_of after y i ≡ Some (b, j) → In b ys
  pub kept : (a : ℕ) → (In a ys → ⊥) → after.atoms a ≡ before.atoms a
  pub root : after.root ≡ before.root
  pub mems : after.mems ≡ before.mems
  pub new_mems : after.new_mems ≡ before.new_mems

-- A part is copied: the atoms of the copy are made in the order in which the part's are found, and joined as these.
-- The copy's root has no partner.
--   long, answers   each atom of the part has its copy, which stands where the atom stands
pub record Copied (before after : Heap) (root new_root : ℕ × ℕ) : Type 0 where
  pub atoms : List ℕ
  pub copies : List ℕ
  pub part : IsPartInDepth before root atoms
  pub is : after ≡ copied before root atoms copies
  pub beside : Beside before after copies
  pub same : SameGraph (atom_map before) root (atom_map after) new_root
  pub long : length copies ≡ length atoms
  pub answers : (a : ℕ) → same.to a ≡ answer atoms copies a
  pub in_order : IsPartInDepth after new_root copies
  pub free : link_of after new_root.0 new_root.1 ≡ None
