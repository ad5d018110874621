-- Rests: what is left of a membrane when some of its atoms and membranes are set apart.
use Rattle.std.specs.Prelude.{ℕ, ◌≡◌, ◌≤◌, Bool, true, if◌then◌else◌, List, [], ◌∷◌, ◌++◌, Option, Some, None, length, map, slice_get}
use Rattle.std.specs.Option.{option_map}
use Rattle.lmn_store_heap.specs.Heap.{Heap, Distinct, link_of, atoms_in, mems_in, rules_in, spare_of, parent_of, made_mem, reserved, placed, placed_mem, rules_copied, taken_all, taken_mem}
use Rattle.lmn_store_heap.specs.Splice.{joined_to}
use Rattle.lmn_store_heap.specs.Sound.{Forest, flat, Forms}
use Rattle.lmn_ground_parts.specs.Copies.{AreNew, answer, made_like, moved, ports_of}
use Rattle.lmn_base.specs.Lists.{In}

-- the atoms of these membranes, those of the first one first
abbrev pub atoms_of_all : Heap → List ℕ → List ℕ
atoms_of_all s [] = []
atoms_of_all s (m ∷ ms) = atoms_in s m ++ atoms_of_all s ms

-- those of a list of which a test is true
abbrev pub keep : (ℕ → Bool) → List ℕ → List ℕ
keep test [] = []
keep test (x ∷ xs) = if test x then x ∷ keep test xs else keep test xs

-- The rest of the membrane m is the atoms and the membranes of its lists of which a test is true, and all that is in these
-- membranes, at every depth.
--   atoms        those of the membrane itself, and then those of each membrane of the rest
--   membranes    those of the rest in preorder
pub record IsRest (s : Heap) (m : ℕ) (left_atom left_membrane : ℕ → Bool) (atoms membranes : List ℕ) : Type 0 where
  pub forest : Forest
  pub forms : Forms s forest (keep left_membrane (mems_in s m))
  pub preorder : membranes ≡ flat forest
  pub once : Distinct membranes
  pub outside : In m membranes → ⊥
  pub in_order : atoms ≡ keep left_atom (atoms_in s m) ++ atoms_of_all s membranes

-- what stands in a membrane, at every depth
abbrev pub IsContent : Heap → ℕ → List ℕ → List ℕ → Type 0
IsContent s m atoms membranes = IsRest s m (λ _. true) (λ _. true) atoms membranes

-- no link leaves these atoms
abbrev pub NoneLeaves : Heap → List ℕ → Type 0
NoneLeaves s atoms = (a i b j : ℕ) → In a atoms → link_of s a i ≡ Some (b, j) → In b atoms

-- membranes are made, each with room for so many rules
abbrev pub made_roomy : Heap → List (ℕ × ℕ) → Heap
made_roomy s [] = s
made_roomy s (e ∷ es) = made_roomy (reserved (made_mem s e.0) e.0 e.1) es

-- the copy of a port is joined to the copy of its partner
abbrev pub joined_as : (ℕ → ℕ) → Heap → ℕ × ℕ → Heap
joined_as f s p = joined_to s (f p.0) p.1 (option_map (moved f) (link_of s p.0 p.1))

-- the same of each of these ports, one after the other
abbrev pub all_joined_as : (ℕ → ℕ) → Heap → List (ℕ × ℕ) → Heap
all_joined_as f s [] = s
all_joined_as f s (p ∷ ps) = all_joined_as f (joined_as f s p) ps

-- The atoms ys are made as copies of the atoms xs, and then joined as these.
abbrev pub joined_copies : Heap → List ℕ → List ℕ → Heap
joined_copies s xs ys = all_joined_as (answer xs ys) (made_like s xs ys) (ports_of (made_like s xs ys) xs)

-- The membranes in `rooms` are made, and then copies of atoms.
abbrev pub rest_copied : Heap → List ℕ → List (ℕ × ℕ) → List ℕ → Heap
rest_copied s xs rooms ys = joined_copies (made_roomy s rooms) xs ys

-- membranes with rooms for as many rules as these membranes have
abbrev pub AreRoomsFor : Heap → List ℕ → List (ℕ × ℕ) → Type 0
AreRoomsFor s [] rooms = rooms ≡ []
AreRoomsFor s (m ∷ ms) [] = ⊥
AreRoomsFor s (m ∷ ms) (e ∷ es) = (length (rules_in s m) ≤ e.1) × AreRoomsFor s ms es

-- different numbers that name no membrane
abbrev pub AreNewMembranes : Heap → List ℕ → Type 0
AreNewMembranes s ns = Distinct ns × ((n : ℕ) → In n ns → s.mems n ≡ None)

-- A rest is copied: for each of its atoms and membranes one is made, in their order, which waits, last in the line. The
-- atoms have the functors of those of the rest and are joined as these. Each membrane has room for the rules of its original.
--   atoms, membranes    the rest
--   copies, rooms       the copies of its atoms; those of its membranes, each with its room
pub record RestCopied (before after : Heap) (atoms membranes : List ℕ) (copies : List ℕ) (rooms : List (ℕ × ℕ)) : Type 0 where
  pub new_atoms : AreNew before copies
  pub new_membranes : AreNewMembranes before (map (λ e. e.0) rooms)
  pub long : length copies ≡ length atoms
  pub roomy : AreRoomsFor before membranes rooms
  pub is : after ≡ rest_copied before atoms rooms copies

-- Some atoms and membranes were made as copies of these, and not joined.
pub record RestRemains (before after : Heap) (atoms : List ℕ) : Type 0 where
  pub copies : List ℕ
  pub rooms : List (ℕ × ℕ)
  pub new_atoms : AreNew before copies
  pub new_membranes : AreNewMembranes before (map (λ e. e.0) rooms)
  pub is : after ≡ made_like (made_roomy before rooms) atoms copies

-- the copies of these atoms go to a membrane
abbrev pub atoms_placed : (ℕ → ℕ) → Heap → ℕ → List ℕ → Heap
atoms_placed copy s n [] = s
atoms_placed copy s n (a ∷ as') = atoms_placed copy (placed s n (copy a)) n as'

-- the membrane in which the copy of a membrane is to stand: that of the membrane round it
abbrev pub copy_round : (ℕ → ℕ) → Option ℕ → ℕ
copy_round copy None = 0
copy_round copy (Some m) = copy m

-- The copy of a membrane goes to the copy of the membrane round it, and gets its rules and the copies of its atoms.
abbrev pub membrane_placed : (ℕ → ℕ) → (ℕ → ℕ) → Heap → ℕ → Heap
membrane_placed copy_mem copy s m =
    let n = copy_mem m in
    atoms_placed copy (rules_copied (placed_mem s (copy_round copy_mem (parent_of s m)) n) m n) n (atoms_in s m)

-- the same of each of these membranes, one after the other
abbrev pub membranes_placed : (ℕ → ℕ) → (ℕ → ℕ) → Heap → List ℕ → Heap
membranes_placed copy_mem copy s [] = s
membranes_placed copy_mem copy s (m ∷ ms) = membranes_placed copy_mem copy (membrane_placed copy_mem copy s m) ms

-- The copies of all that stands in the membrane m go to the membrane n: those of its own atoms, and then those of the
-- membranes in it, in preorder. `membranes` are these, `copies` and `new_membranes` are the copies of atoms and membranes.
abbrev pub rest_placed : Heap → ℕ → ℕ → List ℕ → List ℕ → List ℕ → List ℕ → Heap
rest_placed s m n atoms membranes copies new_membranes =
    membranes_placed (answer (m ∷ membranes) (n ∷ new_membranes)) (answer atoms copies)
    (atoms_placed (answer atoms copies) s n (atoms_in s m)) membranes

-- these membranes are taken, one after the other
abbrev pub all_mems_taken : Heap → List ℕ → Heap
all_mems_taken s [] = s
all_mems_taken s (m ∷ ms) = all_mems_taken (taken_mem s m) ms

-- all of a rest is taken
abbrev pub rest_taken : Heap → List ℕ → List ℕ → Heap
rest_taken s atoms membranes = all_mems_taken (taken_all s atoms) membranes

-- The copy of all that stands in the membrane m waits, first in both lines, and may go to the membrane n: each membrane of the
-- copy has room for the rules of its original.
--   atoms, membranes          what stands in m
--   copies, new_membranes     their copies, in their order
pub record CopyWaits (s : Heap) (m n : ℕ) (atoms membranes copies new_membranes : List ℕ) : Type 0 where
  pub content : IsContent s m atoms membranes
  pub outside : In n (m ∷ membranes) → ⊥
  pub long : length copies ≡ length atoms
  pub line : (behind : List ℕ) × (s.new_atoms ≡ copies ++ behind)
  pub long_membranes : length new_membranes ≡ length membranes
  pub line_of_membranes : (behind : List ℕ) × (s.new_mems ≡ new_membranes ++ behind)
  pub roomy : (k : ℕ) (x y : ℕ) → slice_get membranes k ≡ Some x → slice_get new_membranes k ≡ Some y → length (rules_in s x) ≤ spare_of s y
