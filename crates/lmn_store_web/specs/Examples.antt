-- A small web with the posts of a store, and what its heap has.
use Rattle.std.specs.Prelude.{◌≡◌, ◌==◌, ℕ, Bool, false, true, if◌then◌else◌, pos, negsuc, [], ◌∷◌, Option, Some, None}
use Rattle.lmn_base.specs.declared.functor.Label.TheVariants.{Name, Int}
use Rattle.lmn_store_heap.specs.Heap.{Heap, top, alter, made_mem, home_of, mem_place_of, atoms_in}
use Rattle.lmn_store_web_preorder.specs.Nests.{Nest, empty_nest, with_awake, with_key}
use Rattle.lmn_web.specs.declared.kind.CellKind.TheVariants.{Atom, Membrane}
use Rattle.lmn_web.specs.Webs.{WebCell, new_cell, added_last, label_class}
use Rattle.lmn_store_web.specs.Labels.{label_number, label_by}
use Rattle.lmn_store_web.specs.WebHeaps.{Posts, no_rules, heap_by, alone}
use Rattle.lmn_store_web.specs.Indexes.{IsNestOf, IsIndexed}

-- 0 is the root, 1 holds what waits, 2 what is gone
abbrev pub three_posts : Posts
three_posts = record { root = 0; waiting = 1; gone = 2; by_value = false }

-- the posts, an atom 3 in the root, and an atom 4 that waits
abbrev pub posted : ℕ → Option WebCell
posted = added_last (added_last (alter (alter (alter (alter (alter (λ _. None) 0 (λ _. Some (new_cell 0 0 Membrane))) 1 (λ _. Some (new_cell 0 0 Membrane))) 2 (λ _. Some (new_cell 0 0 Membrane))) 3 (λ _. Some (new_cell 7 1 Atom))) 4 (λ _. Some (new_cell 7 1 Atom))) 0 3) 1 4

abbrev pub small_heap : Heap
small_heap = heap_by three_posts (Some no_rules ∷ []) posted

-- an atom in the list of the root stands there
abbrev pub AtomStands : Type 0
AtomStands = (atoms_in small_heap 0 ≡ 3 ∷ []) × (home_of small_heap 3 ≡ Some 0)

-- one in the list of what waits is in the line, and has no home
abbrev pub AtomWaits : Type 0
AtomWaits = (small_heap.new_atoms ≡ 4 ∷ []) × (home_of small_heap 4 ≡ None)

-- what waits stands in no membrane of the heap
abbrev pub PostIsNoMembrane : Type 0
PostIsNoMembrane = small_heap.mems 1 ≡ None

-- what waits isn't alone
abbrev pub WaitingIsNotAlone : Type 0
WaitingIsNotAlone = small_heap ≡ alone 0 → ⊥

-- a root alone is the membrane of its number, and there is no other
abbrev pub RootIsAlone : Type 0
RootIsAlone = (mem_place_of (alone 5) 5 ≡ Some top) × ((alone 5).mems 0 ≡ None)

-- a label has a number, and a number has a label, whether integers are filed by value or not
abbrev pub LabelsAreRead : Type 0
LabelsAreRead = (label_by (label_number true (Name 7)) ≡ Name 7) × (label_by (label_number false (Int (pos 3))) ≡ Int (pos 3)) × (label_by (label_number false (Int (negsuc 2))) ≡ Int (negsuc 2))
    × (label_by (label_number true (Int (pos 3))) ≡ Int (pos 3)) × (label_by (label_number true (Int (negsuc 2))) ≡ Int (negsuc 2))

-- the integer 7 isn't the name 7
abbrev pub IntegerIsNoName : Type 0
IntegerIsNoName = label_by (label_number false (Int (pos 7))) ≡ Name 7 → ⊥

-- filed by value, two integers are of two classes, two multiples of a power of two too
abbrev pub ValuesAreApart : Type 0
ValuesAreApart = (label_class (label_number true (Int (pos 7))) ≡ label_class (label_number true (Int (pos 8))) → ⊥) × (label_class (label_number true (Int (pos 65536))) ≡ label_class (label_number true (Int (pos 131072))) → ⊥)

-- filed otherwise, they are of one
abbrev pub IntegersAreTogether : Type 0
IntegersAreTogether = label_class (label_number false (Int (pos 7))) ≡ label_class (label_number false (Int (pos 8)))

-- a key that is awake, with nothing in it, and two of them
abbrev pub one_key : Nest
one_key = with_key 0 empty_nest

abbrev pub two_keys : Nest
two_keys = with_key 1 one_key

-- a root 5, and a membrane 6 that waits, with the keys 0 and 1
abbrev pub two_mems : Heap
two_mems = made_mem (alone 5) 6

abbrev pub key_of_two : ℕ → ℕ
key_of_two m = if m == 5 then 0 else 1

-- a root alone is one key, whether this is awake or not: its mark alone tells that
abbrev pub RootIsKey : Type 0
RootIsKey = (b : Bool) → IsNestOf (λ _. 0) (alone 5) (with_awake 0 b one_key)

-- a new membrane is a key that is awake, since its mark is 0
abbrev pub KeyIsAwake : Type 0
KeyIsAwake = IsNestOf key_of_two two_mems two_keys

-- and asleep it isn't
abbrev pub SleeperIsNoKey : Type 0
SleeperIsNoKey = IsNestOf key_of_two two_mems (with_awake 1 false two_keys) → ⊥

-- what holds this nest, and a list with the root, index the root alone
abbrev pub RootIsIndexed : Type 0
RootIsIndexed = IsIndexed (λ n. n ≡ with_awake 0 false one_key) (5 ∷ []) (λ _. 0) (alone 5)

-- a list with another membrane doesn't
abbrev pub OtherIsNotIndexed : Type 0
OtherIsNotIndexed = IsIndexed (λ n. n ≡ with_awake 0 false one_key) (6 ∷ []) (λ _. 0) (alone 5) → ⊥
