-- Lists of numbers that are linked both ways through a table of nodes.
use Rattle.std.specs.Prelude.{◌≡◌, ℕ, ◌<◌, List, [], ◌∷◌, length, map, Option, Some, None, slice_index_or, slice_set, zero, suc}
pub use Rattle.lmn_store_heap.specs.Lists.{Distinct}
use Rattle.lmn_store_slab.specs.declared.node.Node.{Node}
use Rattle.lmn_store_slab.specs.declared.node.Ends.{Ends}
use Rattle.lmn_base.specs.Lists.{In}
use Rattle.std.specs.List.{AllByRecursion}

abbrev pub free_node : Node
free_node = record { prev = None; next = None; home = None }

abbrev pub no_ends : Ends
no_ends = record { first = None; last = None }

-- the node of a number
abbrev pub node : List Node → ℕ → Node
node ns i = slice_index_or ns i free_node

abbrev pub with_next : List Node → Option ℕ → Option ℕ → List Node
with_next ns None n = ns
with_next ns (Some q) n = slice_set ns q (record (node ns q) { next = n })

abbrev pub with_prev : List Node → Option ℕ → Option ℕ → List Node
with_prev ns None p = ns
with_prev ns (Some q) p = slice_set ns q (record (node ns q) { prev = p })

abbrev pub with_first : Ends → Option ℕ → Option ℕ → Ends
with_first e None n = record e { first = n }
with_first e (Some q) n = e

abbrev pub with_last : Ends → Option ℕ → Option ℕ → Ends
with_last e None p = record e { last = p }
with_last e (Some q) p = e

-- xs runs from first to last, where before precedes it and end follows it
abbrev pub RunsThrough : (ℕ → Node) → Option ℕ → Option ℕ → List ℕ → Option ℕ → Option ℕ → Type 0
RunsThrough f before first [] last end = (first ≡ end) × (last ≡ before)
RunsThrough f before first (x ∷ xs) last end = (first ≡ Some x) × ((f x).prev ≡ before) × RunsThrough f (Some x) (f x).next xs last end

-- the numbers from one on, as the nodes lead, at most so many
abbrev pub walk : (ℕ → Node) → ℕ → Option ℕ → List ℕ
walk f zero first = []
walk f (suc n) None = []
walk f (suc n) (Some x) = x ∷ walk f n (f x).next

abbrev pub ends_of_list : List Ends → ℕ → Ends
ends_of_list es l = slice_index_or es l no_ends

-- the numbers of a list
abbrev pub numbers_of_list : List Node → Ends → List ℕ
numbers_of_list ns e = walk (node ns) (length ns) e.first

-- xs is the list l, between its ends
pub record Line (ns : List Node) (l : ℕ) (e : Ends) (xs : List ℕ) : Type 0 where
  pub runs : RunsThrough (node ns) None e.first xs e.last None
  pub each : AllByRecursion (λ x. (x < length ns) × ((node ns x).home ≡ Some l)) xs
  pub distinct : Distinct xs

-- each list is linked, and each number that names a list is in it
pub record WellLinked (ns : List Node) (es : List Ends) : Type 0 where
  pub line : (l : ℕ) → l < length es → Line ns l (ends_of_list es l) (numbers_of_list ns (ends_of_list es l))
  pub homes : (x l : ℕ) → (node ns x).home ≡ Some l → (l < length es) × In x (numbers_of_list ns (ends_of_list es l))

-- lists of numbers below a size
pub record HeldLists : Type 0 where
  pub lists : List (List ℕ)
  pub size : ℕ

abbrev pub list_at : HeldLists → ℕ → List ℕ
list_at h l = slice_index_or h.lists l []

abbrev pub view_of : List Node → List Ends → HeldLists
view_of ns es = record { lists = map (numbers_of_list ns) es; size = length ns }

-- the same number of lists and of numbers
pub record SameSize (h h1 : HeldLists) : Type 0 where
  pub lists : length h1.lists ≡ length h.lists
  pub size : h1.size ≡ h.size

-- the number is in no list
abbrev pub IsFree : HeldLists → ℕ → Type 0
IsFree h x = (l : ℕ) → l < length h.lists → In x (list_at h l) → ⊥

-- the length of each list
abbrev pub lengths : List (List ℕ) → List ℕ
lengths [] = []
lengths (xs ∷ lists) = length xs ∷ lengths lists
