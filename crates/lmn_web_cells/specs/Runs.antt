-- Cells that are linked both ways, one behind the other.
use Rattle.std.specs.Prelude.{◌≡◌, ◌≢◌, ◌<◌, ℕ, ◌==◌, ◌+◌, List, [], ◌∷◌, Option, Some, None, IsSome, if◌then◌else◌, slice_index_or}
use Rattle.std.specs.Option.{option_map}
use Rattle.std.specs.List.{AllByRecursion}
use Rattle.lmn_base.specs.Lists.{In}
use Rattle.lmn_store_heap.specs.Lists.{Distinct}
use Rattle.lmn_web_cells.specs.Links.{HOME, NEXT, PREV}
use Rattle.lmn_web_cells.specs.Cells.{HeldCell, links_of, with_link}
use Rattle.lmn_store_heap.specs.Heap.{alter}

-- the neighbours of a cell in its list
pub record Node : Type 0 where
  pub prev : Option ℕ
  pub next : Option ℕ

-- xs runs from first to last, where before precedes it and end follows it
abbrev pub RunsThrough : (ℕ → Node) → Option ℕ → Option ℕ → List ℕ → Option ℕ → Option ℕ → Type 0
RunsThrough f before first [] last end = (first ≡ end) × (last ≡ before)
RunsThrough f before first (x ∷ xs) last end = (first ≡ Some x) × ((f x).prev ≡ before) × RunsThrough f (Some x) (f x).next xs last end

-- a link of a cell
abbrev pub link_in : (ℕ → Option HeldCell) → ℕ → ℕ → Option ℕ
link_in f a k = slice_index_or (links_of (f a)) k None

abbrev pub node_in : (ℕ → Option HeldCell) → ℕ → Node
node_in f a = record { prev = link_in f a PREV; next = link_in f a NEXT }

-- m is there, and a list of it can have its two ends at the links e and e + 1
pub record IsHome (f : ℕ → Option HeldCell) (m e : ℕ) : Type 0 where
  pub there : IsSome (f m)
  pub behind : PREV < e
  pub below : e + 1 < 7

-- xs is the list that begins at the link e of m and ends at the next one
pub record Line (f : ℕ → Option HeldCell) (m e : ℕ) (xs : List ℕ) : Type 0 where
  pub runs : RunsThrough (node_in f) None (link_in f m e) xs (link_in f m (e + 1)) None
  pub cells : AllByRecursion (λ x. IsSome (f x) × (x ≢ m) × (link_in f x HOME ≡ Some m)) xs
  pub once : Distinct xs

-- two lists have no end and no cell in common, and the ends of the second are no neighbours
pub record Apart (m e : ℕ) (xs : List ℕ) (n k : ℕ) (ys : List ℕ) : Type 0 where
  pub behind : PREV < k
  pub ends : n ≡ m → (k ≢ e) × (k ≢ e + 1) × (k + 1 ≢ e)
  pub cells : (z : ℕ) → In z ys → In z xs → ⊥

-- what follows a cell, or begins the list, is another
abbrev pub with_next : (ℕ → Option HeldCell) → ℕ → ℕ → Option ℕ → Option ℕ → ℕ → Option HeldCell
with_next f m e None n = alter f m (option_map (with_link e n))
with_next f m e (Some q) n = alter f q (option_map (with_link NEXT n))

-- what precedes a cell, or ends the list
abbrev pub with_prev : (ℕ → Option HeldCell) → ℕ → ℕ → Option ℕ → Option ℕ → ℕ → Option HeldCell
with_prev f m e None p = alter f m (option_map (with_link (e + 1) p))
with_prev f m e (Some q) p = alter f q (option_map (with_link PREV p))

-- a cell is out of the list at m and e
abbrev pub unlinked : (ℕ → Option HeldCell) → ℕ → ℕ → ℕ → ℕ → Option HeldCell
unlinked f m e x = let p = link_in f x PREV in let n = link_in f x NEXT in alter (with_prev (with_next f m e p n) m e n p) x (option_map (with_link HOME None))

-- a cell stands at the end of the list at m and e
abbrev pub appended : (ℕ → Option HeldCell) → ℕ → ℕ → ℕ → ℕ → Option HeldCell
appended f m e x = let p = link_in f m (e + 1) in
    alter (with_next (alter (alter (alter f x (option_map (with_link HOME (Some m)))) x (option_map (with_link PREV p))) x (option_map (with_link NEXT None))) m e p (Some x)) m (option_map (with_link (e + 1) (Some x)))

-- xs with x directly before the first a
abbrev pub put_before : ℕ → ℕ → List ℕ → List ℕ
put_before x a [] = []
put_before x a (y ∷ ys) = if y == a then x ∷ y ∷ ys else y ∷ put_before x a ys

-- a cell stands directly before a in the list at m and e
abbrev pub inserted : (ℕ → Option HeldCell) → ℕ → ℕ → ℕ → ℕ → ℕ → Option HeldCell
inserted f m e a x = let p = link_in f a PREV in
    alter (with_next (alter (alter (alter f x (option_map (with_link HOME (Some m)))) x (option_map (with_link PREV p))) x (option_map (with_link NEXT (Some a)))) m e p (Some x)) a (option_map (with_link PREV (Some x)))
