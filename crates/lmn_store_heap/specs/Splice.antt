-- Ports that are joined anew, by partners as they stand.
use Rattle.std.specs.Prelude.{ℕ, ◌<◌, ◌==◌, ◌&&◌, Option, Some, None, if◌then◌else◌}
use Rattle.lmn_store_heap.specs.Heap.{Heap, IsAtom, arity_of, link_of, joined}

-- the atom a has a port i
abbrev pub IsPort : Heap → ℕ → ℕ → Type 0
IsPort s a i = IsAtom s a × (i < arity_of s a)

-- a port is joined to another, if there is one
abbrev pub joined_to : Heap → ℕ → ℕ → Option (ℕ × ℕ) → Heap
joined_to s a i None = s
joined_to s a i (Some c) = joined s a i c.0 c.1

-- the new port (a, i) takes the place of (b, j)
abbrev pub relinked : Heap → ℕ → ℕ → ℕ → ℕ → Heap
relinked s a i b j = joined_to s a i (link_of s b j)

-- two ports are joined, if there are both and the first isn't (b, j)
abbrev pub joined_both : Heap → ℕ → ℕ → Option (ℕ × ℕ) → Option (ℕ × ℕ) → Heap
joined_both s b j None d = s
joined_both s b j (Some c) None = s
joined_both s b j (Some c) (Some d) = if (c.0 == b) && (c.1 == j) then s else joined s c.0 c.1 d.0 d.1

-- the partners of (a, i) and (b, j) are joined; if the two are partners of each other, nothing happens
abbrev pub unified : Heap → ℕ → ℕ → ℕ → ℕ → Heap
unified s a i b j = joined_both s b j (link_of s a i) (link_of s b j)
