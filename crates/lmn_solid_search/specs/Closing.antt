-- The rest of a membrane, and whether it is closed. Only private functions' contracts cite these words.
use Rattle.std.specs.Prelude.{ℕ, ◌≡◌, ◌↔◌, ◌⊎◌, List, Option, Some}
use Rattle.lmn_base.specs.Lists.{In}
use Rattle.lmn_base.specs.Graphs.{Port}
use Rattle.lmn_store_heap.specs.Heap.{Heap, atoms_in, mems_in, link_of}
use Rattle.lmn_solid_heads.specs.Embeddings.{StandsWithin}
use Rattle.lmn_solid_search.specs.Walking.{IsMarked}

-- An atom is one of the rest of a membrane: it stands there and isn't marked, or it stands in a membrane there that isn't one of these.
abbrev pub IsRestAt : Heap → ℕ → List ℕ → List (Option ℕ) → ℕ → Type 0
IsRestAt h m membranes mine b = (In b (atoms_in h m) × (IsMarked mine b → ⊥)) ⊎ ((c : ℕ) × In c (mems_in h m) × (In c membranes → ⊥) × StandsWithin h b c)

-- these are the atoms of it
abbrev pub AreRest : Heap → ℕ → List ℕ → List (Option ℕ) → List ℕ → Type 0
AreRest h m membranes mine xs = (b : ℕ) → In b xs ↔ IsRestAt h m membranes mine b

-- each port of an atom is joined to an atom that is marked
abbrev pub PortsStay : Heap → List (Option ℕ) → ℕ → Type 0
PortsStay h within a = (i : ℕ) (p : Port) → link_of h a i ≡ Some p → IsMarked within p.0

-- no link leaves the rest
abbrev pub IsClosedAt : Heap → ℕ → List ℕ → List (Option ℕ) → Type 0
IsClosedAt h m membranes mine = (b i : ℕ) (p : Port) → IsRestAt h m membranes mine b → link_of h b i ≡ Some p → IsRestAt h m membranes mine p.0
