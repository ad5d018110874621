-- Numbers of the links of a heap, by ports.
use Rattle.std.specs.Prelude.{ℕ, ◌<◌}
use Rattle.lmn_store_heap.specs.Heap.{Heap, IsInPlace, arity_of}
use Rattle.lmn_congruence_splice.specs.Ports.{Coloured}
use Rattle.lmn_solid_bodies.specs.Tied.{partners}
use Rattle.lmn_base.specs.Graphs.{Port}

-- a port of an atom in place
abbrev pub StandsPort : Heap → Port → Type 0
StandsPort h p = IsInPlace h p.0 × (p.1 < arity_of h p.0)

-- each port of an atom in place has a partner there, and two such ports have one number exactly where they are
-- partners: so a number names a link
abbrev pub Names : Heap → (Port → ℕ) → Type 0
Names h c = Coloured c (StandsPort h) (partners h)
