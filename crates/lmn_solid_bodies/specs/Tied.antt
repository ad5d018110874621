-- The ties of a body on a heap.
use Rattle.std.specs.Prelude.{List, [], ◌∷◌}
use Rattle.lmn_store_heap.specs.Heap.{Heap, link_of, joined}
use Rattle.lmn_store_heap.specs.Splice.{relinked, unified}
use Rattle.lmn_congruence_splice.specs.Ports.{Partners}
use Rattle.lmn_congruence_splice.specs.Ties.{Tie, newlink, relink, unify}
use Rattle.lmn_base.specs.Graphs.{Port}

-- which port each port of a heap is joined to
abbrev pub partners : Heap → Partners
partners h p = link_of h p.0 p.1

abbrev pub tied : Heap → Tie Port → Heap
tied h (newlink p q) = joined h p.0 p.1 q.0 q.1
tied h (relink p o) = relinked h p.0 p.1 o.0 o.1
tied h (unify g o) = unified h g.0 g.1 o.0 o.1

abbrev pub all_tied : Heap → List (Tie Port) → Heap
all_tied h [] = h
all_tied h (t ∷ ts) = all_tied (tied h t) ts
