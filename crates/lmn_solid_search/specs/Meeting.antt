-- What is asked of a placement whose parts are known. Only private functions' contracts cite these words.
use Rattle.std.specs.Prelude.{List, None}
use Rattle.lmn_base.specs.declared.guard.Cond.{Cond}
use Rattle.lmn_store_heap.specs.Heap.{Heap}
use Rattle.lmn_solid_heads.specs.Guards.{Meaning, HoldsOnHeap}
use Rattle.lmn_solid_search.specs.Placing.{AllLeadOut}
use Rattle.lmn_solid_search.specs.Parting.{first_named}
use Rattle.lmn_solid_search.specs.Holding.{AllHold}
use Rattle.lmn_solid_search.specs.declared.head.TypedItem.{TypedItem}
use Rattle.lmn_solid_search.specs.declared.head.Head.{Head}
use Rattle.lmn_solid_search.specs.declared.placed.Placed.{Placed}
use Rattle.lmn_solid_search.specs.declared.parts.Part.{Part}

-- what the names of typed contexts stand for
abbrev pub named_meaning : List TypedItem → List Part → Meaning
named_meaning typed parts = record { part_of = first_named typed parts; bound_to = λ x. None }

-- links lead out, membranes are as the head says, and the guard holds
abbrev pub Meets : Heap → Head → List Cond → Placed → List Part → Type 0
Meets h head guard p parts = AllLeadOut h head p × AllHold h head p parts × HoldsOnHeap h (named_meaning head.typed parts) guard
