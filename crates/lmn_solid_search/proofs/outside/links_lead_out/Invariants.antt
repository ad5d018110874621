use Rattle.std.proofs.Common.{◌≡◌, ◌<◌, ◌∷◌, [], ℕ, List, Some, slice_get}
use Rattle.lmn_solid_tables.specs.Flats.{heap_of}
use Rattle.lmn_solid_search.specs.Placing.{LinkLeadsOut}
use Rattle.lmn_solid_search.specs.Walking.{AreBelow}
use Rattle.lmn_solid_search.proofs.outside.links_lead_out.Given as goal

abbrev pub invariant-loop-index : goal.invariant-loop-index
invariant-loop-index l = (outer : ℕ) (membranes : List ℕ) → AreBelow (heap_of l.flat) (outer ∷ []) l.seen membranes → (i x : ℕ) → i < l.index → slice_get l.links i ≡ Some x → LinkLeadsOut (heap_of l.flat) l.head x (l.image, i) outer
