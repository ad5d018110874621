-- Graphs are what heaps are, and codes do on them what they do on heaps.
use Rattle.std.specs.Prelude.{ℕ, ◌≡◌, ◌<◌, ◌+◌, ◌↔◌, List, ◌++◌, length}
use Rattle.lmn_base.specs.declared.solid.Solid.{Solid}
use Rattle.lmn_base.specs.Lists.{In}
use Rattle.lmn_base.specs.Solids.{item_count}
use Rattle.lmn_store_heap.specs.Heap.{Heap, IsInPlace, Unmarked}
use Rattle.lmn_store_heap.specs.Solid.{HasSolid}
use Rattle.lmn_store_heap.specs.Sound.{Forest, IsTree, Valid, flat, item_count_in}
use Rattle.lmn_solid_heads.specs.declared.items.HeadItem.{HeadItem}
use Rattle.lmn_solid_heads.specs.Heads.{atoms_of}
use Rattle.lmn_instr_code.specs.declared.instr.Code.{Code}
use Rattle.lmn_instr_code.specs.declared.instr.Instr.{Instr}
use Rattle.lmn_instr_code.specs.Running as heap
use Rattle.lmn_instr_code.specs.Running.{HeadRegisters}
use Rattle.lmn_solid_bodies.specs.declared.items.BodyItem.{BodyItem}
use Rattle.lmn_solid_bodies.specs.Fired.{images_of}
use Rattle.lmn_solid_bodies.specs.Rules.{PartAtoms}
use Rattle.lmn_solid_bodies.specs.Running.{Registers}
use Rattle.lmn_solid_bodies.specs.Within.{FiresFlat}
use Rattle.lmn_verify_solids.specs.Firing.{Fires}
use Rattle.lmn_verify_solids.specs.Flats.{HasEachTie, IsFlatCode}
use Rattle.lmn_verify_solids.specs.Graphs.{Graph, IsGraphOf}
use Rattle.lmn_verify_solids.specs.Heads.{IsFirstSuccess, Succeeds}
use Rattle.lmn_verify_solids.specs.Heaps.{graph_of}

-- The graph of a valid heap is one of each solid that it has;
abbrev pub HeapsAreGraphs : Type 0
HeapsAreGraphs = (h : Heap) (S : Solid) → Valid h → HasSolid h S → IsGraphOf (graph_of h) S

-- its membranes in preorder are those of the heap's tree;
abbrev pub OnePreorder : Type 0
OnePreorder = (h : Heap) (S : Solid) (is : IsGraphOf (graph_of h) S) (f : Forest) → IsTree h f → is.all ≡ flat f

-- and the heap has as many items as the solid, and its root.
abbrev pub ItemsAreOne : Type 0
ItemsAreOne = (h : Heap) (S : Solid) (f : Forest) → Valid h → HasSolid h S → IsTree h f → item_count_in h (flat f) ≡ 1 + item_count S

-- A heap between commits that has the solid, and the graph.
pub record HasHeap (g : Graph) (S : Solid) : Type 0 where
  pub heap : Heap
  pub is : graph_of heap ≡ g
  pub valid : Valid heap
  pub unmarked : Unmarked heap
  pub solid : HasSolid heap S

-- Each graph of a solid is that of such a heap.
abbrev pub GraphsHaveHeaps : Type 0
GraphsHaveHeaps = (g : Graph) (S : Solid) → IsGraphOf g S → HasHeap g S

-- Head code succeeds on a heap where it does on its graph, and first with the same registers.
abbrev pub HeadsAreAlike : Type 0
HeadsAreAlike = (h : Heap) (code : List Instr) (m : ℕ) (r : HeadRegisters) →
    (heap.Succeeds h code m r ↔ Succeeds (graph_of h) code m r) × (heap.IsFirstSuccess h code m r ↔ IsFirstSuccess (graph_of h) code m r)

-- Where a flat rule fires from heap to heap, its code is committed from graph to graph.
abbrev pub FlatRulesFire : Type 0
FlatRulesFire = (head : List HeadItem) (body : List BodyItem) (code : Code) → IsFlatCode head body code → (h t : Heap) → Valid h → Valid t → (r : Registers) →
    ((k : ℕ) → k < length (atoms_of head) → IsInPlace h (r.head.images.atom k)) → (f : FiresFlat head body r h t) →
    Fires code (graph_of h) r (images_of r head ++ f.parts) (graph_of t)

-- The other way, where the code ties each end of a link and drops nothing else.
abbrev pub CommitsAreFirings : Type 0
CommitsAreFirings = (head : List HeadItem) (body : List BodyItem) (code : Code) → IsFlatCode head body code → HasEachTie head body code → (h t : Heap) → Valid h → Valid t →
    (r : Registers) (parts : List ℕ) → PartAtoms h head r.head.images parts → Fires code (graph_of h) r (images_of r head ++ parts) (graph_of t) → FiresFlat head body r h t

-- Which list of the atoms that the head takes it is doesn't matter.
abbrev pub TakenByMembers : Type 0
TakenByMembers = (g : Graph) (S : Solid) → IsGraphOf g S → (code : Code) (r : Registers) (xs ys : List ℕ) (g' : Graph) → ((a : ℕ) → In a xs ↔ In a ys) →
    Fires code g r xs g' → Fires code g r ys g'
