-- What the laws ask of heaps, on a small heap with no rules: `{a(X)}, b(X)`.
use Rattle.std.specs.Prelude.{◌≡◌, [], ◌∷◌}
use Rattle.lmn_store_heap.specs.Examples.{across}
use Rattle.lmn_store_heap.specs.Sound.{Forest, bare, mem}
use Rattle.lmn_adequacy.specs.Choice.{paths}
use Rattle.lmn_adequacy_heaps.specs.HeapRegions.{HeapReading}
use Rattle.lmn_adequacy_heaps.specs.Premises.{IsRead}
use Rattle.lmn_adequacy_choices.specs.Turns.{membranes_in_preorder, heap_region, IsReadWith}

-- the membrane 1 alone is in its root
abbrev pub inner : Forest
inner = mem 1 bare bare

-- So with it the heap is read for the table without a rule, and not with the empty forest.
abbrev pub AcrossIsReadWith : Type 0
AcrossIsReadWith = (r : HeapReading) → IsRead across r → IsReadWith across r inner [] × (IsReadWith across r bare [] → ⊥)

-- It has two membranes, and two paths.
abbrev pub AcrossHasTwoPaths : Type 0
AcrossHasTwoPaths = (r : HeapReading) → (membranes_in_preorder across inner ≡ 0 ∷ (1 ∷ [])) × (paths (heap_region across r inner) ≡ [] ∷ ((0 ∷ []) ∷ []))
