-- Firings of one flat rule on heaps of which the atoms and membranes have other numbers.
use Rattle.std.specs.Prelude.{ℕ, ◌≡◌, ◌<◌, ◌+◌, List, length}
use Rattle.lmn_store_heap.specs.Heap.{Heap, IsMemInPlace, Unmarked}
use Rattle.lmn_store_heap.specs.Sound.{Valid}
use Rattle.lmn_solid_heads.specs.declared.items.HeadItem.{HeadItem}
use Rattle.lmn_solid_heads.specs.Embeddings.{HasTyped, Lies}
use Rattle.lmn_solid_heads.specs.Heads.{HeadTyped, atoms_of, membranes_of}
use Rattle.lmn_congruence_splice.specs.Splice.{IsOneOf}
use Rattle.lmn_solid_bodies.specs.declared.items.BodyItem.{BodyItem}
use Rattle.lmn_solid_bodies.specs.declared.items.BodyItem.TheVariants.{Bound}
use Rattle.lmn_solid_bodies.specs.Rules.{NestedRule}
use Rattle.lmn_solid_bodies.specs.Running.{Registers}
use Rattle.lmn_solid_bodies.specs.Within.{FiresFlat, HoldsRests}
use Rattle.lmn_verify_renaming.specs.Renamed.{Renaming, SameButRoom, renamed, renamed_port}

-- The registers s hold with other numbers what the registers r hold of the head of a flat rule, and of the integers of its body.
pub record SameMatch (q : Renaming) (head : List HeadItem) (body : List BodyItem) (r s : Registers) : Type 0 where
  pub atoms : (k : ℕ) → k < length (atoms_of head) → s.head.images.atom k ≡ q.atoms.to (r.head.images.atom k)
  pub membranes : (k : ℕ) → k < 1 + length (membranes_of head) → s.head.images.membrane k ≡ q.mems.to (r.head.images.membrane k)
  pub parts : (g : ℕ) (t : HeadTyped) → HasTyped head g t → s.head.images.part g ≡ renamed_port q.atoms.to (r.head.images.part g)
  pub integers : (v link inside : ℕ) → IsOneOf (Bound v link inside) body → s.head.integer v ≡ r.head.integer v

-- Where heaps are one with other numbers, but for room for rules and marks of membranes, and a flat rule fires on both at one match, what it
-- leaves is one with other numbers, but for these.
abbrev pub FiringsAreRenamed : Type 0
FiringsAreRenamed = (head : List HeadItem) (body : List BodyItem) (links : ℕ) → NestedRule head body links →
    (q : Renaming) (h k : Heap) → Valid h → Valid k → SameButRoom (renamed q h) k →
    (m : ℕ) → IsMemInPlace h m → (r s : Registers) → Lies h head m r.head.images → HoldsRests h r head → HoldsRests k s head → SameMatch q head body r s →
    (h' k' : Heap) → Valid h' → Valid k' → Unmarked h' → Unmarked k' → FiresFlat head body r h h' → FiresFlat head body s k k' →
    (p : Renaming) × SameButRoom (renamed p h') k'
