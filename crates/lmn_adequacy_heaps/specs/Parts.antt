-- The laws between the parts of a heap and the ground parts of the calculus.
use Rattle.std.specs.Prelude.{ℕ, ℤ, ◌≡◌, ◌≢◌, ◌↔◌, List, Some}
use Rattle.lmn_base.specs.declared.rule.RuleTree.{RuleTree}
use Rattle.lmn_base.specs.Graphs.{Reached, StandsWhole, SameGraph as SameOnHeap, Port}
use Rattle.lmn_store_heap.specs.Heap.{Heap, link_of, atoms_in}
use Rattle.lmn_store_heap.specs.Graphs.{atom_map}
use Rattle.lmn_store_heap.specs.Lists.{Distinct}
use Rattle.lmn_solid_heads.specs.Guards.{IsUnaryPart as UnaryOnHeap, integer_at}
use Rattle.lmn_reduction.specs.Parts.{Rooted, IsGround, IsInteger, IsUnary, EqualParts}
use Rattle.lmn_adequacy.specs.Embedding.{IsPart, Merged}
use Rattle.lmn_adequacy_heaps.specs.HeapRegions.{HeapReading, atoms_at}
use Rattle.lmn_guards.specs.declared.plan.TypeKind.{TypeKind}
use Rattle.lmn_base.specs.declared.guard.Cond.{Cond}
use Rattle.lmn_solid_heads.specs.declared.items.HeadItem.{HeadItem}
use Rattle.lmn_solid_heads.specs.Embeddings.{Images, Embeds, HasLink, HasTyped}
use Rattle.lmn_solid_heads.specs.Flattening.{items_of_head}
use Rattle.lmn_solid_heads.specs.Heads.{HeadTyped}
use Rattle.lmn_congruence.specs.Rules.{Name}
use Rattle.lmn_congruence.specs.Translation.{name_of}
use Rattle.lmn_adequacy_heaps.specs.Premises.{IsRead}
use Rattle.lmn_base.specs.Lists.{In}

-- Some atoms of a membrane are, in the calculus, a ground part with this root. The root is joined to a port of an atom
-- that isn't one of them.
pub record IsGroundPart (h : Heap) (r : HeapReading) (m : ℕ) (root : Port) (part : List ℕ) (g : Rooted) : Type 0 where
  pub once : Distinct part
  pub inside : (a : ℕ) → In a part → In a (atoms_in h m)
  pub holder : Port
  pub link : link_of h root.0 root.1 ≡ Some holder
  pub away : In holder.0 part → ⊥
  pub ground : IsGround g
  pub is : IsPart g (r.name root.0 root.1) (atoms_at h r part)

-- the list has just the atoms of the part that is entered at a port
abbrev pub HasPart : Heap → Port → List ℕ → Type 0
HasPart h root part = (a : ℕ) → In a part ↔ Reached (atom_map h) root a

-- A part that stands whole in a membrane, and is entered from outside of it, is ground: it can be taken out of each list
-- that has its atoms.
abbrev pub WholePartsAreGround : Type 0
WholePartsAreGround = (h : Heap) (r : HeapReading) (m : ℕ) (root holder : Port) (xs : List ℕ) → IsRead h r →
    StandsWhole (atom_map h) root m → link_of h root.0 root.1 ≡ Some holder → (Reached (atom_map h) root holder.0 → ⊥) →
    Distinct xs → ((a : ℕ) → Reached (atom_map h) root a → In a xs) →
    (part : List ℕ) × (rest : List ℕ) × (g : Rooted) × Merged part rest xs × HasPart h root part × IsGroundPart h r m root part g

-- Atoms that are a ground part are what is reached on the heap, and stand whole.
abbrev pub GroundPartsStandWhole : Type 0
GroundPartsStandWhole = (h : Heap) (r : HeapReading) (m : ℕ) (root : Port) (part : List ℕ) (g : Rooted) → IsRead h r →
    IsGroundPart h r m root part g → StandsWhole (atom_map h) root m × HasPart h root part

-- Two parts are equal as rooted graphs on the heap exactly where they are in the calculus.
abbrev pub EqualPartsAlike : Type 0
EqualPartsAlike = (h : Heap) (r : HeapReading) (m n : ℕ) (p q : Port) (part other : List ℕ) (g k : Rooted) → IsRead h r →
    IsGroundPart h r m p part g → IsGroundPart h r n q other k → SameOnHeap (atom_map h) p (atom_map h) q ↔ EqualParts g k

-- Two parts that are entered at different ports, each from outside of both, have no atom in common.
abbrev pub PartsAreApart : Type 0
PartsAreApart = (h : Heap) (r : HeapReading) (p q outer other : Port) → IsRead h r → p ≢ q →
    link_of h p.0 p.1 ≡ Some outer → link_of h q.0 q.1 ≡ Some other →
    (Reached (atom_map h) q outer.0 → ⊥) → (Reached (atom_map h) p other.0 → ⊥) →
    (a : ℕ) → Reached (atom_map h) p a → Reached (atom_map h) q a → ⊥

-- A part is one atom of arity 1 on the heap exactly where it is in the calculus.
abbrev pub UnaryPartsAlike : Type 0
UnaryPartsAlike = (h : Heap) (r : HeapReading) (m : ℕ) (root : Port) (part : List ℕ) (g : Rooted) → IsRead h r → IsGroundPart h r m root part g →
    UnaryOnHeap h root ↔ IsUnary g

-- and so for an integer
abbrev pub IntegerPartsAlike : Type 0
IntegerPartsAlike = (h : Heap) (r : HeapReading) (m : ℕ) (root : Port) (part : List ℕ) (g : Rooted) (z : ℤ) → IsRead h r → IsGroundPart h r m root part g →
    (integer_at h root ≡ Some z) ↔ IsInteger z g

-- typed contexts are taken to their parts
abbrev pub TakesParts : Heap → HeapReading → (ℕ → TypeKind) → RuleTree → Images → (Name → Rooted) → Type 0
TakesParts h r kind rule f typed_of = (n : ℕ) (u : HeadTyped) → HasTyped (items_of_head kind rule.head) n u →
    (part : List ℕ) × IsGroundPart h r (f.membrane u.inside) (f.part n) part (typed_of (name_of r.names u.name))

-- The part of a typed context of an embedded head, held by a link at a port of the head, is ground in the calculus: it can
-- be taken out of each list that has its atoms.
abbrev pub EmbeddedPartsAreGround : Type 0
EmbeddedPartsAreGround = (h : Heap) (r : HeapReading) (items : List HeadItem) (guard : List Cond) (m : ℕ) (f : Images) (n : ℕ) (u : HeadTyped) (p : Port) (xs : List ℕ) →
    IsRead h r → Embeds h items guard m f → HasTyped items n u → HasLink items u.link p →
    Distinct xs → ((a : ℕ) → Reached (atom_map h) (f.part n) a → In a xs) →
    (part : List ℕ) × (rest : List ℕ) × (g : Rooted) × Merged part rest xs × HasPart h (f.part n) part × IsGroundPart h r (f.membrane u.inside) (f.part n) part g

-- Two such parts, held at different ports of the head, have no atom in common.
abbrev pub EmbeddedPartsAreApart : Type 0
EmbeddedPartsAreApart = (h : Heap) (r : HeapReading) (items : List HeadItem) (guard : List Cond) (m : ℕ) (f : Images) (n k : ℕ) (u w : HeadTyped) (p q : Port) →
    IsRead h r → Embeds h items guard m f → HasTyped items n u → HasTyped items k w → HasLink items u.link p → HasLink items w.link q → p ≢ q →
    (a : ℕ) → Reached (atom_map h) (f.part n) a → Reached (atom_map h) (f.part k) a → ⊥
