-- The part of a name, found by its number among the typed contexts of a head.
use Rattle.std.proofs.Common.{ℕ, ◌≡◌, List, Some, subst, arith}
use Rattle.lmn_base.specs.declared.rule.RuleTree.{RuleTree}
use Rattle.lmn_guards.specs.declared.plan.TypeKind.{TypeKind}
use Rattle.lmn_store_heap.specs.Heap.{Heap}
use Rattle.lmn_solid_heads.specs.Embeddings.{Images}
use Rattle.lmn_solid_heads.specs.Flattening.{items_of_head}
use Rattle.lmn_solid_heads.specs.Guards.{typed_number}
use Rattle.lmn_solid_heads.specs.Heads.{typed_contexts_of}
use Rattle.lmn_congruence.specs.Rules.{Name}
use Rattle.lmn_congruence.specs.Translation.{name_of}
use Rattle.lmn_reduction.specs.Parts.{Rooted}
use Rattle.lmn_adequacy_heaps.specs.HeapRegions.{HeapReading}
use Rattle.lmn_adequacy_heaps.specs.Parts.{IsGroundPart, TakesParts}
use Rattle.lmn_adequacy_heaps.proofs.TypeConditions.{number_is}

-- the part with the number of a name is what the name stands for
pub part_named : (h : Heap) (r : HeapReading) (kind : ℕ → TypeKind) (rule : RuleTree) (f : Images) (typed_of : Name → Rooted) → TakesParts h r kind rule f typed_of → (n g : ℕ) →
    typed_number (typed_contexts_of (items_of_head kind rule.head)) 0 n ≡ Some g → (x : ℕ) × (part : List ℕ) × IsGroundPart h r x (f.part g) part (typed_of (name_of r.names n))
part_named h r kind rule f typed_of takes n g e =
    let w = number_is (typed_contexts_of (items_of_head kind rule.head)) 0 n g e in
    let z : w.0 ≡ g = omega (arith, w.4) in
    let u = takes w.0 w.1 w.2 in (
      f.membrane w.1.inside,
      u.0,
      subst (λ k. IsGroundPart h r (f.membrane w.1.inside) (f.part k) u.0 (typed_of (name_of r.names n))) z
          (subst (λ y. IsGroundPart h r (f.membrane w.1.inside) (f.part w.0) u.0 (typed_of (name_of r.names y))) w.3 u.1),
    )
