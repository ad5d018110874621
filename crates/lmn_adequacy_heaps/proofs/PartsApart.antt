-- Two parts of a heap have no atom in common.
use Rattle.std.proofs.Common.{ℕ, ◌≡◌, Option, Some, sym, subst, ◌∙◌, inl, inr}
use Rattle.lmn_base.specs.Graphs.{Reached, at_root, across, Port}
use Rattle.lmn_store_heap.specs.Heap.{Heap, link_of}
use Rattle.lmn_store_heap.specs.Graphs.{atom_map}
use Rattle.lmn_store_heap.specs.Sound.{Valid}
use Rattle.lmn_adequacy_heaps.specs.Parts.{PartsAreApart}
use Rattle.lmn_store_heap.proofs.Common.{same_port}
use Rattle.lmn_base.proofs.Numbers.{is_port}

-- from an atom of both the other part is walked back to where the first is entered
walked_back : (h : Heap) (v : Valid h) (p q other : Port) → link_of h q.0 q.1 ≡ Some other → (Reached (atom_map h) p other.0 → ⊥) →
    (a : ℕ) → Reached (atom_map h) p a → Reached (atom_map h) q a → Reached (atom_map h) q p.0
walked_back h v p q other link away a at_root w = w
walked_back h v p q other link away b (across {a = a} {i = i} {j = j} u d e) w =
    let back = v.sound.paired.back a i b j e in
    elim (is_port b j q) [
      | inl s ↦ absurd (
          let z : ◌≡◌ {A = Option (ℕ × ℕ)} (Some (a, i)) (Some (other.0, other.1)) = sym back ∙ (λ t. link_of h (s.0 t) (s.1 t)) ∙ link in
          away (subst (Reached (atom_map h) p) (same_port z).0 u))
      | inr n ↦ walked_back h v p q other link away a u (across w n back)
    ]

-- two parts entered from outside of both have no common atom
pub parts_are_apart : PartsAreApart
parts_are_apart h r p q outer other read d l k away off a u w =
    away (across (walked_back h read.valid p q other k off a u w) d l)
