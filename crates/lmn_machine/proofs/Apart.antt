-- Two parts that were found are one or have no atom in common.
use Rattle.std.proofs.Common.{◌≡◌, ◌≢◌, ◌⊎◌, ℕ, List, Option, Some, None, refl, arith, ap, sym, subst, ◌∙◌, inl, inr}
use Rattle.lmn_base.specs.Graphs.{Reached, at_root, across}
use Rattle.lmn_store_heap.specs.Heap.{Heap, arity_of, link_of, port_id, Unmarked}
use Rattle.lmn_store_heap.specs.Graphs.{atom_map}
use Rattle.lmn_store_heap.specs.Sound.{Sound}
use Rattle.lmn_ground.specs.Spread.{IsWhole}
use Rattle.lmn_ground.proofs.GroundLaws.{ground_full}
use Rattle.lmn_machine.specs.Searching.{IsHeldPart}
use Rattle.lmn_base.proofs.Numbers.{same_or_not as number_cases}

port_cases : (p q : ℕ × ℕ) → (p ≡ q) ⊎ (p ≢ q)
port_cases p q = elim (number_cases p.0 q.0) [
  | inl e ↦ elim (number_cases p.1 q.1) [ inl f ↦ inl (ap (λ n. (n, p.1)) e ∙ ap (λ n. (q.0, n)) f) | inr d ↦ inr (λ s. d (ap (λ x. x.1) s)) ]
  | inr d ↦ inr (λ s. d (ap (λ x. x.0) s))
]

module _ {A : Type 0} (atom : A → ℕ) (h : Heap) (sound : Sound h) (handles : List A) where
  pub held_full : Unmarked h → (p : A × ℕ) → IsHeldPart atom h handles p → IsWhole h (port_id atom p) None
  held_full z p k = ground_full h h (port_id atom p) k.whole.0 sound (record { whole = k.whole.1; unmatched = λ a r t. (let n = z a (arity_of h a) in absurd (omega (arith, n, t))) }) refl

  -- where a part meets another, the other has its root's atom
  back_to_root : (p q : A × ℕ) → IsHeldPart atom h handles p → IsHeldPart atom h handles q → (b : ℕ) → Reached (atom_map h) (port_id atom q) b → Reached (atom_map h) (port_id atom p) b → Reached (atom_map h) (port_id atom p) (atom q.0)
  back_to_root p q k l b at_root r = r
  back_to_root p q k l b (across {a = a} {b = b'} {i = i} {j = j} s ne e) r =
      let back : link_of h b' j ≡ Some (a, i) = sound.paired.back a i b' j e in
      back_to_root p q k l a s (elim (port_cases (b', j) (port_id atom p)) [
        | inl t ↦ (
            let there : link_of h (atom p.0) p.1 ≡ Some (atom k.holder.2.0, k.holder.1) = sound.paired.back (atom k.holder.2.0) k.holder.1 (atom p.0) p.1 k.holder.2.2 in
            let here : link_of h (atom p.0) p.1 ≡ Some (a, i) = subst (λ (x : ℕ × ℕ). link_of h x.0 x.1 ≡ Some (a, i)) t back in
            let both : ◌≡◌ {A = Option (ℕ × ℕ)} (Some (atom k.holder.2.0, k.holder.1)) (Some (a, i)) = sym there ∙ here in
            let pair : ◌≡◌ {A = ℕ × ℕ} (atom k.holder.2.0, k.holder.1) (a, i) = cc in
            let same : atom k.holder.2.0 ≡ a = ap (λ x. x.0) pair in
            absurd ((l.apart a s).differ k.holder.0 k.holder.2.0 k.holder.2.1 same))
        | inr d ↦ across r d back
      ])

  pub one_or_apart : (p q : A × ℕ) → IsHeldPart atom h handles p → IsHeldPart atom h handles q →
      ((atom p.0 ≡ atom q.0) × (p.1 ≡ q.1)) ⊎ ((a : ℕ) → Reached (atom_map h) (port_id atom p) a → Reached (atom_map h) (port_id atom q) a → ⊥)
  one_or_apart p q k l = elim (port_cases (port_id atom p) (port_id atom q)) [
    | inl e ↦ inl (ap (λ x. x.0) e, ap (λ x. x.1) e)
    | inr d ↦ inr (λ a r s. (
        let root = back_to_root p q k l a s r in
        let there : link_of h (atom q.0) q.1 ≡ Some (atom l.holder.2.0, l.holder.1) = sound.paired.back (atom l.holder.2.0) l.holder.1 (atom q.0) q.1 l.holder.2.2 in
        (k.apart (atom l.holder.2.0) (across root (λ e. d (sym e)) there)).differ l.holder.0 l.holder.2.0 l.holder.2.1 refl))
  ]
