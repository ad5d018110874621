-- Whether an atom is a child, by the port to which its last port is joined.
use Rattle.std.proofs.Common.{◌≡◌, ◌≢◌, ℕ, ◌+◌, ◌-◌, ◌<◌, ◌⊎◌, inl, inr, Some, sym, ◌∙◌, subst, arith}
use Rattle.lmn_store_heap.specs.Heap.{Heap, arity_of, atoms_in, link_of, own_mark}
use Rattle.lmn_store_heap.specs.Lists.{after}
use Rattle.lmn_store_heap.specs.Sound.{Sound}
use Rattle.lmn_print_plain.proofs.OrderLemmas.{at_home}
use Rattle.lmn_print_folding.specs.Children.{IsChildAt}
use Rattle.lmn_print_folding.specs.Marking.{AreBeside, IsChildNowhere, IsChildSomewhere, TellsBefore}
use Rattle.lmn_print_folding.proofs.Orders.{home_in}
use Rattle.lmn_base.proofs.Numbers.{same_or_not as number_cases}
use Rattle.lmn_store_heap.proofs.Common.{same_port}
use Rattle.lmn_base.specs.Lists.{In}

module _ (s : Heap) (sound : Sound s) (q p k : ℕ) (ports : 0 < arity_of s q) (joined : link_of s q (arity_of s q - 1) ≡ Some (p, k)) where
  -- it is joined to one port
  one_port : (m r j : ℕ) → IsChildAt s m q r j → IsChildAt s m q p k
  one_port m r j c =
      let same = same_port (sym c.joined ∙ joined) in
      subst (λ x. IsChildAt s m q x k) same.0 (subst (λ x. IsChildAt s m q r x) same.1 c)

  pub own_port : q ≡ p → IsChildNowhere s q
  own_port e m r j c = (one_port m r j c).other e

  pub apart : (AreBeside s q p → ⊥) → IsChildNowhere s q
  apart h m r j c = let d = one_port m r j c in h (m, home_in s sound m q d.child, home_in s sound m p d.parent)

  module _ (before : TellsBefore s q) (low : k < arity_of s p) where
    pub is_no_child : (((k + 1 < arity_of s p) ⊎ (own_mark s p ≡ 1)) → ⊥) → IsChildNowhere s q
    is_no_child h m r j c =
        let d = one_port m r j c in
        elim (number_cases (k + 1) (arity_of s p)) [
          | inl e ↦ elim d.before [
            | inl n ↦ n e
            | inr i ↦ h (inr ((before m p k d.child d.parent joined e).1 i))
          ]
          | inr n ↦ h (inl (omega (arith, low, n)))
        ]

    pub is_child : q ≢ p → AreBeside s q p → (k + 1 < arity_of s p) ⊎ (own_mark s p ≡ 1) → IsChildSomewhere s q
    is_child other beside h = (beside.0, p, k, record { child = child; parent = parent; ports = ports; joined = joined; other = other; before = by h (number_cases (k + 1) (arity_of s p)) })
      where
        child : In q (atoms_in s beside.0)
        child = (at_home s sound q beside.0 beside.1).0

        parent : In p (atoms_in s beside.0)
        parent = (at_home s sound p beside.0 beside.2).0

        by : (k + 1 < arity_of s p) ⊎ (own_mark s p ≡ 1) → (k + 1 ≡ arity_of s p) ⊎ (k + 1 ≢ arity_of s p) → (k + 1 ≢ arity_of s p) ⊎ In q (after p (atoms_in s beside.0))
        by h (inr n) = inl n
        by (inl l) (inl e) = absurd (omega (arith, l, e))
        by (inr o) (inl e) = inr ((before beside.0 p k child parent joined e).0 o)
