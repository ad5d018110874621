-- The number of a link may be the lesser of the numbers of its two ports.
use Rattle.std.proofs.Common.{ℕ, ◌<◌, ◌≡◌, ◌⊎◌, Option, Some, None, IsSome, refl, sym, ap, ◌∙◌, inl, inr}
use Rattle.std.specs.Prelude.{min}
use Rattle.std.proofs.lemmas.Option.{same_Some}
use Rattle.std.proofs.Math.Nat.{min_comm}
use Rattle.lmn_store_heap.specs.Heap.{Heap, arity_of, link_of}
use Rattle.lmn_adequacy_heaps.specs.Laws.{HeapsAreNamed}
use Rattle.lmn_base.specs.Graphs.{Port}
use Rattle.lmn_base.proofs.Numbers.{min_is_one as one_of}
use Rattle.lmn_base.proofs.Common.{port_number, port_of_number, lesser}

-- ---- ports as numbers

-- ---- links

abbrev link_number : Heap → ℕ → ℕ → ℕ
link_number h a i = lesser (a, i) (link_of h a i)

-- each valid heap has a naming
pub heaps_are_named : HeapsAreNamed
heaps_are_named h v = (link_number h, record { joined = joined; apart = apart })
  where
    is_lesser : (a i b j : ℕ) → link_of h a i ≡ Some (b, j) → link_number h a i ≡ min (port_number (a, i)) (port_number (b, j))
    is_lesser a i b j e = ap (lesser (a, i)) e

    joined : (a i b j : ℕ) → link_of h a i ≡ Some (b, j) → link_number h a i ≡ link_number h b j
    joined a i b j e = is_lesser a i b j e ∙ min_comm (port_number (a, i)) (port_number (b, j)) ∙ sym (is_lesser b j a i (v.sound.paired.back a i b j e))

    partner : (a i : ℕ) → i < arity_of h a → (p : Port) × (link_of h a i ≡ Some p)
    partner a i l = by (link_of h a i) refl (v.full a i l)
      where
        by : (o : Option Port) → link_of h a i ≡ o → IsSome o → (p : Port) × (link_of h a i ≡ Some p)
        by None e s = absurd (cc)
        by (Some p) e s = (p, e)

    both : (a i b j : ℕ) → ◌≡◌ {A = Port} (a, i) (b, j) → (a ≡ b) × (i ≡ j)
    both a i b j e = (ap (λ p. p.0) e, ap (λ p. p.1) e)

    by : (a i b j : ℕ) (x y : Port) → link_of h a i ≡ Some x → link_of h b j ≡ Some y → min (port_number (a, i)) (port_number x) ≡ min (port_number (b, j)) (port_number y) →
        (min (port_number (a, i)) (port_number x) ≡ port_number (a, i)) ⊎ (min (port_number (a, i)) (port_number x) ≡ port_number x) →
        (min (port_number (b, j)) (port_number y) ≡ port_number (b, j)) ⊎ (min (port_number (b, j)) (port_number y) ≡ port_number y) →
        ((a ≡ b) × (i ≡ j)) ⊎ (link_of h a i ≡ Some (b, j))
    by a i b j x y ex ey m (inl s) (inl t) = inl (both a i b j (port_of_number (a, i) (b, j) (sym s ∙ m ∙ t)))
    by a i b j x y ex ey m (inl s) (inr t) =
        let same = port_of_number (a, i) y (sym s ∙ m ∙ t) in
        inr (ap (λ p. link_of h p.0 p.1) same ∙ v.sound.paired.back b j y.0 y.1 ey)
    by a i b j x y ex ey m (inr s) (inl t) = inr (ex ∙ ap Some (port_of_number x (b, j) (sym s ∙ m ∙ t)))
    by a i b j x y ex ey m (inr s) (inr t) =
        let same = port_of_number x y (sym s ∙ m ∙ t) in
        inl (both a i b j (same_Some (a, i) (b, j) (sym (v.sound.paired.back a i x.0 x.1 ex) ∙ ap (λ p. link_of h p.0 p.1) same ∙ v.sound.paired.back b j y.0 y.1 ey)))

    apart : (a i b j : ℕ) → i < arity_of h a → j < arity_of h b → link_number h a i ≡ link_number h b j → ((a ≡ b) × (i ≡ j)) ⊎ (link_of h a i ≡ Some (b, j))
    apart a i b j l k e =
        let p = partner a i l in
        let q = partner b j k in
        by a i b j p.0 q.0 p.1 q.1 (sym (is_lesser a i p.0.0 p.0.1 p.1) ∙ e ∙ is_lesser b j q.0.0 q.0.1 q.1) (one_of (port_number (a, i)) (port_number p.0)) (one_of (port_number (b, j)) (port_number q.0))
