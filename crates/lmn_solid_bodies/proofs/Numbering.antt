-- Every valid heap has numbers for its links.
use Rattle.std.proofs.Common.{ℕ, ◌<◌, ◌≡◌, ◌≢◌, ◌⊎◌, Option, Some, None, IsSome, length, refl, sym, ap, subst, ◌∙◌, inl, inr, arith}
use Rattle.std.specs.Prelude.{min}
use Rattle.std.proofs.Math.Nat.{min_comm}
use Rattle.lmn_store_heap.specs.Heap.{Heap, HeapAtom, IsAtom, arity_of, partners_of}
use Rattle.lmn_store_heap.specs.Sound.{Valid}
use Rattle.lmn_store_heap.proofs.Replacing.{port_within}
use Rattle.lmn_solid_bodies.specs.Tied.{partners}
use Rattle.lmn_solid_bodies.specs.Names.{StandsPort, Names}
use Rattle.lmn_solid_bodies.specs.Laws.{LinksHaveNumbers}
use Rattle.lmn_base.specs.Graphs.{Port}
use Rattle.lmn_base.proofs.Numbers.{min_is_one as one_of}
use Rattle.lmn_base.proofs.Common.{port_of_number, lesser, port_number}

-- The number of a link is the lesser number of its ports

-- a number for each link: the less of its two ports
abbrev pub numbers : Heap → Port → ℕ
numbers h p = lesser p (partners h p)

-- two ports whose links have one number are one, or partners
pub one_link : (s : Heap) → ((p q : Port) → partners s p ≡ Some q → partners s q ≡ Some p) → (p q x y : Port) → partners s p ≡ Some x → partners s q ≡ Some y → min (port_number p) (port_number x) ≡ min (port_number q) (port_number y)
    → (p ≡ q) ⊎ (partners s p ≡ Some q)
one_link s back p q x y ex ey m = by (one_of (port_number p) (port_number x)) (one_of (port_number q) (port_number y))
  where
    some : (x y : Port) → ◌≡◌ {A = Option Port} (Some x) (Some y) → x ≡ y
    some x y e = (cc)

    by : (min (port_number p) (port_number x) ≡ port_number p) ⊎ (min (port_number p) (port_number x) ≡ port_number x) → (min (port_number q) (port_number y) ≡ port_number q) ⊎ (min (port_number q) (port_number y) ≡ port_number y) → (p ≡ q) ⊎ (partners s p ≡ Some q)
    by (inl a) (inl b) = inl (port_of_number p q (sym a ∙ m ∙ b))
    by (inl a) (inr b) = inr (subst (λ z. partners s z ≡ Some q) (sym (port_of_number p y (sym a ∙ m ∙ b))) (back q y ey))
    by (inr a) (inl b) = inr (ex ∙ ap Some (port_of_number x q (sym a ∙ m ∙ b)))
    by (inr a) (inr b) = inl (some p q (sym (back p x ex) ∙ ap (partners s) (port_of_number x y (sym a ∙ m ∙ b)) ∙ back q y ey))

module _ (h : Heap) (valid : Valid h) where
  is_atom : (a i : ℕ) → i < arity_of h a → IsAtom h a
  is_atom a i l = by (h.atoms a) l
    where
      by : (o : Option HeapAtom) → i < length (partners_of o) → IsSome o
      by None l = absurd (omega arith)
      by (Some x) l = refl

  stands : (p q : Port) → partners h p ≡ Some q → StandsPort h p
  stands p q e = let l = port_within h (p.0) (p.1) q e in (valid.settled.atoms (p.0) (is_atom (p.0) (p.1) l), l)

  back : (p q : Port) → partners h p ≡ Some q → partners h q ≡ Some p
  back p q e = valid.sound.paired.back (p.0) (p.1) (q.0) (q.1) e

  with_partner : (p q : Port) → partners h p ≡ Some q → numbers h p ≡ min (port_number p) (port_number q)
  with_partner p q e = ap (lesser p) e

  partner : (p : Port) → StandsPort h p → (q : Port) × StandsPort h q × (partners h p ≡ Some q) × (q ≢ p) × (numbers h q ≡ numbers h p)
  partner p s = by (partners h p) refl (valid.full (p.0) (p.1) s.1)
    where
      by : (o : Option Port) → partners h p ≡ o → IsSome o → (q : Port) × StandsPort h q × (partners h p ≡ Some q) × (q ≢ p) × (numbers h q ≡ numbers h p)
      by None e i = absurd (cc)
      by (Some q) e i = (
        q,
        stands q p (back p q e),
        e,
        λ f. valid.sound.paired.apart (p.0) (p.1) (e ∙ ap Some f),
        with_partner q p (back p q e) ∙ min_comm (port_number q) (port_number p) ∙ sym (with_partner p q e),
      )

  only : (p q : Port) → StandsPort h p → StandsPort h q → numbers h p ≡ numbers h q → (p ≡ q) ⊎ (partners h p ≡ Some q)
  only p q sp sq e =
      let u = partner p sp in
      let v = partner q sq in
      one_link h back p q (u.0) (v.0) (u.2) (v.2) (sym (with_partner p (u.0) (u.2)) ∙ e ∙ with_partner q (v.0) (v.2))

  pub names : Names h (numbers h)
  names = record { partner = partner; only = only }

-- the links of every valid heap can be numbered
pub links_have_numbers : LinksHaveNumbers
links_have_numbers h valid = (numbers h, names h valid)
